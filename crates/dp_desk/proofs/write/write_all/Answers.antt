use Rattle.std.proofs.Common.{◌∙◌}
use Rattle.dp_desk.proofs.Sights.{same_but_output}
use Rattle.dp_desk.proofs.Writing.{written_more}
use Rattle.dp_desk.proofs.write.write_all.Goals as goal

-- one more piece was appended
pub loop-rest-preserved : goal.loop-rest-preserved
loop-rest-preserved g c = record {
  written = rw c.rest_of-rest.ensures (written_more _ _ _ _ _ c.in_ok-count.count c.loop-rest.invariant.written c.in_ok-count.ensures.grows);
  others = same_but_output _ _ _ _ c.loop-rest.invariant.others c.in_ok-count.ensures.rest;
  faults_out = c.in_ok-count.ensures.cause.kept ∙ c.loop-rest.invariant.faults_out;
  faults_in = c.in_ok-count.ensures.other ∙ c.loop-rest.invariant.faults_in;
}
