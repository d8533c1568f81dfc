use Rattle.std.proofs.Common.{◌≡◌, length}
use Rattle.dp_desk.specs.Sight.{output, with_output}
use Rattle.dp_desk.proofs.Writing.{Written}
use Rattle.dp_desk.proofs.write.write_all.Given as goal

abbrev pub invariant-loop-rest : goal.invariant-loop-rest
invariant-loop-rest g l = record {
  written : Written (output l.out (g.D.Desk.sight l.initial.desk)) (output l.out (g.D.Desk.sight l.desk)) l.bytes l.rest;
  others : g.D.Desk.sight l.desk ≡ with_output l.out (output l.out (g.D.Desk.sight l.desk)) (g.D.Desk.sight l.initial.desk);
  faults_out : g.D.Desk.faults_out l.desk ≡ g.D.Desk.faults_out l.initial.desk;
  faults_in : g.D.Desk.faults_in l.desk ≡ g.D.Desk.faults_in l.initial.desk;
}

abbrev pub decreases-loop-rest : goal.decreases-loop-rest
decreases-loop-rest g l = length l.rest
