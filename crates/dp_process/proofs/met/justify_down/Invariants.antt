use Rattle.dp_engine.specs.Indexes.{IsOver}
use Rattle.dp_parts.specs.Problems.{posed}
use Rattle.dp_process.proofs.MarkLaws.{IsDown}
use Rattle.dp_process.proofs.met.justify_down.Given as goal

abbrev pub invariant-loop-above : goal.invariant-loop-above
invariant-loop-above l = record {
  over : IsOver (record { problem = l.problem; nogoods = l.nogoods }) l.engine;
  down : IsDown (posed l.problem) l.nogoods l.above l.marks.items l.pieces.items;
}
