use Rattle.dp_process.proofs.LogLaws.{AreBelow}
use Rattle.dp_process.proofs.write.write_nogoods.Given as goal

abbrev pub invariant-loop-place : goal.invariant-loop-place
invariant-loop-place l = AreBelow l.problem l.nogoods l.place l.writer l.numbers.items l.counts.nogoods l.counts.steps l.pieces.items
