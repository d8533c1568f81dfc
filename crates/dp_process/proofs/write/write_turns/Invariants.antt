use Rattle.std.proofs.Common.{take}
use Rattle.dp_process.proofs.WritingLaws.{AreWritten}
use Rattle.dp_process.proofs.write.write_turns.Given as goal

abbrev pub invariant-loop-turn : goal.invariant-loop-turn
invariant-loop-turn l = AreWritten l.problem l.numbers l.initial.writer l.writer (take l.turn-index l.turns) l.hints.items
