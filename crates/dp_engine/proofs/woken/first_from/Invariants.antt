use Rattle.std.proofs.Common.{◌-◌, length}
use Rattle.dp_engine.specs.Woken.{AreMarked, AreResting}
use Rattle.dp_engine.proofs.woken.first_from.Given as goal

-- none of those passed is true
abbrev pub invariant-loop-place : goal.invariant-loop-place
invariant-loop-place l = record {
  marked : AreMarked l.marks l.bits;
  resting : AreResting l.place l.bits;
}

abbrev pub decreases-loop-place : goal.decreases-loop-place
decreases-loop-place l = length l.bits - l.place
