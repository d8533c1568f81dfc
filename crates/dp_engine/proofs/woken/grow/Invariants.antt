use Rattle.std.proofs.Common.{◌-◌, length}
use Rattle.dp_engine.specs.Woken.{IsGrown}
use Rattle.dp_engine.proofs.woken.grow.Given as goal

abbrev pub invariant-loop-woken : goal.invariant-loop-woken
invariant-loop-woken l = IsGrown l.initial.woken l.woken

abbrev pub decreases-loop-woken : goal.decreases-loop-woken
decreases-loop-woken l = l.count - length l.woken
