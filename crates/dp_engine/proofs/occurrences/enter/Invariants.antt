use Rattle.std.proofs.Common.{◌≡◌, take}
use Rattle.dp_engine.specs.Woken.{entered}
use Rattle.dp_engine.proofs.occurrences.enter.Given as goal

-- the place is in the lists of the variables so far
abbrev pub invariant-loop-at : goal.invariant-loop-at
invariant-loop-at g l = l.lists.items ≡ entered l.initial.lists.items l.place (take l.at (g.R.Test.face l.rule).scope)
