use Rattle.std.proofs.Common.{◌≡◌, ℕ, List, take, length}
use Rattle.dp_engine.specs.Woken.{entered}
use Rattle.dp_engine.proofs.occurrences.leave.Given as goal

-- the place is in the lists of the variables that are left
abbrev pub invariant-loop-at : goal.invariant-loop-at
invariant-loop-at g l = record {
  count : length l.lists.items ≡ length l.initial.lists.items;
  left : (before : List (List ℕ)) (place : ℕ) → l.initial.lists.items ≡ entered before place (take l.count (g.R.Test.face l.rule).scope) → l.lists.items ≡ entered before place (take l.at (g.R.Test.face l.rule).scope);
}
