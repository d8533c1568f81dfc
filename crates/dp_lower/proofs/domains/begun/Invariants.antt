-- The sets so far, with those of the items that are left, are all.
use Rattle.std.proofs.Common.{◌≡◌, ◌++◌, drop}
use Rattle.dp_lower.specs.Cuts.{own_sets}
use Rattle.dp_lower.proofs.domains.begun.Given as goal

abbrev pub invariant-loop-item : goal.invariant-loop-item
invariant-loop-item l = l.sets.items ++ own_sets l.items (drop l.item-index l.items) ≡ own_sets l.items l.items
