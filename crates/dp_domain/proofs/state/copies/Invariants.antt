-- The sets that were passed are copied.
use Rattle.std.proofs.Common.{◌≡◌, take}
use Rattle.dp_domain.proofs.state.copies.Given as goal

abbrev pub invariant-loop-set : goal.invariant-loop-set
invariant-loop-set l = l.copies.items ≡ take l.set-index l.set-items
