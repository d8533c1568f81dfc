use Rattle.std.proofs.Common.{◌≡◌, map, take}
use Rattle.fz_items.specs.Literals.{range_of}
use Rattle.fz_items.specs.States.{bounds_of}
use Rattle.fz_items.proofs.kinds.bounds.Given as goal

abbrev pub invariant-loop-range : goal.invariant-loop-range
invariant-loop-range l = l.bounds.items ≡ map bounds_of (map range_of (take l.range-index l.ranges))
