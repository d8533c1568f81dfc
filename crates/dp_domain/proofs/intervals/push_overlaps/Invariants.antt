-- What was added so far is of the others so far.
use Rattle.std.proofs.Common.{◌≡◌, ◌++◌, take}
use Rattle.std.specs.List.{flat_map}
use Rattle.dp_domain.specs.Intervals.{overlap}
use Rattle.dp_domain.proofs.intervals.push_overlaps.Given as goal

abbrev pub invariant-loop-other : goal.invariant-loop-other
invariant-loop-other l = l.kept.items ≡ l.initial.kept.items ++ flat_map (overlap l.interval) (take l.other-index l.others)
