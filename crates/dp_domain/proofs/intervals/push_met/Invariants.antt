-- What was added so far is of the intervals so far.
use Rattle.std.proofs.Common.{◌≡◌, ◌++◌, take}
use Rattle.std.specs.List.{flat_map}
use Rattle.dp_domain.specs.Intervals.{met_of}
use Rattle.dp_domain.proofs.intervals.push_met.Given as goal

abbrev pub invariant-loop-interval : goal.invariant-loop-interval
invariant-loop-interval l = l.kept.items ≡ l.initial.kept.items ++ flat_map (met_of l.atom.op l.atom.value) (take l.interval-index l.intervals)
