-- What was added so far is of the intervals so far.
use Rattle.std.proofs.Common.{◌≡◌, take}
use Rattle.dp_domain.specs.Intervals.{common}
use Rattle.dp_domain.proofs.intervals.common.Given as goal

abbrev pub invariant-loop-interval : goal.invariant-loop-interval
invariant-loop-interval l = l.kept.items ≡ common (take l.interval-index l.intervals) l.others
