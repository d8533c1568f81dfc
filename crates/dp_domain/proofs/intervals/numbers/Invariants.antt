-- The numbers of the intervals so far.
use Rattle.std.proofs.Common.{◌≡◌, take}
use Rattle.dp_domain.specs.Sets.{expand}
use Rattle.dp_domain.proofs.intervals.numbers.Given as goal

abbrev pub invariant-loop-interval : goal.invariant-loop-interval
invariant-loop-interval l = l.numbers.items ≡ expand (take l.interval-index l.intervals)
