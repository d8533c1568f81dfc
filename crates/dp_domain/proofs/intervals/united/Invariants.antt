-- The union of the intervals so far.
use Rattle.dp_domain.proofs.UnionSteps.{Unites}
use Rattle.dp_domain.proofs.intervals.united.Given as goal

abbrev pub invariant-loop-interval : goal.invariant-loop-interval
invariant-loop-interval l = Unites l.ordered l.interval-index l.merged.items
