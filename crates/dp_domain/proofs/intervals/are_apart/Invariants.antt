-- All are apart where those that are left are apart and behind the last.
use Rattle.std.proofs.Common.{drop}
use Rattle.dp_domain.specs.Sets.{AreApart}
use Rattle.dp_domain.proofs.UnionSteps.{AreBehind}
use Rattle.dp_domain.proofs.intervals.are_apart.Given as goal

abbrev pub invariant-loop-interval : goal.invariant-loop-interval
invariant-loop-interval l = AreBehind l.end (drop l.interval-index l.intervals) → AreApart l.intervals
