-- The gaps so far, with those that are left, are all.
use Rattle.std.proofs.Common.{◌≡◌, ◌++◌, drop}
use Rattle.dp_domain.specs.Intervals.{gaps_from}
use Rattle.dp_domain.proofs.intervals.gaps_from.Given as goal

abbrev pub invariant-loop-first : goal.invariant-loop-first
invariant-loop-first l = l.gaps.items ++ gaps_from l.next (drop l.first-index l.intervals) ≡ gaps_from l.start l.intervals
