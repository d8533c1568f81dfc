-- The gaps so far, with those that are left, are all.
use Rattle.std.proofs.Common.{◌≡◌, ◌++◌, drop, pos, neg_ℤ}
use Rattle.std.specs.Prelude.{◌^◌}
use Rattle.dp_lower.specs.Intervals.{gaps_from}
use Rattle.dp_lower.proofs.intervals.gaps.Given as goal

abbrev pub invariant-loop-first : goal.invariant-loop-first
invariant-loop-first l = l.gaps.items ++ gaps_from l.next (drop l.first-index l.intervals) ≡ gaps_from (neg_ℤ (pos (10 ^ 9))) l.intervals
