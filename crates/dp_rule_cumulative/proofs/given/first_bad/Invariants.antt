-- The durations and uses before the place are good.
use Rattle.std.proofs.Common.{ℕ, ◌<◌}
use Rattle.dp_rule_cumulative.specs.Refusals.{IsGoodAt}
use Rattle.dp_rule_cumulative.proofs.given.first_bad.Given as goal

abbrev pub invariant-loop-place : goal.invariant-loop-place
invariant-loop-place l = (k : ℕ) → k < l.place → IsGoodAt l.durations l.uses k
