-- The terms before the place are good.
use Rattle.std.proofs.Common.{ℕ, ◌<◌}
use Rattle.dp_rule_linear.specs.Forms.{IsGoodAt}
use Rattle.dp_rule_linear.proofs.sums.first_bad.Given as goal

abbrev pub invariant-loop-place : goal.invariant-loop-place
invariant-loop-place l = (k : ℕ) → k < l.place → IsGoodAt l.terms k
