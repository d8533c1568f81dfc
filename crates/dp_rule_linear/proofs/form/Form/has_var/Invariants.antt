-- The variable stands at no place so far.
use Rattle.std.proofs.Common.{◌≡◌, ℕ, ◌<◌, get_or}
use Rattle.dp_rule_linear.specs.Forms.{scope_of}
use Rattle.dp_rule_linear.proofs.form.Form.has_var.Given as goal

abbrev pub invariant-loop-place : goal.invariant-loop-place
invariant-loop-place l = (k : ℕ) → k < l.place → get_or (scope_of l.self) k 0 ≡ l.var → ⊥
