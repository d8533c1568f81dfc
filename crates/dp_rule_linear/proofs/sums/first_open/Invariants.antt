-- The variables so far have one value each.
use Rattle.std.proofs.Common.{◌≡◌, ℕ, ◌<◌, ◌≤◌, true}
use Rattle.dp_domain.specs.States.{values}
use Rattle.dp_rule_linear.specs.Differs.{is_single}
use Rattle.dp_rule_linear.specs.Forms.{term_at}
use Rattle.dp_rule_linear.proofs.sums.first_open.Given as goal

abbrev pub invariant-loop-place : goal.invariant-loop-place
invariant-loop-place l = (j : ℕ) → l.start ≤ j → j < l.place → is_single (values l.state (term_at l.terms j).1) ≡ true
