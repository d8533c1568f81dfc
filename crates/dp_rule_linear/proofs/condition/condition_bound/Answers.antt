-- One value that does not meet the condition is all that is supported.
use Rattle.std.proofs.Common.{ℕ, ap, ◌∙◌}
use Rattle.dp_domain.specs.States.{values}
use Rattle.dp_rule_linear.specs.Differs.{is_single}
use Rattle.dp_rule_linear.proofs.ConditionSteps.{single_bound}
use Rattle.dp_rule_linear.proofs.condition.condition_bound.Goals as goal

pub returns-then-is_single-clause-bound : goal.returns-then-is_single-clause-bound
returns-then-is_single-clause-bound c =
    single_bound (values c.args.state.now c.args.condition.var) c.args.condition (c.if-is_single.ensures.single ∙ ap (λ (x : ℕ). is_single (values c.args.state.now x)) c.var-var.ensures) c.requires.open_
