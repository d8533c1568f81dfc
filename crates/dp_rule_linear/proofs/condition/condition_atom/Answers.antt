-- One value that does not meet the condition is all that is supported.
use Rattle.std.proofs.Common.{ℕ, ap, sym, ◌∙◌}
use Rattle.dp_domain.specs.States.{values}
use Rattle.dp_rule_linear.specs.Differs.{is_single}
use Rattle.dp_rule_linear.proofs.ConditionSteps.{single_fails}
use Rattle.dp_rule_linear.proofs.UnequalSteps.{atom_whole}
use Rattle.dp_rule_linear.specs.Bounds.{failing_values}
use Rattle.dp_rule_linear.proofs.condition.condition_atom.Goals as goal

pub returns-then-is_single-clause-atom : goal.returns-then-is_single-clause-atom
returns-then-is_single-clause-atom c =
    sym (atom_whole (values c.args.state.now c.args.condition.var) (failing_values c.args.state.now c.args.condition) c.args.condition.var
    (single_fails (values c.args.state.now c.args.condition.var) c.args.condition
    (sym (c.if-is_single.ensures.single ∙ ap (λ (x : ℕ). is_single (values c.args.state.now x)) c.var-var.ensures)) c.requires.open_))
