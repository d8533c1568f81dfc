-- The condition's variable is of the scope.
use Rattle.std.proofs.Common.{◌≡◌, Some, subst}
use Rattle.dp_rule_linear.specs.Forms.{Linear}
use Rattle.dp_rule_linear.proofs.Places.{condition_covered}
use Rattle.dp_rule_linear.proofs.form.Form.in_force.Goals as goal

pub entails-requires : goal.entails-requires
entails-requires c =
    condition_covered c.args.self.now c.in-Some.condition c.args.state.now (subst (λ (q : Linear). q.condition ≡ Some c.in-Some.condition) c.self.view_is c.in-Some.is) c.requires
