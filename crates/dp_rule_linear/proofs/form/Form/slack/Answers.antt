-- The terms' variables are of the scope.
use Rattle.std.proofs.Common.{◌<◌, length, subst, sym}
use Rattle.dp_base.specs.Lists.{Each}
use Rattle.dp_domain.specs.Faces.{Covers}
use Rattle.dp_rule_linear.specs.Forms.{Linear, form_of, scope_of, variables}
use Rattle.dp_rule_linear.proofs.Places.{terms_covered}
use Rattle.dp_rule_linear.proofs.form.Form.slack.Goals as goal

pub least_sum-requires-clause-covered : goal.least_sum-requires-clause-covered
least_sum-requires-clause-covered c =
    let q : Linear = form_of c.self.inside.condition c.self.inside.terms.items c.self.inside.rhs in
    subst (λ ts. Each (λ x. x < length c.args.state.now) (variables ts)) (sym c.deref.ensures.value)
    (terms_covered q c.args.state.now (subst (λ (q : Linear). Covers (scope_of q) c.args.state.now) (sym c.self.view_is) c.requires))
