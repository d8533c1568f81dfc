-- The condition adds one variable.
use Rattle.std.proofs.Common.{◌≡◌, ◌+◌, length, arith, subst}
use Rattle.dp_rule_linear.specs.Forms.{Linear, form_of, scope_of}
use Rattle.dp_rule_linear.proofs.Places.{length-scope_none, length-scope_some}
use Rattle.dp_rule_linear.proofs.form.Form.scope_len.Goals as goal

pub returns-in-Some : goal.returns-in-Some
returns-in-Some c =
    let q : Linear = form_of c.self.inside.condition c.self.inside.terms.items c.self.inside.rhs in
    let e = length-scope_some q c.in-Some.field-0 c.self.invariant c.in-Some.is in
    subst (λ (q : Linear). c.len.result + 1 ≡ length (scope_of q)) c.self.view_is (omega (arith, e, c.len.ensures))

pub returns-in-None : goal.returns-in-None
returns-in-None c =
    let q : Linear = form_of c.self.inside.condition c.self.inside.terms.items c.self.inside.rhs in
    let e = length-scope_none q c.self.invariant c.in-None.is in
    subst (λ (q : Linear). c.len-in-None.result ≡ length (scope_of q)) c.self.view_is (omega (arith, e, c.len-in-None.ensures))
