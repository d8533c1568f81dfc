-- The scope is the variables of the terms, with the condition's in its place.
use Rattle.std.proofs.Common.{◌≡◌, ◌<◌, ◌≤◌, Some, length, ap, arith, subst, sym, ◌∙◌}
use Rattle.std.specs.List.{slice_get}
use Rattle.dp_base.specs.Lists.{Climbs}
use Rattle.dp_rule_linear.specs.Forms.{Linear, scope_of, variables, form_of}
use Rattle.dp_base.specs.Scopes.{with_variable}
use Rattle.dp_rule_linear.proofs.Places.{climbs_good, length-scope_none, length-scope_some, read_at, scope_none, scope_some}
use Rattle.dp_rule_linear.proofs.form.Form.scope_at.Goals as goal

pub at_with-requires-clause-climbs : goal.at_with-requires-clause-climbs
at_with-requires-clause-climbs c = subst (λ ts. Climbs (variables ts)) (sym c.deref.ensures.value) (climbs_good c.self.inside.terms.items c.self.invariant.good)

pub at_with-requires-clause-place : goal.at_with-requires-clause-place
at_with-requires-clause-place c =
    let q : Linear = form_of c.self.inside.condition c.self.inside.terms.items c.self.inside.rhs in
    let e = length-scope_some q c.in-Some.condition c.self.invariant c.in-Some.is in
    let h : c.args.place < length (scope_of q) = subst (λ (q : Linear). c.args.place < length (scope_of q)) (sym c.self.view_is) c.requires in
    subst (λ ts. c.args.place ≤ length ts) (sym c.deref.ensures.value) (omega arith)

pub index-requires : goal.index-requires
index-requires c =
    let q : Linear = form_of c.self.inside.condition c.self.inside.terms.items c.self.inside.rhs in
    let e = length-scope_none q c.self.invariant c.in-None.is in
    let h : c.args.place < length (scope_of q) = subst (λ (q : Linear). c.args.place < length (scope_of q)) (sym c.self.view_is) c.requires in
    omega (arith, e, h)

pub returns-in-Some : goal.returns-in-Some
returns-in-Some c =
    let q : Linear = form_of c.self.inside.condition c.self.inside.terms.items c.self.inside.rhs in
    subst (λ (q : Linear). slice_get (scope_of q) c.args.place ≡ Some c.at_with.result) c.self.view_is
    (ap (λ xs. slice_get xs c.args.place) (scope_some q c.in-Some.condition c.self.invariant c.in-Some.is) ∙ ap (λ ts. slice_get (with_variable c.in-Some.condition.var (variables ts)) c.args.place) (sym c.deref.ensures.value)
    ∙ ap (λ x. slice_get (with_variable x (variables c.deref.result.now)) c.args.place) (sym c.var.ensures) ∙ c.at_with.ensures)

pub returns-in-None : goal.returns-in-None
returns-in-None c =
    let q : Linear = form_of c.self.inside.condition c.self.inside.terms.items c.self.inside.rhs in
    let e = length-scope_none q c.self.invariant c.in-None.is in
    let h : c.args.place < length (scope_of q) = subst (λ (q : Linear). c.args.place < length (scope_of q)) (sym c.self.view_is) c.requires in
    subst (λ (q : Linear). slice_get (scope_of q) c.args.place ≡ Some c.index.result.now.1) c.self.view_is
    (ap (λ xs. slice_get xs c.args.place) (scope_none q c.self.invariant c.in-None.is) ∙ read_at c.self.inside.terms.items c.args.place c.index.result.now (omega (arith, e, h)) c.index.ensures)
