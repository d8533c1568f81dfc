-- The terms are of the state, since it covers their scope.
use Rattle.std.proofs.Common.{◌≡◌, IfOk, length, List, subst, sym, ap, ◌∙◌}
use Rattle.dp_domain.specs.Faces.{Covers}
use Rattle.dp_domain.specs.Terms.{AreTermsOf, IsTermOf}
use Rattle.dp_domain.specs.declared.term.Term.{Term}
use Rattle.dp_domain.proofs.TermLaws.{terms_covered}
use Rattle.dp_rule_element.specs.Choices.{selection}
use Rattle.dp_domain.specs.Turns.{turn_of}
use Rattle.dp_rule_element.specs.Selections.{Selection, face_element, scope_of, terms_of}
use Rattle.dp_rule_element.proofs.element.ElementRule.next.Goals as goal

pub found-requires-clause-index : goal.found-requires-clause-index
found-requires-clause-index g c =
    subst (λ (q : Selection). IsTermOf (length c.args.state.now) q.index) (sym c.self.view_is) (terms_covered c.args.state.now (terms_of c.args.self.now) c.requires.covers).0

pub found-requires-clause-array : goal.found-requires-clause-array
found-requires-clause-array g c =
    subst (AreTermsOf (length c.args.state.now)) (sym (c.as_slice-array.ensures.value ∙ ap (λ (q : Selection). q.array) c.self.view_is)) (terms_covered c.args.state.now (terms_of c.args.self.now) c.requires.covers).1.1

pub found-requires-clause-value : goal.found-requires-clause-value
found-requires-clause-value g c =
    subst (λ (q : Selection). IsTermOf (length c.args.state.now) q.value) (sym c.self.view_is) (terms_covered c.args.state.now (terms_of c.args.self.now) c.requires.covers).1.0

pub found-requires-clause-scope : goal.found-requires-clause-scope
found-requires-clause-scope g c =
    c.as_slice.ensures.value ∙ c.self.invariant ∙ ap (λ (xs : List Term). scope_of (selection c.self.inside.index xs c.self.inside.value)) (sym c.as_slice-array.ensures.value)

pub found-requires-clause-covers : goal.found-requires-clause-covers
found-requires-clause-covers g c = subst (λ xs. Covers xs c.args.state.now) (sym (c.as_slice.ensures.value ∙ c.self.invariant ∙ ap scope_of c.self.view_is)) c.requires.covers

pub returns-clause-turn : goal.returns-clause-turn
returns-clause-turn g c =
    subst (λ (q : Selection). IfOk c.found.result (λ turn. turn ≡ turn_of (face_element q) c.args.state.now))
    (ap (λ (xs : List Term). selection c.self.inside.index xs c.self.inside.value) c.as_slice-array.ensures.value ∙ c.self.view_is) c.found.ensures
