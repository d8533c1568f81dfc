-- The terms are of the state, since it covers their scope.
use Rattle.std.proofs.Common.{length, subst, sym, ap, ◌∙◌}
use Rattle.dp_domain.specs.Terms.{AreTermsOf, IsTermOf}
use Rattle.dp_domain.proofs.TermLaws.{terms_covered}
use Rattle.dp_rule_element.specs.Selections.{Selection, terms_of}
use Rattle.dp_rule_element.proofs.element.ElementTest.clash.Goals as goal

pub any_selectable-requires-clause-index : goal.any_selectable-requires-clause-index
any_selectable-requires-clause-index c =
    subst (λ (q : Selection). IsTermOf (length c.args.state.now) q.index) (sym c.self.view_is) (terms_covered c.args.state.now (terms_of c.args.self.now) c.requires).0

pub any_selectable-requires-clause-array : goal.any_selectable-requires-clause-array
any_selectable-requires-clause-array c =
    subst (AreTermsOf (length c.args.state.now)) (sym (c.as_slice.ensures.value ∙ ap (λ (q : Selection). q.array) c.self.view_is)) (terms_covered c.args.state.now (terms_of c.args.self.now) c.requires).1.1

pub any_selectable-requires-clause-value : goal.any_selectable-requires-clause-value
any_selectable-requires-clause-value c =
    subst (λ (q : Selection). IsTermOf (length c.args.state.now) q.value) (sym c.self.view_is) (terms_covered c.args.state.now (terms_of c.args.self.now) c.requires).1.0
