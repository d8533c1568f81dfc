-- The variable of the one term that has several values may not make the sum the number.
use Rattle.std.proofs.Common.{◌≡◌, ◌^◌, ℕ, ℤ, get_or, ap, arith, false, subst, sym, true, ◌∙◌}
use Rattle.std.proofs.lemmas.Int.{ints}
use Rattle.dp_domain.specs.Conditions.{in_force}
use Rattle.dp_rule_linear.specs.Forms.{HaveDomains, IsBounded, IsProper, Linear, least_product, term_at}
use Rattle.dp_rule_linear.proofs.AtMostTurns.{slack_of}
use Rattle.dp_rule_linear.proofs.DiffersTurns.{open_found, open_off_found}
use Rattle.dp_rule_linear.proofs.UnequalSteps.{coefficient_at, place_covered, place_domain, term_same}
use Rattle.dp_rule_linear.proofs.lin_ne.LinNe.open_turn.Goals as goal

pub returns-then-not-in_force : goal.returns-then-not-in_force
returns-then-not-in_force c =
    open_off_found c.args.self.now c.args.state.now c.args.place (subst IsProper c.self.view_is c.slack-slack.ensures.proper) c.requires.alive c.requires.first
    (subst (λ (q : Linear). false ≡ in_force c.args.state.now q.condition) c.self.view_is c.if-not-in_force.ensures)

pub least_product-requires-clause-covered : goal.least_product-requires-clause-covered
least_product-requires-clause-covered c =
    place_covered c.args.self.now c.args.state.now c.terms.result.now c.args.place c.index-terms-place-2.result c.requires.covers (c.terms.ensures.terms ∙ ap (λ (q : Linear). q.terms) c.self.view_is) c.requires.first.within

pub unequal_atom-requires-clause-bounded : goal.unequal_atom-requires-clause-bounded
unequal_atom-requires-clause-bounded c =
    let proper = subst IsProper c.self.view_is c.terms.ensures.proper in
    subst (IsBounded (10 ^ 16))
    (sym (coefficient_at c.args.self.now c.terms.result.now c.args.place c.index-terms-place.result proper (c.terms.ensures.terms ∙ ap (λ (q : Linear). q.terms) c.self.view_is) c.requires.first.within))
    (proper.good c.args.place c.requires.first.within).bounded

pub unequal_atom-requires-clause-domain : goal.unequal_atom-requires-clause-domain
unequal_atom-requires-clause-domain c =
    place_domain c.args.self.now c.args.state.now c.terms.result.now c.args.place c.index-terms-place-2.result
    (subst (λ (q : Linear). HaveDomains q.terms c.args.state.now) c.self.view_is c.slack-slack.ensures.domains) (c.terms.ensures.terms ∙ ap (λ (q : Linear). q.terms) c.self.view_is) c.requires.first.within

pub unequal_atom-requires-clause-covered : goal.unequal_atom-requires-clause-covered
unequal_atom-requires-clause-covered c =
    place_covered c.args.self.now c.args.state.now c.terms.result.now c.args.place c.index-terms-place-2.result c.requires.covers (c.terms.ensures.terms ∙ ap (λ (q : Linear). q.terms) c.self.view_is) c.requires.first.within

pub returns : goal.returns
returns c =
    let d = c.args.state.now in
    let t = term_at c.args.self.now.terms c.args.place in
    let same = c.terms.ensures.terms ∙ ap (λ (q : Linear). q.terms) c.self.view_is in
    let proper = subst IsProper c.self.view_is c.terms.ensures.proper in
    let is_a = coefficient_at c.args.self.now c.terms.result.now c.args.place c.index-terms-place.result proper same c.requires.first.within in
    let is_x : (get_or c.terms.result.now c.args.place c.index-terms-place-2.result).1 ≡ (term_at c.args.self.now.terms c.args.place).1 =
    ap (λ (u : ℤ × ℕ). u.1) (term_same c.terms.result.now c.args.self.now.terms c.args.place c.index-terms-place-2.result same c.requires.first.within) in
    let p : c.least_product.result ≡ least_product c.args.state.now (term_at c.args.self.now.terms c.args.place) =
    c.least_product.ensures.least ∙ ap (λ z. least_product d (z, (get_or c.terms.result.now c.args.place c.index-terms-place-2.result).1)) is_a ∙ ap (λ (x : ℕ). least_product d (t.0, x)) is_x in
    let s : c.slack-slack.result ≡ slack_of c.args.self.now c.args.state.now = subst (λ (q : Linear). c.slack-slack.result ≡ slack_of q d) c.self.view_is c.slack-slack.ensures.slack in
    open_found c.args.self.now d c.args.place _ _ _ _ c.found.result proper c.requires.covers c.requires.alive
    (subst (λ (q : Linear). HaveDomains q.terms c.args.state.now) c.self.view_is c.slack-slack.ensures.domains) c.requires.first c.requires.rest
    (subst (λ (q : Linear). true ≡ in_force d q.condition) c.self.view_is c.if-not-in_force.ensures) is_a is_x
    (omega (arith, ints, p, s, c.slack-slack.ensures.bounded.0, c.slack-slack.ensures.bounded.1, c.least_product.ensures.bounded.0, c.least_product.ensures.bounded.1)) c.in_ok-unequal_atom.ensures c.found.ensures
