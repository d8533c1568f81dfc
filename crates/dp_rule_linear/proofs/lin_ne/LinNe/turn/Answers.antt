-- Two variables with several values: nothing follows.
use Rattle.std.proofs.Common.{◌<◌, length, ap, subst, sym, ◌∙◌}
use Rattle.dp_base.specs.Lists.{Each}
use Rattle.dp_rule_linear.specs.Forms.{IsProper, Linear, variables}
use Rattle.dp_rule_linear.proofs.DiffersTurns.{many_found}
use Rattle.dp_rule_linear.proofs.Places.{terms_covered}
use Rattle.dp_rule_linear.proofs.lin_ne.LinNe.turn.Goals as goal

pub first_open-requires : goal.first_open-requires
first_open-requires c =
    subst (λ ts. Each (λ x. x < length c.args.state.now) (variables ts)) (sym (c.terms-terms.ensures.terms ∙ ap (λ (q : Linear). q.terms) c.self.view_is))
    (terms_covered c.args.self.now c.args.state.now c.requires.covers)

pub first_open-requires-in-Some : goal.first_open-requires-in-Some
first_open-requires-in-Some c =
    subst (λ ts. Each (λ x. x < length c.args.state.now) (variables ts)) (sym (c.terms-terms.ensures.terms ∙ ap (λ (q : Linear). q.terms) c.self.view_is))
    (terms_covered c.args.self.now c.args.state.now c.requires.covers)

pub returns-in-Some-first_open : goal.returns-in-Some-first_open
returns-in-Some-first_open c =
    many_found c.args.self.now c.args.state.now c.terms-terms.result.now c.in-Some.place c.in-Some-first_open.field-0 (c.terms-terms.ensures.terms ∙ ap (λ (q : Linear). q.terms) c.self.view_is)
    (subst IsProper c.self.view_is c.terms-terms.ensures.proper) c.requires.alive c.in-Some.ensures c.in-Some-first_open.ensures
