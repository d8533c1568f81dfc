-- The first bound is the turn.
use Rattle.std.proofs.Common.{◌<◌, length, ap, arith, subst, sym, ◌∙◌}
use Rattle.std.proofs.lemmas.Int.{ints}
use Rattle.dp_base.specs.Lists.{Each}
use Rattle.dp_rule_linear.specs.Forms.{Linear, variables}
use Rattle.dp_rule_linear.proofs.AtMostTurns.{bounds_found}
use Rattle.dp_rule_linear.proofs.Places.{terms_covered}
use Rattle.dp_rule_linear.proofs.lin_le.LinLe.in_force_turn.Goals as goal

pub first_bound-requires-clause-covered : goal.first_bound-requires-clause-covered
first_bound-requires-clause-covered c =
    subst (λ ts. Each (λ x. x < length c.args.state.now) (variables ts)) (sym (c.terms.ensures.terms ∙ ap (λ (q : Linear). q.terms) c.self.view_is)) (terms_covered c.args.self.now c.args.state.now c.requires.covers)

pub returns : goal.returns
returns c =
    bounds_found c.args.self.now c.args.state.now _ c.terms.result.now c.first_bound.result c.found.result c.requires.proper c.requires.covers c.requires.alive c.requires.domains c.requires.in_force
    (omega (arith, ints, c.requires.slack, c.requires.bounded.0, c.requires.bounded.1)) (omega (arith, ints, c.requires.bounded.0, c.requires.bounded.1, c.if-slack-lt0.false)) (c.terms.ensures.terms ∙ ap (λ (q : Linear). q.terms) c.self.view_is) c.first_bound.ensures c.found.ensures
