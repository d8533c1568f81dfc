-- The turn by whether the condition is to be met, and whether a value lies in the set.
use Rattle.std.proofs.Common.{sym, ap, ◌∙◌}
use Rattle.dp_domain.specs.Sets.{share}
use Rattle.dp_rule_clause.specs.Restrictions.{Restriction}
use Rattle.dp_rule_clause.proofs.RestrictionSteps.{answer_against, answer_within, turn-free}
use Rattle.dp_rule_clause.proofs.turns.restriction_turn.Goals as goal

pub returns-in-None : goal.returns-in-None
returns-in-None c =
    let q : Restriction = record { condition = c.args.cond.now; var = c.args.var; set = c.args.set.now } in
    answer_within q c.args.state.now c.turn_within.result c.requires.apart c.requires.covers c.requires.alive (sym c.open_condition.ensures ∙ c.in-None.is) c.turn_within.ensures.turn c.turn_within.ensures.domain

pub returns-then-shares : goal.returns-then-shares
returns-then-shares c =
    let q : Restriction = record { condition = c.args.cond.now; var = c.args.var; set = c.args.set.now } in
    sym (turn-free q c.args.state.now c.in-Some.atom c.requires.apart c.requires.alive (sym c.open_condition.ensures ∙ c.in-Some.is) (ap (λ vs. share vs c.args.set.now) (sym c.set.ensures) ∙ sym c.shares.ensures ∙ c.if-shares.true))

pub returns-else-shares : goal.returns-else-shares
returns-else-shares c =
    let q : Restriction = record { condition = c.args.cond.now; var = c.args.var; set = c.args.set.now } in
    answer_against q c.args.state.now c.in-Some.atom c.turn_against.result c.requires.apart c.requires.covers c.requires.alive (sym c.open_condition.ensures ∙ c.in-Some.is) (ap (λ vs. share vs c.args.set.now) (sym c.set.ensures) ∙ sym c.shares.ensures ∙ c.if-shares.false) c.turn_against.ensures.turn c.turn_against.ensures.domain
