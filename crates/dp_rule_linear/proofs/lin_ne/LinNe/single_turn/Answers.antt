-- All variables of the terms have one value: a clash, or what follows for the condition.
use Rattle.std.proofs.Common.{◌≡◌, ap, false, subst, true, ◌∙◌}
use Rattle.dp_domain.specs.Conditions.{in_force}
use Rattle.dp_rule_linear.specs.Forms.{IsProper, Linear}
use Rattle.dp_rule_linear.proofs.AtMostTurns.{slack_of}
use Rattle.dp_rule_linear.proofs.DiffersTurns.{clash_found, condition_found, other_found}
use Rattle.dp_rule_linear.proofs.lin_ne.LinNe.single_turn.Goals as goal

pub returns-then-slack-ne0 : goal.returns-then-slack-ne0
returns-then-slack-ne0 c =
    let d = c.args.state.now in
    other_found c.args.self.now d c.slack.result (subst IsProper c.self.view_is c.slack.ensures.proper) c.requires.alive c.requires.single
    (subst (λ (q : Linear). c.slack.result ≡ slack_of q d) c.self.view_is c.slack.ensures.slack) c.if-slack-ne0.true

pub returns-then-in_force : goal.returns-then-in_force
returns-then-in_force c =
    let d = c.args.state.now in
    clash_found c.args.self.now d c.slack.result c.requires.alive c.requires.single
    (subst (λ (q : Linear). c.slack.result ≡ slack_of q d) c.self.view_is c.slack.ensures.slack) c.slack.ensures.bounded c.if-slack-ne0.false
    (subst (λ (q : Linear). true ≡ in_force d q.condition) c.self.view_is c.if-in_force.ensures)

pub returns-in_ok-condition_atom-in-Some : goal.returns-in_ok-condition_atom-in-Some
returns-in_ok-condition_atom-in-Some c =
    let d = c.args.state.now in
    condition_found c.args.self.now d c.in-Some.condition c.slack.result _ c.found.result (subst IsProper c.self.view_is c.slack.ensures.proper) c.requires.covers c.requires.alive
    c.in_ok-condition_atom-in-Some.ensures.domain c.requires.single
    (subst (λ (q : Linear). c.slack.result ≡ slack_of q d) c.self.view_is c.slack.ensures.slack) c.slack.ensures.bounded c.if-slack-ne0.false
    (c.in-Some.ensures ∙ ap (λ (q : Linear). q.condition) c.self.view_is) (subst (λ (q : Linear). false ≡ in_force d q.condition) c.self.view_is c.if-in_force.ensures)
    c.in_ok-condition_atom-in-Some.ensures.atom c.found.ensures
