-- The turn where the condition is not in force: on its own variable, or nothing.
use Rattle.std.proofs.Common.{◌≡◌, ap, arith, false, subst, sym, ◌∙◌}
use Rattle.std.proofs.lemmas.Int.{ints}
use Rattle.std.proofs.lemmas.Bool.{false≢true}
use Rattle.dp_domain.specs.Conditions.{in_force}
use Rattle.dp_rule_linear.specs.Forms.{IsProper, Linear}
use Rattle.dp_rule_linear.proofs.AtMostTurns.{condition_found, nothing_found, slack_of}
use Rattle.dp_rule_linear.proofs.lin_le.LinLe.turn.Goals as goal
use Rattle.dp_rule_linear.proofs.lin_le.LinLe.turn.Goals.{in_default-via-in-Some+else-slack-lt0, in_default-via-in_default}

pub returns-in_ok-condition_bound-in-Some : goal.returns-in_ok-condition_bound-in-Some
returns-in_ok-condition_bound-in-Some c =
    let d = c.args.state.now in
    condition_found c.args.self.now d c.in-Some.condition c.slack-slack.result _ c.found.result (subst IsProper c.self.view_is c.slack-slack.ensures.proper) c.requires.covers c.requires.alive
    c.in_ok-condition_bound-in-Some.ensures.domain (c.in-Some.ensures ∙ ap (λ (q : Linear). q.condition) c.self.view_is)
    (subst (λ (q : Linear). false ≡ in_force d q.condition) c.self.view_is c.if-in_force.ensures)
    (subst (λ (q : Linear). c.slack-slack.result ≡ slack_of q d) c.self.view_is c.slack-slack.ensures.slack)
    (omega (arith, ints, c.slack-slack.ensures.bounded.0, c.slack-slack.ensures.bounded.1, c.if-slack-lt0.true)) c.in_ok-condition_bound-in-Some.ensures.bound c.found.ensures

pub returns-in_default : goal.returns-in_default
returns-in_default c =
    let d = c.args.state.now in
    elim c.in_default.branch [
      | in_default-via-in-Some+else-slack-lt0 w ↦
          nothing_found c.args.self.now d w.in-Some.condition c.slack-slack.result (subst IsProper c.self.view_is c.slack-slack.ensures.proper) c.requires.alive
          (w.in-Some.ensures ∙ ap (λ (q : Linear). q.condition) c.self.view_is) (subst (λ (q : Linear). false ≡ in_force d q.condition) c.self.view_is c.if-in_force.ensures)
          (subst (λ (q : Linear). c.slack-slack.result ≡ slack_of q d) c.self.view_is c.slack-slack.ensures.slack)
          (omega (arith, ints, c.slack-slack.ensures.bounded.0, c.slack-slack.ensures.bounded.1, w.if-slack-lt0.false))
      | in_default-via-in_default w ↦ absurd (false≢true (c.if-in_force.ensures ∙ ap (in_force d) (sym w.in_default.ensures)))
    ]
