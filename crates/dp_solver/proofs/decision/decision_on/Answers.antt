-- The atom at the least of several values; where there is none, there is one value.
use Rattle.std.proofs.Common.{sym, ◌∙◌}
use mir.Syntax.{w64}
use mir.Val.{of_z, to_z}
use Rattle.dp_domain.specs.States.{values}
use Rattle.dp_solver.proofs.DecisionSteps.{decision-named, decision-none, decision-open, has-greatest, has-least, read-least}
use Rattle.dp_solver.proofs.decision.decision_on.Goals as goal
use Rattle.dp_solver.proofs.decision.decision_on.Goals.{in_default-via-in-Some-Some+else-lower-upper, in_default-via-in-Some+in_default, in_default-via-in_default}

pub returns-in-Some-Some-clause-decision : goal.returns-in-Some-Some-clause-decision
returns-in-Some-Some-clause-decision c =
    decision-open c.args.state.now c.args.var c.in-Some-Some.lower c.in-Some-Some.upper (to_z w64 (of_z w64 c.in-Some-Some.lower)) c.new.result c.requires c.lower.ensures.domain
    (sym c.in-Some-Some.is-0 ∙ c.lower.ensures.least) (sym c.in-Some-Some.is-1 ∙ c.upper.ensures.greatest) c.if-lower-upper.true
    (read-least (values c.args.state.now c.args.var) c.in-Some-Some.lower c.lower.ensures.domain (sym c.in-Some-Some.is-0 ∙ c.lower.ensures.least)) c.new.ensures.atom

pub returns-in-Some-Some-clause-none : goal.returns-in-Some-Some-clause-none
returns-in-Some-Some-clause-none c =
    decision-named c.args.state.now c.args.var c.in-Some-Some.lower c.new.result _ c.lower.ensures.domain (sym c.in-Some-Some.is-0 ∙ c.lower.ensures.least) c.new.ensures.nameable

pub returns-in_default-clause-none : goal.returns-in_default-clause-none
returns-in_default-clause-none c = elim c.in_default.branch [
  | in_default-via-in-Some-Some+else-lower-upper w ↦ λ alive.
      decision-none c.args.state.now c.args.var w.in-Some-Some.lower w.in-Some-Some.upper c.lower.ensures.domain (sym w.in-Some-Some.is-0 ∙ c.lower.ensures.least) (sym w.in-Some-Some.is-1 ∙ c.upper.ensures.greatest) w.if-lower-upper.false
  | in_default-via-in-Some+in_default w ↦ λ alive. absurd (has-greatest c.args.state.now c.args.var alive c.requires (sym w.in_default.is-1 ∙ c.upper.ensures.greatest))
  | in_default-via-in_default w ↦ λ alive. absurd (has-least c.args.state.now c.args.var alive c.requires (sym w.in_default.is-0 ∙ c.lower.ensures.least))
]
