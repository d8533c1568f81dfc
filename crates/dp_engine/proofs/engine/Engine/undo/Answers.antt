use Rattle.std.proofs.Common.{[], ◌∷◌, ◌+◌, length, ◌∙◌, ap}
use Rattle.dp_domain.specs.States.{is_dead}
use Rattle.dp_parts.specs.Problems.{posed}
use Rattle.dp_engine.specs.Placed.{turn_order}
use Rattle.dp_engine.specs.Trails.{all_of}
use Rattle.dp_engine.proofs.StateSteps.{counted-first}
use Rattle.dp_engine.proofs.SeenLaws.{begins-first}
use Rattle.dp_engine.proofs.TrackedLaws.{tracked-moved}
use Rattle.dp_engine.proofs.engine.Engine.undo.Goals as goal

pub invariant_of-self : goal.invariant_of-self
invariant_of-self c =
    tracked-moved c.self.inside.problem.now c.self.inside.roster c.self.inside.occurrences c.self.inside.trail.past c.go_back.new.trail.past c.self.inside.trail.present c.go_back.new.trail.present c.self.inside.debts c.go_back.new.debts c.self.inside.dead c.dead-self-inside.result
    c.self.invariant
    (counted-first (all_of c.self.inside.trail) (all_of c.go_back.new.trail) (c.args.mark + 1) (length c.self.inside.problem.now.initial) c.go_back.ensures.states c.self.invariant.engine.states)
    c.go_back.ensures.bits c.go_back.ensures.lasting
    (c.go_back.ensures.kept (turn_order (posed c.self.inside.problem.now) c.self.inside.roster.nogoods) c.self.invariant.kept)
    (begins-first c.self.inside.problem.now.initial (all_of c.self.inside.trail) (all_of c.go_back.new.trail) c.args.mark c.go_back.ensures.states c.self.invariant.start)
    (c.dead-self-inside.ensures ∙ ap is_dead c.present.ensures)
