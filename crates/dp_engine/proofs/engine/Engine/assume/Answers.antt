use Rattle.std.proofs.Common.{◌+◌, [], ◌∷◌, length, sym, ◌∙◌, ap, subst}
use Rattle.dp_domain.specs.States.{is_dead}
use Rattle.dp_parts.specs.Problems.{posed}
use Rattle.dp_engine.specs.Placed.{turn_order}
use Rattle.dp_engine.specs.Trails.{all_of}
use Rattle.dp_engine.specs.Woken.{ArePlaces, IsIndex}
use Rattle.dp_engine.proofs.StateSteps.{begins-then, counted-first, counted-last}
use Rattle.dp_engine.proofs.SeenLaws.{begins-first}
use Rattle.dp_engine.proofs.StepLaws.{places-below}
use Rattle.dp_engine.proofs.TrackedLaws.{tracked-moved}
use Rattle.dp_engine.proofs.engine.Engine.assume.Goals as goal

pub cut_each-cut-requires-clause-places : goal.cut_each-cut-requires-clause-places
cut_each-cut-requires-clause-places c =
    subst (λ n. ArePlaces n c.self.inside.occurrences) (sym c.self.invariant.count) (places-below (length c.self.inside.problem.now.initial) (turn_order (posed c.self.inside.problem.now) c.self.inside.roster.nogoods) c.self.inside.occurrences c.self.invariant.index)

pub invariant_of-self : goal.invariant_of-self
invariant_of-self c =
    let count = counted-last c.self.inside.trail.past c.self.inside.trail.present (length c.self.inside.problem.now.initial) c.self.invariant.engine.states in
    tracked-moved c.self.inside.problem.now c.self.inside.roster c.self.inside.occurrences c.self.inside.trail.past c.go_back.new.trail.past c.self.inside.trail.present c.go_back.new.trail.present c.self.inside.debts c.go_back.new.debts c.self.inside.dead c.dead-self-inside.result
    c.self.invariant
    (counted-first (all_of c.cut_each-cut.new.trail) (all_of c.go_back.new.trail) (c.len-mark.result + 1) (length c.self.inside.problem.now.initial) c.go_back.ensures.states (c.cut_each-cut.ensures.counts (length c.self.inside.problem.now.initial) c.self.invariant.engine.states))
    (c.go_back.ensures.bits ∙ c.cut_each-cut.ensures.bits)
    (c.go_back.ensures.lasting ∙ c.cut_each-cut.ensures.lasting)
    (c.go_back.ensures.kept (turn_order (posed c.self.inside.problem.now) c.self.inside.roster.nogoods) (c.cut_each-cut.ensures.kept (turn_order (posed c.self.inside.problem.now) c.self.inside.roster.nogoods) (subst (λ n. IsIndex n (turn_order (posed c.self.inside.problem.now) c.self.inside.roster.nogoods) c.self.inside.occurrences) (sym count) c.self.invariant.index) c.self.invariant.kept))
    (begins-first c.self.inside.problem.now.initial (all_of c.cut_each-cut.new.trail) (all_of c.go_back.new.trail) c.len-mark.result c.go_back.ensures.states
    (begins-then (c.self.inside.problem.now.initial ∷ []) (all_of c.self.inside.trail) (all_of c.cut_each-cut.new.trail) c.self.invariant.start c.cut_each-cut.ensures.states))
    (c.dead-self-inside.ensures ∙ ap is_dead c.present.ensures)

pub invariant_of-self-2 : goal.invariant_of-self-2
invariant_of-self-2 c =
    let count = counted-last c.self.inside.trail.past c.self.inside.trail.present (length c.self.inside.problem.now.initial) c.self.invariant.engine.states in
    tracked-moved c.self.inside.problem.now c.self.inside.roster c.self.inside.occurrences c.self.inside.trail.past c.cut_each-cut.new.trail.past c.self.inside.trail.present c.cut_each-cut.new.trail.present c.self.inside.debts c.cut_each-cut.new.debts c.self.inside.dead c.dead-self-inside-2.result
    c.self.invariant (c.cut_each-cut.ensures.counts (length c.self.inside.problem.now.initial) c.self.invariant.engine.states) c.cut_each-cut.ensures.bits c.cut_each-cut.ensures.lasting
    (c.cut_each-cut.ensures.kept (turn_order (posed c.self.inside.problem.now) c.self.inside.roster.nogoods) (subst (λ n. IsIndex n (turn_order (posed c.self.inside.problem.now) c.self.inside.roster.nogoods) c.self.inside.occurrences) (sym count) c.self.invariant.index) c.self.invariant.kept)
    (begins-then (c.self.inside.problem.now.initial ∷ []) (all_of c.self.inside.trail) (all_of c.cut_each-cut.new.trail) c.self.invariant.start c.cut_each-cut.ensures.states)
    (c.dead-self-inside-2.ensures ∙ ap is_dead c.present-2.ensures)
