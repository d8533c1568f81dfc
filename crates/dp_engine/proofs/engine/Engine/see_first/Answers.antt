use Rattle.std.proofs.Common.{◌++◌, ◌≡◌, List, length, take, drop, sym, ◌∙◌, ap, subst}
use Rattle.dp_base.specs.Lists.{Each}
use Rattle.dp_domain.specs.Atoms.{Atomic}
use Rattle.dp_domain.specs.States.{AreOf}
use Rattle.dp_parts.specs.Problems.{Csp, posed}
use Rattle.dp_engine.specs.Engines.{Propagation}
use Rattle.dp_engine.specs.Placed.{turn_order}
use Rattle.dp_engine.specs.Woken.{IsIndex}
use Rattle.dp_engine.proofs.SeenLaws.{take-drop, tracked-seen}
use Rattle.dp_engine.proofs.engine.Engine.see_first.Goals as goal

pub invariant_of-self-2 : goal.invariant_of-self-2
invariant_of-self-2 c =
    let all : List (List Atomic) = c.args.index.now.nogoods in
    let same : c.self.inside.problem.now ≡ c.args.index.now.problem = ap (λ (e : Propagation). e.problem) c.self.view_is ∙ c.requires.over.problem in
    tracked-seen c.self.inside.problem.now c.self.inside.roster c.before-roster.result.0 c.self.inside.occurrences c.before-roster.result.1 c.self.inside.trail.past c.self.inside.trail.present c.self.inside.debts c.resize.new.self c.self.inside.dead
    all c.requires.over.later (drop c.args.place all) c.len.result c.self.invariant c.before-roster.ensures.indexed.few
    (subst (λ (p : Csp). Each (AreOf p.initial) all) (sym same) c.before-roster.ensures.indexed.nogoods)
    (c.requires.over.nogoods ∙ ap (λ (e : Propagation). e.nogoods ++ c.requires.over.later) (sym c.self.view_is))
    (take-drop c.args.place all ∙ ap (λ (ns : List (List Atomic)). ns ++ drop c.args.place all) (sym c.before-roster.ensures.nogoods))
    (c.before-roster.ensures.parts ∙ ap (λ (p : Csp). turn_order (posed p) (take c.args.place all)) (sym same) ∙ ap (turn_order (posed c.self.inside.problem.now)) (sym c.before-roster.ensures.nogoods))
    (subst (λ (ns : List (List Atomic)). IsIndex (length c.self.inside.problem.now.initial) (turn_order (posed c.self.inside.problem.now) ns) c.before-roster.result.1) (sym c.before-roster.ensures.nogoods)
    (subst (λ (p : Csp). IsIndex (length p.initial) (turn_order (posed p) (take c.args.place all)) c.before-roster.result.1) (sym same) c.before-roster.ensures.index))
    c.len.ensures c.in_ok-resize.ensures.count c.in_ok-resize.ensures.lasting c.in_ok-resize.ensures.notes (ap (λ (e : Propagation). e.past) c.self.view_is ∙ c.requires.start) c.resize.ensures.kept
