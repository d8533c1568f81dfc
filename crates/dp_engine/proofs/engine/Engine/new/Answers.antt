use Rattle.std.proofs.Common.{◌≡◌, List, length, take, sym, ◌∙◌, ap, subst}
use Rattle.dp_base.specs.Lists.{Each}
use Rattle.dp_domain.specs.Atoms.{Atomic}
use Rattle.dp_domain.specs.States.{AreOf, is_dead}
use Rattle.dp_parts.specs.Problems.{Csp, posed}
use Rattle.dp_engine.specs.Placed.{turn_order}
use Rattle.dp_engine.specs.Woken.{IsIndex}
use Rattle.dp_engine.proofs.StateSteps.{take-all}
use Rattle.dp_engine.proofs.TrackedLaws.{tracked-new}
use Rattle.dp_engine.proofs.engine.Engine.new.Goals as goal

pub invariant_of-result : goal.invariant_of-result
invariant_of-result c =
    let all : List (List Atomic) = c.args.index.now.nogoods in
    let p : Csp = c.problem-problem.result.now in
    let same : p ≡ c.args.index.now.problem = c.problem-problem.ensures.problem in
    let whole : take (length c.nogoods.result.now) all ≡ all = take-all all (length c.nogoods.result.now) (ap (λ (ns : List (List Atomic)). length ns) c.nogoods.ensures.nogoods) in
    tracked-new p c.before-roster.result.0 c.before-roster.result.1 c.new.result.past c.new.result.present c.in_ok-debts.debts c.dead-dead.result all c.len.result
    c.initial.ensures.problem c.problem-problem.ensures.index.few
    (subst (λ (q : Csp). Each (AreOf q.initial) all) (sym same) c.problem-problem.ensures.index.nogoods)
    (c.before-roster.ensures.nogoods ∙ whole)
    (c.before-roster.ensures.parts ∙ ap (λ (q : Csp). turn_order (posed q) (take (length c.nogoods.result.now) all)) (sym same) ∙ ap (turn_order (posed p)) whole)
    c.new.ensures.past (c.new.ensures.present ∙ c.in_ok-present.ensures ∙ c.initial.ensures.state)
    (subst (λ (ns : List (List Atomic)). IsIndex (length p.initial) (turn_order (posed p) ns) c.before-roster.result.1) whole
    (subst (λ (q : Csp). IsIndex (length q.initial) (turn_order (posed q) (take (length c.nogoods.result.now) all)) c.before-roster.result.1) (sym same) c.before-roster.ensures.index))
    c.len.ensures c.in_ok-debts.ensures.count c.in_ok-debts.ensures.all c.in_ok-debts.ensures.notes c.in_ok-debts.ensures.lasting (c.dead-dead.ensures ∙ ap is_dead (sym c.new.ensures.present))
