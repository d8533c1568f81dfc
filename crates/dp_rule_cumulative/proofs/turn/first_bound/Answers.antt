-- The start of each task is of the state, and each task takes its bound where that comes first.
use Rattle.std.proofs.Common.{subst}
use Rattle.std.proofs.lemmas.List.{take_all}
use Rattle.dp_rule_cumulative.specs.Profiles.{TakesBound}
use Rattle.dp_rule_cumulative.specs.Schedules.{schedule}
use Rattle.dp_rule_cumulative.specs.TimeTable.{face_cumulative}
use Rattle.dp_rule_cumulative.proofs.FirstLaws.{IsFirstOf, alone_at, first_all, first_more, first_none}
use Rattle.dp_rule_cumulative.proofs.UsageSteps.{among_at, term_at_place}
use Rattle.dp_rule_cumulative.proofs.turn.first_bound.Goals as goal

pub with_bound-first-requires : goal.with_bound-first-requires
with_bound-first-requires c = term_at_place _ c.args.tasks.now c.loop-task.task-index c.task-item.result c.requires.starts c.loop-task-test.true c.task-item.is

pub loop-task-init : goal.loop-task-init
loop-task-init c = first_none (face_cumulative (schedule c.args.tasks.now c.args.capacity)) c.args.state.now

pub loop-task-preserved : goal.loop-task-preserved
loop-task-preserved c =
    let q = schedule c.args.tasks.now c.args.capacity in
    let k = c.task-item.result in
    first_more q c.args.state.now c.loop-task.task-index k c.loop-task.first c.with_bound-first.result c.loop-task-test.true c.task-item.is
    (λ x e. alone_at q c.args.state.now x k c.requires.alive c.requires.calm c.requires.distinct (among_at c.args.tasks.now c.loop-task.task-index k c.loop-task-test.true c.task-item.is) e)
    (subst (λ ps. TakesBound c.args.capacity ps c.args.state.now k k.start c.loop-task.first c.with_bound-first.result) c.requires.profile c.with_bound-first.ensures)
    c.loop-task.invariant

pub returns : goal.returns
returns c =
    let q = schedule c.args.tasks.now c.args.capacity in
    first_all q c.args.state.now c.loop-task.first
    (subst (λ ks. IsFirstOf (face_cumulative q) c.args.state.now ks c.loop-task.first) (take_all c.loop-task.task-index c.args.tasks.now c.loop-task-test.false) c.loop-task.invariant)
