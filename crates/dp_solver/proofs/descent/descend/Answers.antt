-- Propagation that rests is the beginning of a way down.
use Rattle.std.proofs.Common.{List, sym, ◌∙◌, subst}
use Rattle.std.specs.Prelude.{IfOk}
use Rattle.dp_domain.specs.Atoms.{Atomic}
use Rattle.dp_learning.specs.Learning.{denial_of}
use Rattle.dp_solver.specs.Descents.{IsDescending, IsDescent}
use Rattle.dp_solver.specs.Marks.{asked}
use Rattle.dp_solver.specs.Rounds.{claim_of}
use Rattle.dp_solver.proofs.DescentSteps.{propagated-rests}
use Rattle.dp_solver.proofs.GoalSteps.{denial-on, denial-once}
use Rattle.dp_solver.proofs.descent.descend.Goals as goal

pub returns-else-branch-clause-descent : goal.returns-else-branch-clause-descent
returns-else-branch-clause-descent c =
    let way = propagated-rests (asked c.args.task.now) c.args.root c.args.engine.now c.propagate.new.engine (denial_of (claim_of c.args.best.now)) c.as_slice.result.now _ c.requires.engine c.propagate.ensures.parts
    (denial-on (asked c.args.task.now) c.args.best.now c.requires.engine.engine.problem c.requires.best) (denial-once c.args.best.now) (c.as_slice.ensures.value ∙ c.in_ok-under.ensures)
    c.in_ok-propagate.ensures.failed c.if-branch.false c.in_ok-propagate.ensures.present in
    subst (λ (ns : List (List Atomic)). IfOk c.go_down.result (IsDescent (asked c.args.task.now) ns (denial_of (claim_of c.args.best.now)) c.go_down.new.engine.present)) c.propagate.ensures.parts.nogoods
    (subst (λ (xs : List Atomic). IfOk c.go_down.result (IsDescent (asked c.args.task.now) c.propagate.new.engine.nogoods xs c.go_down.new.engine.present)) c.in_ok-under.ensures
    (c.go_down.ensures.descent (asked c.args.task.now) (subst (λ (xs : List Atomic). IsDescending (asked c.args.task.now) xs c.propagate.new.engine) (sym c.in_ok-under.ensures) way)))
