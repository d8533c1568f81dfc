-- A solution ends the round.
use Rattle.std.proofs.Common.{List, sym, subst, refl}
use Rattle.dp_desk.specs.Sight.{output}
use Rattle.dp_domain.specs.Atoms.{Atomic}
use Rattle.dp_domain.specs.States.{Domains}
use Rattle.dp_learning.specs.Learning.{denial_of}
use Rattle.dp_solver.specs.Descents.{IsDescent, IsReached}
use Rattle.dp_solver.specs.Marks.{asked}
use Rattle.dp_solver.specs.Rounds.{IsSolutionAt, claim_of}
use Rattle.dp_solver.proofs.RoundSteps.{searching-moved, solution-round}
use Rattle.dp_solver.proofs.round.one_round.Goals as goal

pub returns-in_ok-found-in-Fixed-clause-round : goal.returns-in_ok-found-in-Fixed-clause-round
returns-in_ok-found-in-Fixed-clause-round g c =
    solution-round (asked c.args.task.now) c.args.task.now.most g.was (output c.args.out (g.D.Desk.sight c.args.desk.now)) c.args.search.now _ c.args.best c.descend.new.engine.present c.in_ok-found-in-Fixed.field-0
    (searching-moved (asked c.args.task.now) c.args.task.now.most g.was (output c.args.out (g.D.Desk.sight c.args.desk.now)) c.args.search.now c.descend.new.engine c.requires.1.1.0 c.in_ok-descent.ensures.engine c.descend.ensures.nogoods)
    refl c.requires.1.1.1
    (subst (λ (ns : List (List Atomic)). IsReached (asked c.args.task.now) ns (denial_of (claim_of c.args.best)) c.descend.new.engine.present) (sym c.descend.ensures.nogoods)
    (subst (IsDescent (asked c.args.task.now) c.args.search.now.engine.nogoods (denial_of (claim_of c.args.best)) c.descend.new.engine.present) c.in-Fixed.is c.in_ok-descent.ensures.descent))
    (subst (λ (d : Domains). IsSolutionAt (asked c.args.task.now) d c.in_ok-found-in-Fixed.field-0) c.state.ensures.state c.in_ok-found-in-Fixed.ensures)
