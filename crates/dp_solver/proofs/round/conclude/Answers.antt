-- The claim stands behind the nogoods.
use Rattle.dp_desk.specs.Sight.{output}
use Rattle.dp_solver.specs.Marks.{asked}
use Rattle.dp_solver.proofs.RoundSteps.{claim-on, concluded, concluded-part}
use Rattle.dp_solver.proofs.WritingSteps.{on-err}
use Rattle.dp_solver.proofs.round.conclude.Goals as goal

pub write_claim-requires-clause-claim : goal.write_claim-requires-clause-claim
write_claim-requires-clause-claim g c =
    claim-on c.args.task.now.problem.now c.args.task.now.atoms.now c.args.task.now.goal c.args.best c.open_claim.result c.requires.1.0.on.engine.problem c.requires.1.1.0 c.open_claim.ensures

pub returns-in_err-write_claim-clause-part : goal.returns-in_err-write_claim-clause-part
returns-in_err-write_claim-clause-part g c =
    on-err c.from_residual.result _
    (concluded-part (asked c.args.task.now) c.args.task.now.most g.was (output c.args.out (g.D.Desk.sight c.args.desk.now)) (output c.args.out (g.D.Desk.sight c.write_claim.new.desk)) c.args.search.now c.args.best c.open_claim.result
    c.requires.1.0 c.requires.1.1.1 c.open_claim.ensures c.in_err-write_claim.ensures.part)

pub returns-clause-round : goal.returns-clause-round
returns-clause-round g c =
    concluded (asked c.args.task.now) c.args.task.now.most g.was (output c.args.out (g.D.Desk.sight c.args.desk.now)) (output c.args.out (g.D.Desk.sight c.write_claim.new.desk)) c.args.search.now c.args.best c.decided.result c.open_claim.result
    c.requires.1.0 c.requires.1.1.0 c.requires.1.1.1 c.decided.ensures c.open_claim.ensures c.in_ok-write_claim.ensures.written
