-- The claim's text, all of it or a part, behind what was written.
use Rattle.std.proofs.Common.{subst}
use Rattle.dp_desk.specs.Channel.{Grows, GrowsByPart}
use Rattle.dp_desk.specs.Sight.{output}
use Rattle.dp_solver.specs.Marks.{asked}
use Rattle.dp_solver.proofs.WritingSteps.{claim-part, claim-unwritten, claim-written, on-err}
use Rattle.dp_solver.proofs.writing.write_claim.Goals as goal

pub returns-in_err-conclude-clause-part : goal.returns-in_err-conclude-clause-part
returns-in_err-conclude-clause-part g c =
    on-err c.from_residual.result _ (claim-unwritten (asked c.args.task.now) c.args.claim (output c.args.out (g.D.Desk.sight c.args.desk.now)) c.args.writer.now)

pub returns-in_err-write_all-clause-part : goal.returns-in_err-write_all-clause-part
returns-in_err-write_all-clause-part g c =
    on-err c.from_residual-in_err-write_all.result _
    (claim-part (asked c.args.task.now) c.args.claim (output c.args.out (g.D.Desk.sight c.args.desk.now)) (output c.args.out (g.D.Desk.sight c.write_all.new.desk))
    c.args.writer.now c.conclude.new.self c.drain-text.new.self c.drain-text.result c.in_ok-conclude.ensures.written c.drain-text.ensures.handed c.drain-text.ensures.bytes
    (subst (GrowsByPart (output c.args.out (g.D.Desk.sight c.args.desk.now)) (output c.args.out (g.D.Desk.sight c.write_all.new.desk))) c.bytes.ensures c.in_err-write_all.ensures.part))

pub returns-clause-written : goal.returns-clause-written
returns-clause-written g c =
    claim-written (asked c.args.task.now) c.args.claim (output c.args.out (g.D.Desk.sight c.args.desk.now)) (output c.args.out (g.D.Desk.sight c.write_all.new.desk))
    c.args.writer.now c.conclude.new.self c.drain-text.new.self c.drain-text.result c.in_ok-conclude.ensures.written c.drain-text.ensures.handed c.drain-text.ensures.bytes
    (subst (Grows (output c.args.out (g.D.Desk.sight c.args.desk.now)) (output c.args.out (g.D.Desk.sight c.write_all.new.desk))) c.bytes.ensures c.in_ok-write_all.ensures.ok)
