-- The nogood's text, all of it or a part, behind what was written.
use Rattle.std.proofs.Common.{subst}
use Rattle.dp_desk.specs.Channel.{Grows, GrowsByPart}
use Rattle.dp_desk.specs.Sight.{output}
use Rattle.dp_solver.specs.Marks.{asked}
use Rattle.dp_solver.proofs.WritingSteps.{nogood-part, nogood-unwritten, nogood-written, on-err}
use Rattle.dp_solver.proofs.writing.write_nogood.Goals as goal

pub returns-in_err-nogood-clause-part : goal.returns-in_err-nogood-clause-part
returns-in_err-nogood-clause-part g c =
    on-err c.from_residual.result _ (nogood-unwritten (asked c.args.task.now) c.args.atoms.now (output c.args.out (g.D.Desk.sight c.args.desk.now)) c.args.writer.now)

pub returns-in_err-write_all-clause-part : goal.returns-in_err-write_all-clause-part
returns-in_err-write_all-clause-part g c =
    on-err c.from_residual-in_err-write_all.result _
    (nogood-part (asked c.args.task.now) c.args.atoms.now (output c.args.out (g.D.Desk.sight c.args.desk.now)) (output c.args.out (g.D.Desk.sight c.write_all.new.desk))
    c.args.writer.now c.nogood.new.self c.drain-text.new.self c.drain-text.result c.in_ok-nogood.ensures.written c.drain-text.ensures.handed c.drain-text.ensures.bytes
    (subst (GrowsByPart (output c.args.out (g.D.Desk.sight c.args.desk.now)) (output c.args.out (g.D.Desk.sight c.write_all.new.desk))) c.bytes.ensures c.in_err-write_all.ensures.part))

pub returns-clause-written : goal.returns-clause-written
returns-clause-written g c =
    nogood-written (asked c.args.task.now) c.args.atoms.now (output c.args.out (g.D.Desk.sight c.args.desk.now)) (output c.args.out (g.D.Desk.sight c.write_all.new.desk))
    c.args.writer.now c.nogood.new.self c.drain-text.new.self c.drain-text.result c.in_ok-nogood.ensures.written c.drain-text.ensures.handed c.drain-text.ensures.bytes
    (subst (Grows (output c.args.out (g.D.Desk.sight c.args.desk.now)) (output c.args.out (g.D.Desk.sight c.write_all.new.desk))) c.bytes.ensures c.in_ok-write_all.ensures.ok)
