-- What a command asks for is what its reply belongs to.
use Rattle.std.proofs.Common.{sym, subst}
use Rattle.dp_command.specs.Asked.{asked}
use Rattle.dp_command.specs.Patience.{HasPatience}
use Rattle.dp_command.specs.Replies.{RepliesTo}
use Rattle.dp_command.specs.declared.reply.Reply.TheVariants.{Generated}
use Rattle.dp_command.specs.declared.words.Command.{Command}
use Rattle.dp_command.proofs.Families.{generated_at}
use Rattle.dp_command.proofs.Patience.{handed_on}
use Rattle.dp_command.proofs.program.obey.Goals as goal

pub returns-in_ok-check-in-Check-clause-due : goal.returns-in_ok-check-in-Check-clause-due
returns-in_ok-check-in-Check-clause-due g c =
    subst (λ (k : Command). RepliesTo (g.D.Desk.sight c.args.desk.now).names (asked k) c.in_ok-check-in-Check.field-0) (sym c.in-Check.is) c.in_ok-check-in-Check.ensures.due

pub returns-in_ok-show-in-Show-clause-due : goal.returns-in_ok-show-in-Show-clause-due
returns-in_ok-show-in-Show-clause-due g c =
    subst (λ (k : Command). RepliesTo (g.D.Desk.sight c.args.desk.now).names (asked k) c.in_ok-show-in-Show.field-0) (sym c.in-Show.is) c.in_ok-show-in-Show.ensures.due

pub returns-in_ok-process-in-Process-clause-due : goal.returns-in_ok-process-in-Process-clause-due
returns-in_ok-process-in-Process-clause-due g c =
    subst (λ (k : Command). RepliesTo (g.D.Desk.sight c.args.desk.now).names (asked k) c.in_ok-process-in-Process.field-0) (sym c.in-Process.is) c.in_ok-process-in-Process.ensures.due

pub returns-in_ok-prove-in-Prove-clause-due : goal.returns-in_ok-prove-in-Prove-clause-due
returns-in_ok-prove-in-Prove-clause-due g c =
    subst (λ (k : Command). RepliesTo (g.D.Desk.sight c.args.desk.now).names (asked k) c.in_ok-prove-in-Prove.field-0) (sym c.in-Prove.is) c.in_ok-prove-in-Prove.ensures.due

pub returns-in_ok-family-in-Gen-clause-due : goal.returns-in_ok-family-in-Gen-clause-due
returns-in_ok-family-in-Gen-clause-due g c =
    subst (λ (k : Command). RepliesTo (g.D.Desk.sight c.args.desk.now).names (asked k) (Generated c.in_ok-family-in-Gen.family)) (sym c.in-Gen.is)
    (generated_at (g.D.Desk.sight c.args.desk.now).names c.in-Gen.n c.in-Gen.model.now c.in-Gen.scaffold.now c.in_ok-family-in-Gen.family c.in_ok-family-in-Gen.ensures)

-- ---- a read fault that is handed on

pub returns-in_err-check-in-Check-clause-patient : goal.returns-in_err-check-in-Check-clause-patient
returns-in_err-check-in-Check-clause-patient g c = λ e.
    subst (λ (k : Command). HasPatience (g.D.Desk.sight c.args.desk.now).names (asked k) (g.D.Desk.sight c.args.desk.now).log (g.D.Desk.sight c.check.new.desk).log) (sym c.in-Check.is)
    (c.check.ensures.patient (handed_on c.check.result c.from_residual.result c.in_err-check-in-Check.field-0.0 c.in_err-check-in-Check.was c.from_residual.ensures.1 e))

pub returns-in_err-process-in-Process-clause-patient : goal.returns-in_err-process-in-Process-clause-patient
returns-in_err-process-in-Process-clause-patient g c = λ e.
    subst (λ (k : Command). HasPatience (g.D.Desk.sight c.args.desk.now).names (asked k) (g.D.Desk.sight c.args.desk.now).log (g.D.Desk.sight c.process.new.desk).log) (sym c.in-Process.is)
    (c.process.ensures.patient (handed_on c.process.result c.from_residual-in_err-process-in-Process.result c.in_err-process-in-Process.field-0.0 c.in_err-process-in-Process.was c.from_residual-in_err-process-in-Process.ensures.1 e))
