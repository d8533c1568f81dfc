-- The reply for a model that was read and a log that was judged.
use Rattle.std.proofs.Common.{ap, refl, subst}
use Rattle.dp_desk.specs.Sight.{Sight}
use Rattle.dp_command.specs.Found.{IsFound}
use Rattle.dp_command.specs.Words.{Check}
use Rattle.dp_command.specs.declared.finding.Found.{Found}
use Rattle.dp_command.proofs.Checks.{due_at, ended_at, if_ok, refused_of, unread_of}
use Rattle.dp_command.proofs.Patience.{check_patient}
use Rattle.dp_command.proofs.check.check.Goals as goal

pub returns-in-Problem-clause-due : goal.returns-in-Problem-clause-due
returns-in-Problem-clause-due g c =
    if_ok c.judge_input.result (λ reply j. due_at (g.D.Desk.sight c.args.desk.now).names _ c.args.model.now c.args.log.now _ c.in-Problem.problem reply c.in_ok-_model.field-0
    (ap (λ (t : Sight). t.names) c.read_problem.ensures.rest) c.in-Problem.is c.in_ok-_model.ensures.read j) c.judge_input.ensures.reply

pub returns-in-Problem-clause-ended : goal.returns-in-Problem-clause-ended
returns-in-Problem-clause-ended g c =
    if_ok c.judge_input.result (λ reply h e. ended_at _ c.in-Problem.problem c.in_ok-_model.field-0 (g.D.Desk.sight c.read_problem.new.desk) (g.D.Desk.sight c.judge_input.new.desk) c.in-Problem.is c.judge_input.ensures.rest c.in_ok-_model.ensures.ended (h e)) c.judge_input.ensures.ended

pub returns-in-Problem-clause-unread : goal.returns-in-Problem-clause-unread
returns-in-Problem-clause-unread g c = if_ok c.judge_input.result (λ reply j. unread_of _ _ c.in-Problem.problem reply _ _ j) c.judge_input.ensures.reply

pub returns-in-Refusal-clause-due : goal.returns-in-Refusal-clause-due
returns-in-Refusal-clause-due g c =
    refused_of (g.D.Desk.sight c.args.desk.now).names (Check c.args.model.now c.args.log.now) c.args.model.now c.in-Refusal.refusal refl
    (subst (λ (w : Found). IsFound (g.D.Desk.sight c.args.desk.now).names c.args.model.now w) c.in-Refusal.is c.in_ok-_model.ensures.read)

pub returns-in-Problem-clause-patient : goal.returns-in-Problem-clause-patient
returns-in-Problem-clause-patient g c = λ e.
    check_patient (g.D.Desk.sight c.args.desk.now).names _ c.args.model.now c.args.log.now _ c.in-Problem.problem c.in_ok-_model.field-0 _ _ _
    (ap (λ (t : Sight). t.names) c.read_problem.ensures.rest) (ap (λ (t : Sight). t.log) c.read_problem.ensures.rest) c.in-Problem.is c.in_ok-_model.ensures.read (c.judge_input.ensures.patient e)
