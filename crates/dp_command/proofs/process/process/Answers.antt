-- The reply for a model that was read and a scaffold that was processed.
use Rattle.std.proofs.Common.{ap, refl, subst}
use Rattle.dp_desk.specs.Sight.{Sight}
use Rattle.dp_command.specs.Found.{IsFound}
use Rattle.dp_command.specs.Words.{Process}
use Rattle.dp_command.specs.declared.finding.Found.{Found}
use Rattle.dp_command.proofs.Checks.{ended_at, refused_of}
use Rattle.dp_command.proofs.Patience.{handed_on, process_patient}
use Rattle.dp_command.proofs.Processes.{outcome_at}
use Rattle.dp_command.proofs.process.process.Goals as goal

pub returns-in_ok-outcome-in-Problem-clause-due : goal.returns-in_ok-outcome-in-Problem-clause-due
returns-in_ok-outcome-in-Problem-clause-due g c =
    outcome_at (g.D.Desk.sight c.args.desk.now).names _ c.args.model.now c.args.scaffold.now c.args.out.now c.args.workers _ c.in-Problem.problem c.in_ok-outcome-in-Problem.outcome c.in_ok-_model.field-0
    (ap (λ (t : Sight). t.names) c.read_problem.ensures.rest) c.in-Problem.is c.in_ok-_model.ensures.read c.in_ok-outcome-in-Problem.ensures.outcome

pub returns-in_ok-outcome-in-Problem-clause-ended : goal.returns-in_ok-outcome-in-Problem-clause-ended
returns-in_ok-outcome-in-Problem-clause-ended g c = λ e.
    ended_at _ c.in-Problem.problem c.in_ok-_model.field-0 (g.D.Desk.sight c.read_problem.new.desk) (g.D.Desk.sight c.process_input.new.desk) c.in-Problem.is c.process_input.ensures.rest c.in_ok-_model.ensures.ended (c.in_ok-outcome-in-Problem.ensures.ended e)

pub returns-in-Refusal-clause-due : goal.returns-in-Refusal-clause-due
returns-in-Refusal-clause-due g c =
    refused_of (g.D.Desk.sight c.args.desk.now).names (Process c.args.model.now c.args.scaffold.now c.args.out.now c.args.workers) c.args.model.now c.in-Refusal.refusal refl
    (subst (λ (w : Found). IsFound (g.D.Desk.sight c.args.desk.now).names c.args.model.now w) c.in-Refusal.is c.in_ok-_model.ensures.read)

pub returns-in_err-outcome-in-Problem-clause-patient : goal.returns-in_err-outcome-in-Problem-clause-patient
returns-in_err-outcome-in-Problem-clause-patient g c = λ e.
    process_patient (g.D.Desk.sight c.args.desk.now).names _ c.args.model.now c.args.scaffold.now c.args.out.now c.args.workers _ c.in-Problem.problem c.in_ok-_model.field-0 _ _ _
    (ap (λ (t : Sight). t.names) c.read_problem.ensures.rest) (ap (λ (t : Sight). t.log) c.read_problem.ensures.rest) c.in-Problem.is c.in_ok-_model.ensures.read (c.process_input.ensures.patient
    (handed_on c.process_input.result c.from_residual-in_err-outcome-in-Problem.result c.in_err-outcome-in-Problem.field-0.0 c.in_err-outcome-in-Problem.was c.from_residual-in_err-outcome-in-Problem.ensures.1 e))
