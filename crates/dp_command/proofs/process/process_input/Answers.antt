-- What becomes of a scaffold that is judged while it is read.
use Rattle.dp_command.proofs.Judgings.{gathered_patient, processed_ended, processed_of, scaffold_of}
use Rattle.dp_command.proofs.Patience.{handed_on}
use Rattle.dp_command.proofs.process.process_input.Goals as goal

pub outcome_of-requires-clause-answer : goal.outcome_of-requires-clause-answer
outcome_of-requires-clause-answer g c κs within =
    scaffold_of (g.D.Desk.sight c.args.desk.now).names c.args.name.now c.args.problem.now c.in_ok-reading.reading.taker (g.D.Desk.sight c.judge_read.new.desk).log c.in_ok-answer.answer
    c.in_ok-reading.ensures.problem c.in_ok-answer.ensures.answer

pub returns-clause-outcome : goal.returns-clause-outcome
returns-clause-outcome g c =
    processed_of (g.D.Desk.sight c.args.desk.now).names c.args.name.now c.args.out.now c.args.problem.now c.in_ok-reading.reading.taker (g.D.Desk.sight c.judge_read.new.desk).log c.in_ok-answer.answer
    c.in_ok-outcome_of.field-0 c.in_ok-reading.ensures.problem c.in_ok-answer.ensures.answer c.in_ok-outcome_of.ensures

pub returns-clause-ended : goal.returns-clause-ended
returns-clause-ended g c = λ e.
    processed_ended (g.D.Desk.sight c.args.desk.now).names c.args.name.now c.args.out.now c.args.problem.now c.in_ok-reading.reading.taker (g.D.Desk.sight c.judge_read.new.desk).log c.in_ok-answer.answer
    c.in_ok-outcome_of.field-0 c.in_ok-reading.ensures.problem c.in_ok-answer.ensures.answer c.in_ok-outcome_of.ensures e

pub returns-in_err-answer-clause-patient : goal.returns-in_err-answer-clause-patient
returns-in_err-answer-clause-patient g c = λ e.
    gathered_patient (g.D.Desk.sight c.args.desk.now).names c.args.name.now c.args.problem.now c.in_ok-reading.reading.taker (g.D.Desk.sight c.args.desk.now).log (g.D.Desk.sight c.judge_read.new.desk).log
    c.in_ok-reading.ensures.problem (c.judge_read.ensures.patient
    (handed_on c.judge_read.result c.from_residual-in_err-answer.result c.in_err-answer.field-0.0 c.in_err-answer.was c.from_residual-in_err-answer.ensures.1 e))
