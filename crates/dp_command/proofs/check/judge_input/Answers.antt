-- The reply for a log that is judged while it is read.
use Rattle.dp_command.proofs.Judgings.{goal_of, judged_ended, judged_of, judged_patient}
use Rattle.dp_command.proofs.Patience.{handed_on}
use Rattle.dp_command.proofs.check.judge_input.Goals as goal

pub reply_of-requires : goal.reply_of-requires
reply_of-requires g c =
    goal_of (g.D.Desk.sight c.args.desk.now).names c.args.name.now c.args.problem.now c.in_ok-judging.judging.taker (g.D.Desk.sight c.judge_read.new.desk).log c.in_ok-answer.answer
    c.in_ok-judging.ensures.problem c.in_ok-answer.ensures.answer

pub returns-clause-reply : goal.returns-clause-reply
returns-clause-reply g c =
    judged_of (g.D.Desk.sight c.args.desk.now).names c.args.name.now c.args.problem.now c.in_ok-judging.judging.taker (g.D.Desk.sight c.judge_read.new.desk).log c.in_ok-answer.answer
    c.in_ok-reply_of.field-0 c.in_ok-judging.ensures.problem c.in_ok-answer.ensures.answer c.in_ok-reply_of.ensures

pub returns-clause-ended : goal.returns-clause-ended
returns-clause-ended g c = λ e.
    judged_ended (g.D.Desk.sight c.args.desk.now).names c.args.name.now c.args.problem.now c.in_ok-judging.judging.taker (g.D.Desk.sight c.judge_read.new.desk).log c.in_ok-answer.answer
    c.in_ok-reply_of.field-0 c.in_ok-answer.ensures.answer c.in_ok-reply_of.ensures e

pub returns-in_err-answer-clause-patient : goal.returns-in_err-answer-clause-patient
returns-in_err-answer-clause-patient g c = λ e.
    judged_patient (g.D.Desk.sight c.args.desk.now).names c.args.name.now c.args.problem.now c.in_ok-judging.judging.taker (g.D.Desk.sight c.args.desk.now).log (g.D.Desk.sight c.judge_read.new.desk).log
    c.in_ok-judging.ensures.problem (c.judge_read.ensures.patient
    (handed_on c.judge_read.result c.from_residual-in_err-answer.result c.in_err-answer.field-0.0 c.in_err-answer.was c.from_residual-in_err-answer.ensures.1 e))
