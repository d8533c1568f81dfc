-- What is shown of a log that is read.
use Rattle.dp_command.proofs.Judgings.{shown_at_end, shown_of}
use Rattle.dp_command.proofs.show.show.Goals as goal

pub returns-clause-due : goal.returns-clause-due
returns-clause-due g c =
    shown_of (g.D.Desk.sight c.args.desk.now).names c.args.log.now c.in_ok-showing.showing.taker (g.D.Desk.sight c.judge_read.new.desk).log c.in_ok-shown.shown c.in_ok-shown.ensures.answer

pub returns-clause-ended : goal.returns-clause-ended
returns-clause-ended g c = λ e.
    shown_at_end (g.D.Desk.sight c.args.desk.now).names c.args.log.now c.in_ok-showing.showing.taker (g.D.Desk.sight c.judge_read.new.desk).log c.in_ok-shown.shown c.in_ok-shown.ensures.answer e
