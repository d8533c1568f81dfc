-- What is answered for what is read of an input.
use Rattle.dp_desk.specs.Sight.{input}
use Rattle.dp_command.proofs.Answered.{judges-answered}
use Rattle.dp_command.proofs.Checks.{if_ok}
use Rattle.dp_command.proofs.judging.judge_read.Goals as goal

pub returns-clause-answer : goal.returns-clause-answer
returns-clause-answer g c =
    if_ok c.judge_to_bound.result (λ answer j. judges-answered (g.J.LineJudge.due c.args.judge) g.J.LineJudge.refuses c.args.bound (g.D.Desk.sight c.args.desk.now).names c.args.name.now
    (input c.args.which (g.D.Desk.sight c.open_in.new.self)) (input c.args.which (g.D.Desk.sight c.judge_to_bound.new.desk)) answer c.in_ok-open_in.ensures.opened j) c.judge_to_bound.ensures.answer
