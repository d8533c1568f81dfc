-- What the lines that the end of the text ends bring.
use Rattle.std.specs.Prelude.{ℕ, List}
use Rattle.std.proofs.Common.{subst}
use Rattle.dp_lines.specs.Driving.{Coming, HasCome}
use Rattle.dp_lines.proofs.DrivingLaws.{ended_passed, ended_refused}
use Rattle.dp_lines.proofs.driver.InPiecesLineJudge.finish.Goals as goal

pub returns-in-Some : goal.returns-in-Some
returns-in-Some g c =
    subst (λ (b : Coming g.row.T.Denot). (front : List ℕ) → HasCome (g.T.LineTaker.took b.taker) front b.reader → g.T.LineTaker.due b.taker front c.in-Some.answer) c.self.view_is
    (λ front h. ended_refused (g.T.LineTaker.took c.self.inside.taker) (g.T.LineTaker.took c.take_lines.new.taker) (g.T.LineTaker.due c.self.inside.taker) c.in_ok-answer.field-0 c.in-Some.answer
    c.self.inside.reader c.end.new.self c.take_lines.new.reader front c.end.ensures.closed c.in_ok-answer.ensures.left c.in-Some.is h)

pub returns : goal.returns
returns g c =
    subst (λ (b : Coming g.row.T.Denot). (front : List ℕ) → HasCome (g.T.LineTaker.took b.taker) front b.reader → g.T.LineTaker.due b.taker front c.finish.result) c.self.view_is
    (λ front h. ended_passed (g.T.LineTaker.took c.self.inside.taker) (g.T.LineTaker.took c.take_lines.new.taker) (g.T.LineTaker.due c.self.inside.taker) (g.T.LineTaker.due c.take_lines.new.taker)
    c.in_ok-answer.field-0 c.finish.result c.self.inside.reader c.end.new.self c.take_lines.new.reader front c.lines_seen.result c.end.ensures.closed c.take_lines.ensures.ended
    c.in_ok-answer.ensures.left c.in-None.is c.lines_seen.ensures c.take_lines.ensures.same_due c.finish.ensures h)
