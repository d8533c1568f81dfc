-- What the lines that a piece ends bring.
use Rattle.std.specs.Prelude.{◌≡◌, ℕ, ◌++◌, None, IfOk, IfSome, List}
use Rattle.std.proofs.Common.{subst}
use Rattle.dp_lines.specs.Driving.{Coming, HasCome}
use Rattle.dp_lines.proofs.DrivingLaws.{both_ok, fed_going, fed_refused, if_ok}
use Rattle.dp_lines.proofs.driver.InPiecesLineJudge.feed.Goals as goal

pub returns-clause-going : goal.returns-clause-going
returns-clause-going g c =
    subst (λ (b : Coming g.row.T.Denot). IfOk c.take_lines.result (λ answer. answer ≡ None → (front : List ℕ) → HasCome (g.T.LineTaker.took b.taker) front b.reader →
    HasCome (g.T.LineTaker.took c.take_lines.new.taker) (front ++ c.args.piece.now) c.take_lines.new.reader)) c.self.view_is
    (if_ok c.take_lines.result
    (λ answer left none front h. fed_going (g.T.LineTaker.took c.self.inside.taker) (g.T.LineTaker.took c.take_lines.new.taker) (g.T.LineTaker.due c.self.inside.taker) answer c.self.inside.reader
    c.feed.new.self c.take_lines.new.reader front c.args.piece.now c.in_ok-feed.ensures.fed c.take_lines.ensures.ended left none h)
    c.take_lines.ensures.left)

pub returns-clause-refused : goal.returns-clause-refused
returns-clause-refused g c =
    subst (λ (b : Coming g.row.T.Denot). IfOk c.take_lines.result (λ answer. IfSome answer (λ a. g.T.LineTaker.refuses a × ((front more : List ℕ) → HasCome (g.T.LineTaker.took b.taker) front b.reader →
    g.T.LineTaker.due b.taker (front ++ c.args.piece.now ++ more) a)))) c.self.view_is
    (both_ok c.take_lines.result
    (λ answer left refused. fed_refused (g.T.LineTaker.took c.self.inside.taker) (g.T.LineTaker.took c.take_lines.new.taker) (g.T.LineTaker.due c.self.inside.taker) g.T.LineTaker.refuses answer
    c.self.inside.reader c.feed.new.self c.take_lines.new.reader c.args.piece.now c.in_ok-feed.ensures.fed c.take_lines.ensures.ended left refused)
    c.take_lines.ensures.left c.take_lines.ensures.refused)
