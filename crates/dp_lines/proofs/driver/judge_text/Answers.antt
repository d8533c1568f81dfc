-- The text comes as one piece.
use Rattle.std.specs.Prelude.{[]}
use Rattle.dp_lines.proofs.DrivingLaws.{if_ok, refused_alone}
use Rattle.dp_lines.proofs.driver.judge_text.Goals as goal

pub finish-requires : goal.finish-requires
finish-requires g c = (c.args.text.now, c.in_ok-answer.ensures.going c.in-None.is [] c.requires.fresh)

pub returns-in-Some : goal.returns-in-Some
returns-in-Some g c =
    refused_alone (g.J.LineJudge.behind c.args.judge) (g.J.LineJudge.due c.args.judge) g.J.LineJudge.refuses c.args.text.now c.in_ok-answer.field-0 c.in-Some.answer c.in-Some.is
    c.in_ok-answer.ensures.refused c.requires.fresh

pub returns-in-None : goal.returns-in-None
returns-in-None g c =
    if_ok c.finish.result (λ a f. c.feed.ensures.same_due c.args.text.now a (f c.args.text.now (c.in_ok-answer.ensures.going c.in-None.is [] c.requires.fresh))) c.finish.ensures
