-- The lines that are left, one by one.
use Rattle.std.specs.Prelude.{Ok, Err, ◌++◌}
use Rattle.std.proofs.Common.{sym, ◌∙◌, ap}
use Rattle.dp_lines.specs.declared.refusal.LineFault.TheVariants.{Refused}
use Rattle.dp_lines.proofs.DrivingLaws.{line_refused, line_taken, line_unread, none_left, of_some}
use Rattle.dp_lines.proofs.PiecesLaws.{Says, fewer_read}
use Rattle.dp_lines.proofs.driver.take_lines.Goals as goal

pub returns-in-Some-clause-left : goal.returns-in-Some-clause-left
returns-in-Some-clause-left g c = λ front h more come.
    let says : Says c.line.result c.loop-number.reader c.line.new.self = record { answered = c.line.ensures.answered; passed = c.line.ensures.passed; told = c.line.ensures.told; total = c.line.ensures.total } in
    c.loop-number.invariant.due (front ++ more) c.in-Some.answer
    (line_refused (g.T.LineTaker.took c.loop-number.taker) (g.T.LineTaker.due c.loop-number.taker) front more c.line.result c.loop-number.reader c.line.new.self c.in-Ok-Some.number c.in-Ok-Some.line
    c.in-Some.answer (c.in-Ok-Some.is ∙ ap Ok c.in-Ok-Some.field-0-is) says (of_some _ c.in_ok-answer-in-Ok-Some.field-0 c.in-Some.answer c.in-Some.is c.in_ok-answer-in-Ok-Some.ensures.refused).1
    (c.loop-number.invariant.taken front h) come)

pub loop-number-smaller : goal.loop-number-smaller
loop-number-smaller g c =
    let says : Says c.line.result c.loop-number.reader c.line.new.self = record { answered = c.line.ensures.answered; passed = c.line.ensures.passed; told = c.line.ensures.told; total = c.line.ensures.total } in
    fewer_read c.line.result c.loop-number.reader c.line.new.self c.in-Ok-Some.number c.in-Ok-Some.line c.line.ensures.stood (c.in-Ok-Some.is ∙ ap Ok c.in-Ok-Some.field-0-is) says

pub loop-number-preserved : goal.loop-number-preserved
loop-number-preserved g c =
    let says : Says c.line.result c.loop-number.reader c.line.new.self = record { answered = c.line.ensures.answered; passed = c.line.ensures.passed; told = c.line.ensures.told; total = c.line.ensures.total } in
    record {
      taken = λ front h.
          line_taken (g.T.LineTaker.took c.loop-number.taker) (g.T.LineTaker.took c.take.new.self) front c.line.result c.loop-number.reader c.line.new.self c.in-Ok-Some.number c.in-Ok-Some.line
          (c.in-Ok-Some.is ∙ ap Ok c.in-Ok-Some.field-0-is) says (c.in_ok-answer-in-Ok-Some.ensures.going c.in_default.is) (c.loop-number.invariant.taken front h);
      due = λ text a h. c.loop-number.invariant.due text a (c.take.ensures.same_due text a h);
      unrefused = λ text h. c.loop-number.invariant.unrefused text (c.take.ensures.same_unrefused text h);
      ended = c.line.ensures.ended ∙ c.loop-number.invariant.ended;
    }

pub returns-in-Ok-None-clause-left : goal.returns-in-Ok-None-clause-left
returns-in-Ok-None-clause-left g c = λ front h.
    let says : Says c.line.result c.loop-number.reader c.line.new.self = record { answered = c.line.ensures.answered; passed = c.line.ensures.passed; told = c.line.ensures.told; total = c.line.ensures.total } in
    none_left (g.T.LineTaker.took c.loop-number.taker) front c.line.result c.loop-number.reader c.line.new.self (c.in-Ok-None.is ∙ ap Ok c.in-Ok-None.field-0-is) says c.line.ensures.ended
    (c.in-Ok-None.ensures.kept c.in-Ok-None.field-0-is) (c.loop-number.invariant.taken front h)

pub returns-in-Err-Refused-clause-left : goal.returns-in-Err-Refused-clause-left
returns-in-Err-Refused-clause-left g c = λ front h more come.
    let says : Says c.line.result c.loop-number.reader c.line.new.self = record { answered = c.line.ensures.answered; passed = c.line.ensures.passed; told = c.line.ensures.told; total = c.line.ensures.total } in
    c.loop-number.invariant.due (front ++ more) c.unread.result
    (line_unread (g.T.LineTaker.took c.loop-number.taker) (g.T.LineTaker.due c.loop-number.taker) front more c.line.result c.loop-number.reader c.line.new.self _ c.unread.result
    (c.in-Err-Refused.is ∙ ap Err (c.in-Err-Refused.field-0-is ∙ ap Refused (sym c.in-Err-Refused.refusal-is))) says c.unread.ensures.answered (c.loop-number.invariant.taken front h) come)
