-- Each line that was given was taken, and fewer are left each time.
use Rattle.std.specs.Prelude.{◌≡◌, ℕ, List, length}
use Rattle.dp_lines.specs.Driving.{HasTaken}
use Rattle.dp_lines.specs.RawLines.{raw_lines}
use Rattle.dp_lines.specs.Readers.{standing}
use Rattle.dp_lines.proofs.driver.take_lines.Given as goal

abbrev pub invariant-loop-number : goal.invariant-loop-number
invariant-loop-number g l = record {
  taken : (front : List ℕ) → HasTaken (g.T.LineTaker.took l.initial.taker) front l.initial.reader → HasTaken (g.T.LineTaker.took l.taker) front l.reader;
  due : (text : List ℕ) (a : g.row.T-Answer.Denot) → g.T.LineTaker.due l.taker text a → g.T.LineTaker.due l.initial.taker text a;
  unrefused : (text : List ℕ) → g.T.LineTaker.unrefused l.taker text → g.T.LineTaker.unrefused l.initial.taker text;
  ended : l.reader.ended ≡ l.initial.reader.ended;
}

abbrev pub decreases-loop-number : goal.decreases-loop-number
decreases-loop-number g l = length (raw_lines (standing l.reader))
