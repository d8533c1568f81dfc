-- What is answered for a log: the verdict on its lines, or its first refused line.
use Rattle.std.specs.Prelude.{◌≡◌, ◌≤◌, ℕ, ◌^◌, Option, Some, None, Result, Ok, Err, IsOk, List, length}
use Rattle.dp_domain.specs.declared.verdict.Verdict.{Verdict}
pub use Rattle.dp_lines.specs.Driving.{limits, text_of_line}
use Rattle.dp_lines.specs.Lines.{Lines, lines}
use Rattle.dp_lines.specs.RawLines.{raw_lines}
use Rattle.dp_lines.specs.SoFar.{lines_so_far}
use Rattle.dp_lines.specs.declared.refusal.LineRefusal.{LineRefusal}
use Rattle.dp_parts.specs.Posed.{Posed}
use Rattle.dp_parts.specs.Problems.{Csp}
pub use Rattle.dp_checker.specs.Goals.{IsOfGoal}
use Rattle.dp_checker.specs.Judged.{judge_all, verdict_of}
use Rattle.dp_checker.specs.Kept.{IsRight}
use Rattle.dp_checker.specs.Known.{Known, nothing}
use Rattle.dp_checker.specs.declared.refusal.StepRefusal.{StepRefusal}
use Rattle.dp_judge.specs.declared.answer.LogAnswer.{LogAnswer}
use Rattle.dp_judge.specs.declared.answer.LogAnswer.TheVariants.{Accepted, Unread, Refused}

-- what is concluded, or that nothing is
abbrev pub conclude : Result Verdict StepRefusal → LogAnswer
conclude (Ok verdict) = Accepted verdict
conclude (Err refusal) = Refused refusal None

-- a line that could not be read ends the log
abbrev pub ended : Option LineRefusal → LogAnswer → LogAnswer
ended None answer = answer
ended (Some refusal) answer = Unread refusal

-- the answer after these lines: the first that a test refuses, else the one that could not be read, else the conclusion
abbrev pub answer_after : Result Known StepRefusal → Lines → ℕ → LogAnswer
answer_after (Err refusal) ls count = Refused refusal (text_of_line ls.given refusal.line)
answer_after (Ok known) ls count = ended ls.refusal (conclude (verdict_of count known.conclusion))

-- the answer for a log's bytes
abbrev pub judged_log : Posed → List ℕ → LogAnswer
judged_log p text = let ls = lines limits text in answer_after (judge_all p (Ok nothing) ls.given) ls (length (raw_lines text))

-- no line of the log whose end has come is refused
abbrev pub has_no_refusal : Posed → List ℕ → Type 0
has_no_refusal p front = let ls = lines_so_far limits front in (ls.refusal ≡ None) × IsOk (judge_all p (Ok nothing) ls.given)

-- where the log is accepted, its verdict is right
abbrev pub IsRightAnswer : Csp → LogAnswer → Type 0
IsRightAnswer p (Accepted verdict) = IsRight p verdict
IsRightAnswer p (Unread refusal) = Unit {0}
IsRightAnswer p (Refused refusal text) = Unit {0}

-- where the log is accepted, what it concludes is of the goal
abbrev pub IsGoalAnswer : Csp → LogAnswer → Type 0
IsGoalAnswer p (Accepted verdict) = IsOfGoal p verdict
IsGoalAnswer p (Unread refusal) = Unit {0}
IsGoalAnswer p (Refused refusal text) = Unit {0}

-- where the log is accepted, it has no byte too many
abbrev pub IsSmallAnswer : List ℕ → LogAnswer → Type 0
IsSmallAnswer text (Accepted verdict) = length text ≤ 2 ^ 40
IsSmallAnswer text (Unread refusal) = Unit {0}
IsSmallAnswer text (Refused refusal text_told) = Unit {0}
