-- The scaffold of a text: of its lines, or the first that is refused.
use Rattle.std.specs.Prelude.{◌≡◌, ℕ, Option, Some, None, Result, Ok, Err, IsOk, List, length}
use Rattle.dp_lines.specs.Lines.{Lines, lines}
use Rattle.dp_lines.specs.RawLines.{raw_lines}
use Rattle.dp_lines.specs.SoFar.{lines_so_far}
use Rattle.dp_lines.specs.declared.refusal.LineRefusal.{LineRefusal}
use Rattle.dp_parts.specs.Posed.{Posed}
use Rattle.dp_parts.specs.Problems.{Csp}
use Rattle.dp_lines.specs.Driving.{limits, text_of_line}
use Rattle.dp_scaffold.specs.Scaffolds.{IsScaffoldOf, Learned}
use Rattle.dp_scaffold.specs.Gathering.{Gathered, gather_all, nothing, scaffold_of}
use Rattle.dp_scaffold.specs.declared.answer.ScaffoldAnswer.{ScaffoldAnswer}
use Rattle.dp_scaffold.specs.declared.answer.ScaffoldAnswer.TheVariants.{Given, Unread, Refused}
use Rattle.dp_scaffold.specs.declared.refusal.ScaffoldRefusal.{ScaffoldRefusal}

-- the scaffold, or that nothing is claimed
abbrev pub give : Result Learned ScaffoldRefusal → ScaffoldAnswer
give (Ok scaffold) = Given scaffold
give (Err refusal) = Refused refusal None

-- a line that could not be read ends the text
abbrev pub ended : Option LineRefusal → ScaffoldAnswer → ScaffoldAnswer
ended None answer = answer
ended (Some refusal) answer = Unread refusal

-- the answer after these lines: the first that a test refuses, else the one that could not be read, else the scaffold
abbrev pub answer_after : Result Gathered ScaffoldRefusal → Lines → ℕ → ScaffoldAnswer
answer_after (Err refusal) ls count = Refused refusal (text_of_line ls.given refusal.line)
answer_after (Ok g) ls count = ended ls.refusal (give (scaffold_of (Ok g) count))

-- the answer for the bytes of a scaffold, which are read within the limits of a log
abbrev pub scaffold_text : Posed → List ℕ → ScaffoldAnswer
scaffold_text p text = let ls = lines limits text in answer_after (gather_all p (Ok nothing) ls.given) ls (length (raw_lines text))

-- no line of the text whose end has come is refused
abbrev pub has_no_refusal : Posed → List ℕ → Type 0
has_no_refusal p front = let ls = lines_so_far limits front in (ls.refusal ≡ None) × IsOk (gather_all p (Ok nothing) ls.given)

-- a scaffold that is given is one of the problem
abbrev pub IsScaffoldAnswer : Csp → ScaffoldAnswer → Type 0
IsScaffoldAnswer p (Given s) = IsScaffoldOf p s
IsScaffoldAnswer p (Unread refusal) = Unit {0}
IsScaffoldAnswer p (Refused refusal text) = Unit {0}
