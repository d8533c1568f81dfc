-- Any calls of a reader, one after the other.
use Rattle.std.specs.Prelude.{◌≡◌, ℕ, Bool, true, false, List, [], ◌∷◌, ◌++◌}
use Rattle.dp_lines.specs.Lines.{Lines}
use Rattle.dp_lines.specs.Readers.{State, after, closed, fed, step_of}
use Rattle.dp_lines.specs.declared.line.Line.{Line}
use Rattle.dp_lines.specs.declared.step.First.{First}
use Rattle.dp_lines.specs.declared.step.First.TheVariants.{Line as LineFirst, Refusal, Nothing}

pub data Call : Type 0 where
  Feed : List ℕ → Call
  End : Call
  Ask : Call

-- nothing is fed behind the end
abbrev pub IsInOrder : Bool → List Call → Type 0
IsInOrder ended [] = Unit {0}
IsInOrder ended (Feed piece ∷ calls) = (ended ≡ false) × IsInOrder ended calls
IsInOrder ended (End ∷ calls) = IsInOrder true calls
IsInOrder ended (Ask ∷ calls) = IsInOrder ended calls

-- all pieces, joined
abbrev pub fed_by : List Call → List ℕ
fed_by [] = []
fed_by (Feed piece ∷ calls) = piece ++ fed_by calls
fed_by (End ∷ calls) = fed_by calls
fed_by (Ask ∷ calls) = fed_by calls

-- the lines that were given, with their numbers, and the reader behind the calls
pub record Run : Type 0 where
  pub given : List (ℕ × Line)
  pub state : State

abbrev pub with_first : First → ℕ → Run → Run
with_first (LineFirst line) count later = record later { given = (count, line) ∷ later.given }
with_first (Refusal refusal) count later = later
with_first Nothing count later = later

abbrev pub run : List Call → State → Run
run [] s = record { given = []; state = s }
run (Feed piece ∷ calls) s = run calls (fed s piece)
run (End ∷ calls) s = run calls (closed s)
run (Ask ∷ calls) s = with_first (step_of s).first (step_of s).count (run calls (after s))

-- these lines before the others
abbrev pub with_all : List (ℕ × Line) → Lines → Lines
with_all given lines = record { given = given ++ lines.given; refusal = lines.refusal }
