-- A text whose lines are handed on while it comes in pieces.
use Rattle.std.specs.Prelude.{◌≡◌, ℕ, ◌≤◌, ◌^◌, ◌++◌, true, false, Option, Some, None, List, length, nat_eq}
use Rattle.std.specs.Map.{lookup}
use Rattle.std.specs.Option.{option_map}
use Rattle.dp_lines.specs.Lines.{lines}
use Rattle.dp_lines.specs.Pieces.{HasRead}
use Rattle.dp_lines.specs.RawLines.{raw_lines}
use Rattle.dp_lines.specs.Readers.{State}
use Rattle.dp_lines.specs.SoFar.{lines_so_far}
use Rattle.dp_lines.specs.Spelling.{line_text}
use Rattle.dp_lines.specs.Standing.{CanCome}
use Rattle.dp_lines.specs.declared.line.Line.{Line}
use Rattle.dp_lines.specs.declared.refusal.Limits.{Limits}

-- the most bytes of a line and of a text
abbrev pub limits : Limits
limits = record { line = 2 ^ 24; total = 2 ^ 40 }

-- the canonical spelling of the line with this number
abbrev pub text_of_line : List (ℕ × Line) → ℕ → Option (List ℕ)
text_of_line given number = option_map line_text (lookup (nat_eq number) given)

-- what takes the lines, and the reader of the text
pub record Coming (T : Type 0) : Type 0 where
  pub taker : T
  pub reader : State

-- these bytes have come, and the lines that the reader has given of them were taken
pub record HasTaken (took : List (ℕ × Line) → Type 0) (front : List ℕ) (s : State) : Type 0 where
  pub given : List (ℕ × Line)
  pub read : HasRead limits front given s
  pub taken : took given

-- These bytes have come, more may follow, and each line whose end has come was taken. Of the last line no more bytes are held than a line may have.
pub record HasCome (took : List (ℕ × Line) → Type 0) (front : List ℕ) (s : State) : Type 0 where
  pub taken : HasTaken took front s
  pub unended : s.ended ≡ false
  pub quiet : lines_so_far limits front ≡ record { given = taken.given; refusal = None }
  pub held : length s.held ≤ limits.line

-- The lines that are whole were all taken: they are those whose end has come, and behind the text's end they are all.
pub record ArePassed (took : List (ℕ × Line) → Type 0) (front : List ℕ) (s : State) : Type 0 where
  pub taken : HasTaken took front s
  pub quiet : s.ended ≡ false → lines_so_far limits front ≡ record { given = taken.given; refusal = None }
  pub whole : s.ended ≡ true → lines limits front ≡ record { given = taken.given; refusal = None }
  pub count : s.ended ≡ true → length (raw_lines front) ≡ s.count
  pub held : length s.held ≤ limits.line

-- what handing on all lines that are left answers: they pass, or this is due whatever may come
abbrev pub AreLeft : {A : Type 0} → (List (ℕ × Line) → Type 0) → (List ℕ → A → Type 0) → Option A → List ℕ → State → Type 0
AreLeft took due None front s = ArePassed took front s
AreLeft took due (Some a) front s = (more : List ℕ) → CanCome s more → due (front ++ more) a
