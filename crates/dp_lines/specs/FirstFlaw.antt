-- The first flaw of words that spell no line.
use Rattle.std.specs.Prelude.{◌≡◌, ℕ, ◌+◌, ◌⊎◌, Option, Some, None, Ok, Err, List, [], ◌∷◌, ◌++◌, codes}
use Rattle.dp_lines.specs.Fields.{line_of}
use Rattle.dp_lines.specs.Lines.{refusal_of}
use Rattle.dp_lines.specs.Words.{Word, front_word}
use Rattle.dp_lines.specs.declared.line.Line.{Line}
use Rattle.dp_lines.specs.declared.refusal.Flaw.{Flaw}
use Rattle.dp_lines.specs.declared.refusal.LineRefusal.{LineRefusal}
use Rattle.dp_lines.specs.declared.refusal.Flaw.TheVariants.{Form, Number, NotBuilt}

-- the next word, if one is left
abbrev pub next_of : List Word → Option Word
next_of [] = None
next_of (w ∷ ws) = Some w

-- A flaw is at the word's place, but that of a constraint's number is at its digits, behind `c:`. A deletion is none in the form.
abbrev pub IsAt : Flaw → Word → Type 0
IsAt (Form at) w = at ≡ w.at
IsAt (Number at) w = (at ≡ w.at) ⊎ (at ≡ w.at + 2)
IsAt NotBuilt w = w.text ≡ codes "d"

-- The flaw is at the word behind the front, or at the line's end. Other words behind that word have the same flaw there; and
-- the front alone begins a line.
pub record IsFirstFlaw (end : ℕ) (ws : List Word) (flaw : Flaw) : Type 0 where
  pub front : List Word
  pub rest : List Word
  pub parts : ws ≡ front ++ rest
  pub place : IsAt flaw (front_word end rest)
  pub firm : (other : List Word) → next_of other ≡ next_of rest → line_of end (front ++ other) ≡ Err flaw
  pub more : List Word
  pub line : Line
  pub begins : line_of end (front ++ more) ≡ Ok (line, [])

-- the refusal of line `number` is for the first flaw of its words
pub record IsFirstRefusal (number end : ℕ) (ws : List Word) (refusal : LineRefusal) : Type 0 where
  pub flaw : Flaw
  pub named : refusal ≡ refusal_of number flaw
  pub first : IsFirstFlaw end ws flaw
