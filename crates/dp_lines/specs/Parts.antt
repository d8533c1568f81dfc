-- What a function returned, beside what the definitions say of the same words.
use Rattle.std.specs.Prelude.{◌≡◌, ℕ, Bool, true, false, [], ◌∷◌, Result, Ok, Err, List}
use Rattle.dp_lines.specs.Fields.{Reading}
use Rattle.dp_lines.specs.Words.{Word}
use Rattle.dp_lines.specs.declared.refusal.Fault.{Fault}
use Rattle.dp_lines.specs.declared.refusal.Fault.TheVariants.{Flawed, Memory}
use Rattle.dp_lines.specs.declared.refusal.Flaw.{Flaw}

-- the words that are left of a line, and the place behind its last byte
pub record Left : Type 0 where
  pub words : List Word
  pub end : ℕ

-- a fault says that there is this flaw, or that memory ran out
abbrev pub Fails : {Y : Type 0} → Fault → Result Y Flaw → Type 0
Fails (Flawed flaw) said = said ≡ Err flaw
Fails Memory said = Unit {0}

-- what a function returned of one word, seen by the view
abbrev pub Says : {X Y : Type 0} → (X → Y) → Result X Fault → Result Y Flaw → Type 0
Says view (Ok x) said = said ≡ Ok (view x)
Says view (Err fault) said = Fails fault said

-- what it returned of the words that were left, and the words that it left
abbrev pub Reads : {X Y : Type 0} → (X → Y) → Result X Fault → (ℕ → List Word → Reading Y) → Left → Left → Type 0
Reads view (Ok x) read before now = (read before.end before.words ≡ Ok (view x, now.words)) × (now.end ≡ before.end)
Reads view (Err fault) read before now = Fails fault (read before.end before.words)

abbrev pub is_done : List Word → Bool
is_done [] = true
is_done (w ∷ ws) = false

-- whether many things end here: at the line's end, or before a word with the property
abbrev pub stops_here : (List ℕ → Bool) → List Word → Bool
stops_here stops [] = true
stops_here stops (w ∷ ws) = stops w.text
