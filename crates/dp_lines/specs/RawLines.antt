-- A text cut into lines.
use Rattle.std.specs.Prelude.{ℕ, ◌+◌, ◌-◌, Bool, true, false, ◌==◌, if◌then◌else◌, List, [], ◌∷◌, length, take, slice_index}

-- the bytes before a line feed, or before the text's end; and whether a line feed follows them
pub record Raw : Type 0 where
  pub bytes : List ℕ
  pub fed : Bool

-- the byte at the front of the first line
abbrev pub with_byte : ℕ → List Raw → List Raw
with_byte b [] = record { bytes = b ∷ []; fed = false } ∷ []
with_byte b (raw ∷ raws) = record { bytes = b ∷ raw.bytes; fed = raw.fed } ∷ raws

-- A text is cut behind each LF, and its last line may lack it. A text without bytes has no lines.
abbrev pub raw_lines : List ℕ → List Raw
raw_lines [] = []
raw_lines (b ∷ text) = if b == 10 then record { bytes = []; fed = true } ∷ raw_lines text else with_byte b (raw_lines text)

-- how many bytes it has with its end
abbrev pub size : Raw → ℕ
size raw = if raw.fed then length raw.bytes + 1 else length raw.bytes

-- the line without its end, to which a last CR belongs
abbrev pub content : List ℕ → List ℕ
content bytes = if slice_index bytes (length bytes - 1) == 13 then take (length bytes - 1) bytes else bytes
