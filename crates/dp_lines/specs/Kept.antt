-- What a reader's fields keep true, and the first whole line of the bytes that it holds.
use Rattle.std.specs.Prelude.{◌≡◌, ℕ, ◌+◌, ◌<◌, ◌≤◌, ◌^◌, Bool, true, false, not, ◌||◌, ◌==◌, List, [], ◌∷◌, length, take, drop}
use Rattle.std.specs.List.{list_all}
use Rattle.dp_lines.specs.RawLines.{Raw, raw_lines, size}

abbrev pub is_no_feed : ℕ → Bool
is_no_feed b = not (b == 10)

-- none of the bytes is a line feed
abbrev pub has_no_feed : List ℕ → Bool
has_no_feed bytes = list_all is_no_feed bytes

-- whether the first line is whole
abbrev pub begins_whole : Bool → List Raw → Bool
begins_whole ended [] = false
begins_whole ended (raw ∷ raws) = raw.fed || ended

-- the held bytes begin with this whole line
pub record IsFirst (ended : Bool) (held : List ℕ) (raw : Raw) : Type 0 where
  pub cut : raw_lines held ≡ raw ∷ raw_lines (drop (size raw) held)
  pub whole : (raw.fed || ended) ≡ true
  pub some : 0 < size raw
  pub within : size raw ≤ length held

-- Of the bytes, those before `start` are taken, and the next `clear` are no line feeds. Where others were counted, these
-- are as many as a line may have.
pub record IsKept (bytes : List ℕ) (start clear count passed beyond limit : ℕ) : Type 0 where
  pub taken : start ≤ length bytes
  pub cleared : clear ≤ length (drop start bytes)
  pub no_feed : has_no_feed (take clear (drop start bytes)) ≡ true
  pub lines : count ≤ passed
  pub small : passed + length (drop start bytes) + beyond ≤ 2 ^ 62
  pub full : 0 < beyond → clear ≡ limit
