-- Blanks and comments.
use Rattle.std.specs.Prelude.{◌≡◌, ◌≢◌, ℕ, ◌+◌, ◌<◌, ◌≤◌, ◌⊎◌, Bool, true, false, ◌||◌, if◌then◌else◌, ◌==◌, List, [], ◌∷◌, length, slice_index}

-- space, tab, CR and LF
abbrev pub is_blank : ℕ → Bool
is_blank b = (b == 32) || (b == 9) || (b == 13) || (b == 10)

-- The first place whose byte is no blank and in no comment, for bytes that stand at `at` and begin in a comment or not.
-- A comment runs from `%` to the LF or the end.
abbrev pub gap_end : ℕ → Bool → List ℕ → ℕ
gap_end at in_comment [] = at
gap_end at in_comment (b ∷ rest) =
    if b == 10 then gap_end (at + 1) false rest
    else (if in_comment || (b == 37) then gap_end (at + 1) true rest
    else (if is_blank b then gap_end (at + 1) false rest
    else at))

-- ---- the same in words

-- a `%` stands there or before, on the same line
pub record IsInComment (w : List ℕ) (i : ℕ) : Type 0 where
  pub opens : ℕ
  pub before : opens ≤ i
  pub is_percent : slice_index w opens ≡ 37
  pub same_line : (k : ℕ) → opens ≤ k → k ≤ i → slice_index w k ≢ 10

-- each byte is a blank or in a comment
abbrev pub IsGap : List ℕ → Type 0
IsGap w = (i : ℕ) → i < length w → (is_blank (slice_index w i) ≡ true) ⊎ IsInComment w i
