-- Lists of two and of four words.
use Rattle.std.proofs.Common.{arith, Bor}
use Rattle.std.specs.Prelude.{ℕ, ◌<◌, ◌≤◌, List, [], ◌∷◌, length, map, slice_index_or}

-- what holds of two words holds of the texts of a list of them
pub of_two : (P : List (List ℕ) → Type 0) (words : List (Bor (List ℕ))) (other : Bor (List ℕ)) → 2 ≤ length words → length words < 3
    → P ((slice_index_or words 0 other).now ∷ (slice_index_or words 1 other).now ∷ []) → P (map (λ w. w.now) words)
of_two P [] other some few h = absurd (omega (arith, some))
of_two P (a ∷ []) other some few h = absurd (omega (arith, some))
of_two P (a ∷ b ∷ []) other some few h = h
of_two P (a ∷ b ∷ c ∷ rest) other some few h = absurd (omega (arith, few))

-- what holds of four words holds of the texts of a list of them
pub of_four : (P : List (List ℕ) → Type 0) (words : List (Bor (List ℕ))) (other : Bor (List ℕ)) → 4 ≤ length words → length words < 5
    → P ((slice_index_or words 0 other).now ∷ (slice_index_or words 1 other).now ∷ (slice_index_or words 2 other).now ∷ (slice_index_or words 3 other).now ∷ [])
    → P (map (λ w. w.now) words)
of_four P [] other some few h = absurd (omega (arith, some))
of_four P (a ∷ []) other some few h = absurd (omega (arith, some))
of_four P (a ∷ b ∷ []) other some few h = absurd (omega (arith, some))
of_four P (a ∷ b ∷ c ∷ []) other some few h = absurd (omega (arith, some))
of_four P (a ∷ b ∷ c ∷ d ∷ []) other some few h = h
of_four P (a ∷ b ∷ c ∷ d ∷ e ∷ rest) other some few h = absurd (omega (arith, few))
