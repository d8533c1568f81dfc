-- The numbers within ±10^9.
use Rattle.std.specs.Prelude.{ℕ, zero, suc, ◌^◌, List, [], ◌∷◌, ℤ, pos, neg_ℤ, ◌+ℤ◌}

-- so many numbers, counted up from v
unfoldable pub count_up : ℤ → ℕ → List ℤ
count_up v zero = []
count_up v (suc n) = v ∷ count_up (v +ℤ pos 1) n

-- every number within ±10^9, in ascending order
unfoldable pub small_numbers : List ℤ
small_numbers = count_up (neg_ℤ (pos (10 ^ 9))) 2000000001
