-- Intervals of numbers within ±10^9: those of a set as it was written, and the gaps between intervals.
use Rattle.std.specs.Prelude.{◌^◌, if◌then◌else◌, List, [], ◌∷◌, ◌++◌, ℤ, pos, neg_ℤ, ◌+ℤ◌, ◌-ℤ◌, int_le}
use Rattle.std.specs.Int.{int_max, int_min}
use Rattle.std.specs.List.{flat_map}
use Rattle.fz_model.specs.declared.model.SetText.{SetText}
use Rattle.fz_model.specs.declared.model.SetText.TheVariants as set

-- the interval from the first number to the last, if it has a number
abbrev pub interval : ℤ → ℤ → List (ℤ × ℤ)
interval first last = if int_le first last then (first, last) ∷ [] else []

-- its part within ±10^9
abbrev pub clipped : ℤ → ℤ → List (ℤ × ℤ)
clipped first last = interval (int_max first (neg_ℤ (pos (10 ^ 9)))) (int_min last (pos (10 ^ 9)))

-- the part of a set within ±10^9
abbrev pub clipped_set : SetText → List (ℤ × ℤ)
clipped_set (set.Range first last) = clipped first last
clipped_set (set.List numbers) = flat_map (λ n. clipped n n) numbers

-- from the number `next` to 10^9: the gaps that intervals in order leave
abbrev pub gaps_from : ℤ → List (ℤ × ℤ) → List (ℤ × ℤ)
gaps_from next [] = interval next (pos (10 ^ 9))
gaps_from next (i ∷ is) = interval next (i.0 -ℤ pos 1) ++ gaps_from (i.1 +ℤ pos 1) is
