-- The number that digits spell grows with each digit.
use Rattle.std.proofs.Common.{ℕ, suc, zero, ◌+◌, ◌*◌, ◌<◌, ◌≤◌, List, [], ◌∷◌, take, arith}
use Rattle.std.specs.Char.{digit_value}
use Rattle.std.specs.Str.Parse.{digits_value, digits_value_after}

times_ge : (n radix : ℕ) → 0 < radix → n ≤ n * radix
times_ge n zero h = omega arith
times_ge n (suc r) h = grind arith

after_ge : (radix n : ℕ) (s : List ℕ) → 0 < radix → n ≤ digits_value_after radix n s
after_ge radix n [] h = omega arith
after_ge radix n (c ∷ s) h =
    omega (arith, times_ge n radix h, after_ge radix (n * radix + digit_value c) s h)

take_after_le : (radix n : ℕ) (s : List ℕ) (i : ℕ) → 0 < radix → digits_value_after radix n (take i s) ≤ digits_value_after radix n s
take_after_le radix n [] zero h = omega arith
take_after_le radix n [] (suc i) h = omega arith
take_after_le radix n (c ∷ s) zero h = after_ge radix n (c ∷ s) h
take_after_le radix n (c ∷ s) (suc i) h = take_after_le radix (n * radix + digit_value c) s i h

-- the front of some digits spells no more than all of them
pub digits_value-take-le : (radix : ℕ) (s : List ℕ) (i : ℕ) → 0 < radix → digits_value radix (take i s) ≤ digits_value radix s
digits_value-take-le radix s i h = take_after_le radix 0 s i h
