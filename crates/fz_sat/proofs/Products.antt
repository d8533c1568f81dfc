-- The size of a product, and a product that is read from its bits.
use Rattle.std.specs.Prelude.{FitsSigned}
use Rattle.std.proofs.Common.{◌≡◌, ℕ, suc, ◌*◌, ◌^◌, ◌≤◌, ℤ, pos, negsuc, ◌*ℤ◌, of_z, to_z, sym, ◌∙◌, ap, subst, arith}
use Rattle.std.proofs.Math.Nat.{mul-le-mul_left, mul-le-mul_right}
use Rattle.std.proofs.lemmas.Int.{ints, to_z-of_z}
use mir.Syntax.{w128}
use Rattle.fz_sat.specs.Sums.{IsBounded}

times_below : (a b m n : ℕ) → a ≤ m → b ≤ n → a * b ≤ m * n
times_below a b m n h k = omega (arith, mul-le-mul_left a k, mul-le-mul_right n h)

-- a product of bounded numbers is bounded
times_bounded : (m n : ℕ) (a v : ℤ) → IsBounded m a → IsBounded n v → IsBounded (m * n) (a *ℤ v)
times_bounded m n (pos a) (pos v) h k = let b : a * v ≤ m * n = times_below a v m n (omega (arith, ints)) (omega (arith, ints)) in (omega (arith, ints), omega (arith, ints))
times_bounded m n (pos a) (negsuc v) h k = let b : a * suc v ≤ m * n = times_below a (suc v) m n (omega (arith, ints)) (omega (arith, ints)) in (omega (arith, ints), omega (arith, ints))
times_bounded m n (negsuc a) (pos v) h k = let b : suc a * v ≤ m * n = times_below (suc a) v m n (omega (arith, ints)) (omega (arith, ints)) in (omega (arith, ints), omega (arith, ints))
times_bounded m n (negsuc a) (negsuc v) h k = let b : suc a * suc v ≤ m * n = times_below (suc a) (suc v) m n (omega (arith, ints)) (omega (arith, ints)) in (omega (arith, ints), omega (arith, ints))

-- a product in 128 bits of numbers that came from 64
pub product_read : (a v x y : ℤ) → x ≡ a → y ≡ v → IsBounded (2 ^ 63) a → IsBounded (2 ^ 63) v → IsBounded (2 ^ 126) (to_z w128 (of_z w128 (to_z w128 (of_z w128 x) *ℤ to_z w128 (of_z w128 y))))
product_read a v x y e f h k =
    let b = times_bounded (2 ^ 63) (2 ^ 63) a v h k in
    let left : to_z w128 (of_z w128 x) ≡ a = omega (arith, ints, h.0, h.1) in
    let right : to_z w128 (of_z w128 y) ≡ v = omega (arith, ints, k.0, k.1) in
    let both : to_z w128 (of_z w128 x) *ℤ to_z w128 (of_z w128 y) ≡ a *ℤ v = ap (λ z. z *ℤ to_z w128 (of_z w128 y)) left ∙ ap (λ z. a *ℤ z) right in
    subst (IsBounded (2 ^ 126)) (sym (ap (λ z. to_z w128 (of_z w128 z)) both ∙ to_z-of_z w128 (a *ℤ v) (bounded_fits (a *ℤ v) b))) b
  where
    bounded_fits : (z : ℤ) → IsBounded (2 ^ 126) z → FitsSigned w128 z
    bounded_fits z h = omega (arith, ints)

-- a product of the same factors
pub times_same : (p v w a b : ℤ) → p ≡ v *ℤ w → v ≡ a → w ≡ b → p ≡ a *ℤ b
times_same p v w a b e f g = e ∙ ap (λ x. x *ℤ w) f ∙ ap (λ y. a *ℤ y) g
