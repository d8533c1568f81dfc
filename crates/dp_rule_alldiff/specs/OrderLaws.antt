-- The order of integers, and what its tests say.
use Rattle.std.specs.Prelude.{◌≡◌, true, false, ℤ, ◌≤ℤ◌, ◌<ℤ◌, int_lt}
use Rattle.std.proofs.Common.{sym, arith}
use Rattle.std.proofs.lemmas.Int.{ints}

pub le_itself : (x : ℤ) → x ≤ℤ x
le_itself x = omega (arith, ints)

pub le_through : (x y z : ℤ) → x ≤ℤ y → y ≤ℤ z → x ≤ℤ z
le_through x y z h k = omega (arith, ints)

pub not_both : (x y : ℤ) → y <ℤ x → x ≤ℤ y → ⊥
not_both x y h k = omega (arith, ints)

pub less_where : (x y : ℤ) → int_lt x y ≡ true → x <ℤ y
less_where x y e = omega (arith, ints)

pub no_less_where : (x y : ℤ) → int_lt x y ≡ false → y ≤ℤ x
no_less_where x y e = omega (arith, ints)

pub is_less_where : (x y : ℤ) → x <ℤ y → int_lt x y ≡ true
is_less_where x y h = sym (omega (arith, ints))
