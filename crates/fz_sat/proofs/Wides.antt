-- Numbers that lie to each number of 64 bits as others do.
use Rattle.std.specs.Prelude.{FitsSigned}
use Rattle.std.proofs.Common.{◌≡◌, ◌^◌, nat_eq, ◌<ℤ◌, ◌+ℤ◌, ℤ, pos, neg_ℤ, int_le, of_z, to_z, ◌∙◌, ap, subst, inl, inr, arith}
use mir.Syntax.{w128}
use Rattle.std.proofs.lemmas.Int.{ints, to_z-of_z}
use Rattle.std.proofs.lemmas.Bool.Decides.{Decides-int_eq, same_from_decides}
use Rattle.std.specs.Ordering.{int_eq}
use Rattle.fz_sat.specs.Sums.{IsBounded, LiesAs}
use Rattle.fz_sat.proofs.Rows.{same_bits}

pub order_same : (x y b : ℤ) → IsBounded (2 ^ 63) b → LiesAs x y → int_le x b ≡ int_le y b
order_same x y b h (inl e) = ap (λ z. int_le z b) e
order_same x y b h (inr (inl k)) = grind (arith, ints, h.0, h.1, k.0, k.1)
order_same x y b h (inr (inr k)) = grind (arith, ints, h.0, h.1, k.0, k.1)

above : (x b : ℤ) → IsBounded (2 ^ 63) b → pos (2 ^ 63) <ℤ x → x ≡ b → ⊥
above x b h k e = omega (arith, ints, h.0, h.1, k, e)

below : (x b : ℤ) → IsBounded (2 ^ 63) b → x <ℤ neg_ℤ (pos (2 ^ 63)) → x ≡ b → ⊥
below x b h k e = omega (arith, ints, h.0, h.1, k, e)

-- numbers that both differ from a third
both_differ : (x y b : ℤ) → (x ≡ b → ⊥) → (y ≡ b → ⊥) → int_eq x b ≡ int_eq y b
both_differ x y b f g =
    same_from_decides {P = ⊥} (int_eq x b) (int_eq y b)
    (λ t. f ((Decides-int_eq x b).0 t), λ none. absurd none)
    (λ t. g ((Decides-int_eq y b).0 t), λ none. absurd none)

pub equal_same : (x y b : ℤ) → IsBounded (2 ^ 63) b → LiesAs x y → int_eq x b ≡ int_eq y b
equal_same x y b h (inl e) = ap (λ z. int_eq z b) e
equal_same x y b h (inr (inl k)) = both_differ x y b (above x b h k.0) (above y b h k.1)
equal_same x y b h (inr (inr k)) = both_differ x y b (below x b h k.0) (below y b h k.1)

-- so do equal numbers
pub lies_same : (x v y w : ℤ) → x ≡ v → y ≡ w → LiesAs x y → LiesAs v w
lies_same x v y w e f h = subst (λ z. LiesAs z w) e (subst (λ z. LiesAs x z) f h)

-- the tests of such a number, as they are made on its bits
pub order_read : (x y b c : ℤ) → IsBounded (2 ^ 63) b → c ≡ b → FitsSigned w128 x → LiesAs x y → int_le (to_z w128 (of_z w128 x)) (to_z w128 (of_z w128 c)) ≡ int_le y b
order_read x y b c h e fits k =
    ap (λ z. int_le z (to_z w128 (of_z w128 c))) (to_z-of_z w128 x fits) ∙ ap (int_le x) (narrow b c h e) ∙ order_same x y b h k
  where
    narrow : (b c : ℤ) → IsBounded (2 ^ 63) b → c ≡ b → to_z w128 (of_z w128 c) ≡ b
    narrow b c h e = omega (arith, ints, h.0, h.1, e)

pub equal_read : (x y b c : ℤ) → IsBounded (2 ^ 63) b → c ≡ b → FitsSigned w128 x → LiesAs x y → nat_eq (of_z w128 x) (of_z w128 c) ≡ int_eq y b
equal_read x y b c h e fits k =
    ap (λ z. nat_eq (of_z w128 x) (of_z w128 z)) e ∙ same_bits w128 x b fits (wide b h) ∙ equal_same x y b h k
  where
    wide : (b : ℤ) → IsBounded (2 ^ 63) b → FitsSigned w128 b
    wide b h = omega (arith, ints, h.0, h.1)

-- the sum of two numbers of 64 bits, compared with a third
pub plus_read : (a b c x y z : ℤ) → IsBounded (2 ^ 63) a → IsBounded (2 ^ 63) b → IsBounded (2 ^ 63) c → x ≡ a → y ≡ b → z ≡ c → nat_eq (of_z w128 (to_z w128 (of_z w128 x) +ℤ to_z w128 (of_z w128 y))) (of_z w128 z) ≡ int_eq (a +ℤ b) c
plus_read a b c x y z h k l e f g =
    let sum : to_z w128 (of_z w128 x) +ℤ to_z w128 (of_z w128 y) ≡ a +ℤ b = omega (arith, ints, h.0, h.1, k.0, k.1, e, f) in
    ap (λ v. nat_eq (of_z w128 v) (of_z w128 z)) sum ∙ ap (λ v. nat_eq (of_z w128 (a +ℤ b)) (of_z w128 v)) g ∙ same_bits w128 (a +ℤ b) c (omega (arith, ints, h.0, h.1, k.0, k.1)) (omega (arith, ints, l.0, l.1))
