-- The one factor whose product with another is a number.
use Rattle.std.proofs.Common.{◌≡◌, ℕ, zero, suc, ◌/◌, ◌^◌, ◌<◌, ◌≤◌, FitsSigned, unsigned_abs, ℤ, pos, negsuc, neg_ℤ, ◌+ℤ◌, ◌*ℤ◌, ◌≤ℤ◌, ◌<ℤ◌, int_div, int_rem, refl, sym, ◌∙◌, ap, inl, inr, arith}
use mir.Syntax.{w128}
use mir.Val.{of_z, to_z}
use Rattle.std.proofs.lemmas.Int.{fits_signed_from_abs, ints, quot-rem, rem_below, to_z-of_z}
use Rattle.std.proofs.Math.IntN.{*ℤ_comm}
use Rattle.std.proofs.Math.Nat.{div-le_self}
use Rattle.dp_domain.proofs.AtomLaws.{order_cases}
use Rattle.dp_rule_linear.specs.Forms.{IsBounded}
use Rattle.dp_rule_linear.specs.IntLaws.{times_keeps, times_turns}
use Rattle.dp_rule_linear.proofs.QuotientLaws.{next_product}

-- ---- remainders

abs_above : (r a : ℤ) → unsigned_abs r < unsigned_abs a → pos 0 <ℤ a → (neg_ℤ a <ℤ r) × (r <ℤ a)
abs_above (pos r) (pos a) h k = (omega (arith, ints, h), omega (arith, ints, h))
abs_above (negsuc r) (pos a) h k = (omega (arith, ints, h), omega (arith, ints, h))
abs_above r (negsuc a) h k = absurd (omega (arith, ints))

abs_below : (r a : ℤ) → unsigned_abs r < unsigned_abs a → a <ℤ pos 0 → (a <ℤ r) × (r <ℤ neg_ℤ a)
abs_below r (pos a) h k = absurd (omega (arith, ints))
abs_below (pos r) (negsuc a) h k = (omega (arith, ints, h), omega (arith, ints, h))
abs_below (negsuc r) (negsuc a) h k = (omega (arith, ints, h), omega (arith, ints, h))

some_abs : (a : ℤ) → ¬ (a ≡ pos 0) → 0 < unsigned_abs a
some_abs (pos zero) some = absurd (some refl)
some_abs (pos (suc n)) some = omega arith
some_abs (negsuc n) some = omega arith

up_over : (p p' q r a : ℤ) → p ≡ q +ℤ r → p' ≡ p +ℤ a → p' ≤ℤ q → neg_ℤ a <ℤ r → ⊥
up_over p p' q r a e f h k = omega (arith, ints)

up_under : (p q q' r a : ℤ) → p ≡ q +ℤ r → q' ≡ q +ℤ a → q' ≤ℤ p → r <ℤ a → ⊥
up_under p q q' r a e f h k = omega (arith, ints)

down_over : (p p' q r a : ℤ) → p ≡ q +ℤ r → p' ≡ p +ℤ a → q ≤ℤ p' → r <ℤ neg_ℤ a → ⊥
down_over p p' q r a e f h k = omega (arith, ints)

down_under : (p q q' r a : ℤ) → p ≡ q +ℤ r → q' ≡ q +ℤ a → p ≤ℤ q' → a <ℤ r → ⊥
down_under p q q' r a e f h k = omega (arith, ints)

-- a product plus less than the factor is another product only where the two are one
same_factor : (a v q r : ℤ) → ¬ (a ≡ pos 0) → unsigned_abs r < unsigned_abs a → a *ℤ v ≡ (a *ℤ q) +ℤ r → q ≡ v
same_factor a v q r some h e = elim (order_cases a (pos 0)) [
  | inl none ↦ absurd (some none)
  | inr (inl below) ↦
      let b = abs_below r a h below in
      elim (order_cases v q) [
        | inl same ↦ sym same
        | inr (inl less) ↦ absurd (down_over (a *ℤ v) (a *ℤ (v +ℤ pos 1)) (a *ℤ q) r a e (next_product a v) (times_turns a (v +ℤ pos 1) q (omega (arith, ints)) (omega (arith, ints))) b.1)
        | inr (inr more) ↦ absurd (down_under (a *ℤ v) (a *ℤ q) (a *ℤ (q +ℤ pos 1)) r a e (next_product a q) (times_turns a (q +ℤ pos 1) v (omega (arith, ints)) (omega (arith, ints))) b.0)
      ]
  | inr (inr above) ↦
      let b = abs_above r a h above in
      elim (order_cases v q) [
        | inl same ↦ sym same
        | inr (inl less) ↦ absurd (up_over (a *ℤ v) (a *ℤ (v +ℤ pos 1)) (a *ℤ q) r a e (next_product a v) (times_keeps a (v +ℤ pos 1) q (omega (arith, ints)) (omega (arith, ints))) b.0)
        | inr (inr more) ↦ absurd (up_under (a *ℤ v) (a *ℤ q) (a *ℤ (q +ℤ pos 1)) r a e (next_product a q) (times_keeps a (q +ℤ pos 1) v (omega (arith, ints)) (omega (arith, ints))) b.1)
      ]
]

divided : (n a : ℤ) → n ≡ (a *ℤ int_div n a) +ℤ int_rem n a
divided n a = sym (quot-rem n a) ∙ ap (λ z. z +ℤ int_rem n a) (*ℤ_comm (int_div n a) a)

-- a number that is a product has the other factor as its quotient
pub quotient_of : (a v n : ℤ) → ¬ (a ≡ pos 0) → a *ℤ v ≡ n → int_div n a ≡ v
quotient_of a v n some e = same_factor a v (int_div n a) (int_rem n a) some (rem_below n a (some_abs a some)) (e ∙ divided n a)

nothing_left : (n p r : ℤ) → n ≡ p +ℤ r → p ≡ n → r ≡ pos 0
nothing_left n p r e f = omega (arith, ints)

-- and no remainder
pub remainder_of : (a v n : ℤ) → ¬ (a ≡ pos 0) → a *ℤ v ≡ n → int_rem n a ≡ pos 0
remainder_of a v n some e = nothing_left n (a *ℤ int_div n a) (int_rem n a) (divided n a) (ap (λ z. a *ℤ z) (quotient_of a v n some e) ∙ e)

all_left : (n p r : ℤ) → n ≡ p +ℤ r → r ≡ pos 0 → p ≡ n
all_left n p r e f = omega (arith, ints)

-- where there is no remainder, the quotient is the other factor
pub factor_of : (a n : ℤ) → int_rem n a ≡ pos 0 → a *ℤ int_div n a ≡ n
factor_of a n e = all_left n (a *ℤ int_div n a) (int_rem n a) (divided n a) e

-- ---- as the code reads them

abs_opposite : (n : ℕ) → unsigned_abs (neg_ℤ (pos n)) ≡ n
abs_opposite zero = refl
abs_opposite (suc n) = refl

quotient_abs : (n a : ℤ) → unsigned_abs (int_div n a) ≤ unsigned_abs n
quotient_abs (pos n) (pos a) = div-le_self n a
quotient_abs (pos n) (negsuc a) = omega (arith, abs_opposite (n / suc a), div-le_self n (suc a))
quotient_abs (negsuc n) (pos a) = omega (arith, abs_opposite (suc n / a), div-le_self (suc n) a)
quotient_abs (negsuc n) (negsuc a) = div-le_self (suc n) (suc a)

bounded_abs : (n : ℤ) → IsBounded (10 ^ 38) n → unsigned_abs n < 2 ^ 127
bounded_abs (pos n) h = omega (arith, ints, h.1)
bounded_abs (negsuc n) h = omega (arith, ints, h.0)

-- the quotient
pub quotient_bits : (a n a' n' : ℤ) → a' ≡ a → n' ≡ n → IsBounded (10 ^ 38) n → to_z w128 (of_z w128 (int_div n' a')) ≡ int_div n a
quotient_bits a n a' n' e f h =
    ap (λ z. to_z w128 (of_z w128 (int_div z a'))) f ∙ ap (λ z. to_z w128 (of_z w128 (int_div n z))) e
    ∙ to_z-of_z w128 (int_div n a) (fits_signed_from_abs w128 (int_div n a) (omega (arith, quotient_abs n a, bounded_abs n h)))

-- a number whose bits are zero
pub zero_bits : (z : ℤ) → FitsSigned w128 z → of_z w128 z ≡ 0 → z ≡ pos 0
zero_bits z fits e = sym (to_z-of_z w128 z fits) ∙ ap (to_z w128) e

small_abs : (r a : ℤ) → unsigned_abs r < unsigned_abs a → IsBounded (10 ^ 16) a → unsigned_abs r < 2 ^ 127
small_abs r (pos a) h b = omega (arith, ints, h, b.1)
small_abs r (negsuc a) h b = omega (arith, ints, h, b.0)

-- a remainder whose bits are zero
pub remainder_bits : (a n a' n' : ℤ) → a' ≡ a → n' ≡ n → ¬ (a ≡ pos 0) → IsBounded (10 ^ 16) a → of_z w128 (int_rem n' a') ≡ 0 → int_rem n a ≡ pos 0
remainder_bits a n a' n' e f some b z =
    zero_bits (int_rem n a) (fits_signed_from_abs w128 (int_rem n a) (small_abs (int_rem n a) a (rem_below n a (some_abs a some)) b))
    (sym (ap (λ z. of_z w128 (int_rem z a')) f ∙ ap (λ z. of_z w128 (int_rem n z)) e) ∙ z)

-- a product has no bits of a remainder
pub no_remainder : (a v n a' n' : ℤ) → a' ≡ a → n' ≡ n → ¬ (a ≡ pos 0) → a *ℤ v ≡ n → of_z w128 (int_rem n' a') ≡ 0
no_remainder a v n a' n' e f some is =
    ap (λ z. of_z w128 (int_rem z a')) f ∙ ap (λ z. of_z w128 (int_rem n z)) e ∙ ap (of_z w128) (remainder_of a v n some is)
