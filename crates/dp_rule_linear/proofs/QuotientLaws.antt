-- Quotients: the greatest factor whose product stays within a number.
use Rattle.std.proofs.Common.{◌≡◌, zero, suc, ◌%◌, ◌<◌, ℤ, pos, negsuc, neg_ℤ, ◌+ℤ◌, ◌-ℤ◌, ◌*ℤ◌, ◌≤ℤ◌, ◌<ℤ◌, int_le, int_div, int_rem, sym, ◌∙◌, ap, inl, inr, arith}
use Rattle.std.proofs.lemmas.Int.{ints, quot-rem}
use Rattle.std.proofs.lemmas.Bool.{cases_Bool}
use Rattle.std.proofs.Math.Nat.{mod-lt}
use Rattle.std.proofs.Math.IntN.{one, *ℤ_comm, *ℤ-one, +ℤ_assoc, +ℤ_idr, +ℤ_one, -ℤ_one, suc_ℤ-*ℤ, pred_ℤ-*ℤ, zero-*ℤ, ℤ_ind}
use Rattle.dp_domain.proofs.AtomLaws.{le-from_test, lt-from_test, test-from_le, test-from_lt}
use Rattle.dp_rule_linear.specs.IntLaws.{times_keeps}

-- ---- products of sums

one_more : (b v : ℤ) → (b +ℤ pos 1) *ℤ v ≡ (b *ℤ v) +ℤ v
one_more b v = ap (λ c. c *ℤ v) (+ℤ_one b) ∙ suc_ℤ-*ℤ b v

one_less : (b v : ℤ) → (b -ℤ pos 1) *ℤ v ≡ (b *ℤ v) -ℤ v
one_less b v = ap (λ c. c *ℤ v) (-ℤ_one b) ∙ pred_ℤ-*ℤ b v

plus_none : (a v : ℤ) → (a +ℤ pos 0) *ℤ v ≡ (a *ℤ v) +ℤ (pos 0 *ℤ v)
plus_none a v =
    let none : pos 0 *ℤ v ≡ pos 0 = zero-*ℤ v in
    ap (λ c. c *ℤ v) (+ℤ_idr a) ∙ sym (ap (λ c. (a *ℤ v) +ℤ c) none ∙ +ℤ_idr (a *ℤ v))

sum_up : (x y z v : ℤ) → x ≡ y +ℤ z → x +ℤ v ≡ y +ℤ (z +ℤ v)
sum_up x y z v e = omega (arith, ints)

sum_down : (x y z v : ℤ) → x ≡ y +ℤ z → x -ℤ v ≡ y +ℤ (z -ℤ v)
sum_down x y z v e = omega (arith, ints)

plus_more : (a b v : ℤ) → (a +ℤ b) *ℤ v ≡ (a *ℤ v) +ℤ (b *ℤ v) → (a +ℤ (b +ℤ pos 1)) *ℤ v ≡ (a *ℤ v) +ℤ ((b +ℤ pos 1) *ℤ v)
plus_more a b v h =
    ap (λ c. c *ℤ v) (sym (+ℤ_assoc a b (pos 1))) ∙ one_more (a +ℤ b) v
    ∙ sum_up ((a +ℤ b) *ℤ v) (a *ℤ v) (b *ℤ v) v h ∙ ap (λ c. (a *ℤ v) +ℤ c) (sym (one_more b v))

plus_less : (a b v : ℤ) → (a +ℤ b) *ℤ v ≡ (a *ℤ v) +ℤ (b *ℤ v) → (a +ℤ (b +ℤ neg_ℤ (pos 1))) *ℤ v ≡ (a *ℤ v) +ℤ ((b +ℤ neg_ℤ (pos 1)) *ℤ v)
plus_less a b v h =
    ap (λ c. c *ℤ v) (sym (+ℤ_assoc a b (neg_ℤ (pos 1)))) ∙ one_less (a +ℤ b) v
    ∙ sum_down ((a +ℤ b) *ℤ v) (a *ℤ v) (b *ℤ v) v h ∙ ap (λ c. (a *ℤ v) +ℤ c) (sym (one_less b v))

times_plus : (a b v : ℤ) → (a +ℤ b) *ℤ v ≡ (a *ℤ v) +ℤ (b *ℤ v)
times_plus a b v =
    ℤ_ind (λ c. (a +ℤ c) *ℤ v ≡ (a *ℤ v) +ℤ (c *ℤ v)) (plus_none a v) (λ n h. plus_more a (pos n) v h) (λ n h. plus_less a (neg_ℤ (pos n)) v h) b

-- a number times a sum
pub times_over : (a x y : ℤ) → a *ℤ (x +ℤ y) ≡ (a *ℤ x) +ℤ (a *ℤ y)
times_over a x y = *ℤ_comm a (x +ℤ y) ∙ times_plus x y a ∙ ap (λ z. z +ℤ (y *ℤ a)) (*ℤ_comm x a) ∙ ap (λ z. (a *ℤ x) +ℤ z) (*ℤ_comm y a)

pub next_product : (a x : ℤ) → a *ℤ (x +ℤ pos 1) ≡ (a *ℤ x) +ℤ a
unfolding one
next_product a x = times_over a x (pos 1) ∙ ap (λ z. (a *ℤ x) +ℤ z) (*ℤ-one a)

-- the product of the opposites is the product
pub opposites : (a x : ℤ) → neg_ℤ a *ℤ neg_ℤ x ≡ a *ℤ x
opposites a x = grind (arith, ints)

-- ---- quotients

-- the remainder is not negative, and less than the divisor
remainder : (s b : ℤ) → pos 0 ≤ℤ s → pos 0 <ℤ b → (pos 0 ≤ℤ int_rem s b) × (int_rem s b <ℤ b)
remainder (pos s) (pos zero) h k = absurd (omega (arith, ints))
remainder (pos s) (pos (suc b)) h k = let m : s % suc b < suc b = mod-lt s (omega arith) in (omega (arith, ints), omega (arith, ints))
remainder (pos s) (negsuc b) h k = absurd (omega (arith, ints))
remainder (negsuc s) b h k = absurd (omega (arith, ints))

below : (p q t u s r b z : ℤ) → p ≤ℤ q → q ≡ u +ℤ t → t +ℤ r ≡ s → pos 0 ≤ℤ r → p ≤ℤ (s +ℤ u)
below p q t u s r b z h e f g = omega (arith, ints)

above : (p q t u s r b : ℤ) → q ≤ℤ p → q ≡ u +ℤ t +ℤ b → t +ℤ r ≡ s → r <ℤ b → (s +ℤ u) <ℤ p
above p q t u s r b h e f g = omega (arith, ints)

one_over_by : (p p' y q b : ℤ) → p' ≡ y +ℤ q → p ≡ p' +ℤ b → p ≡ y +ℤ q +ℤ b
one_over_by p p' y q b e f = omega (arith, ints)

one_over : (b y q : ℤ) → b *ℤ ((y +ℤ q) +ℤ pos 1) ≡ (b *ℤ y) +ℤ (q *ℤ b) +ℤ b
one_over b y q =
    one_over_by (b *ℤ ((y +ℤ q) +ℤ pos 1)) (b *ℤ (y +ℤ q)) (b *ℤ y) (q *ℤ b) b
    (times_over b y q ∙ ap (λ z. (b *ℤ y) +ℤ z) (*ℤ_comm b q))
    (next_product b (y +ℤ q))

-- a positive factor's product exceeds that of another by at most a number where the factor exceeds the other by at most the quotient
pub within-quotient : (b x y s : ℤ) → pos 0 <ℤ b → pos 0 ≤ℤ s → int_le (b *ℤ x) (s +ℤ (b *ℤ y)) ≡ int_le x (y +ℤ int_div s b)
within-quotient b x y s sign h =
    let q = int_div s b in
    let r = remainder s b h sign in
    elim (cases_Bool (int_le x (y +ℤ q))) [
      | inl e ↦
          test-from_le (b *ℤ x) (s +ℤ (b *ℤ y))
          (below (b *ℤ x) (b *ℤ (y +ℤ q)) (q *ℤ b) (b *ℤ y) s (int_rem s b) b x
          (times_keeps b x (y +ℤ q) (omega (arith, ints)) (le-from_test x (y +ℤ q) e))
          (times_over b y q ∙ ap (λ z. (b *ℤ y) +ℤ z) (*ℤ_comm b q)) (quot-rem s b) r.0)
          ∙ sym e
      | inr e ↦
          let l = lt-from_test x (y +ℤ q) e in
          test-from_lt (b *ℤ x) (s +ℤ (b *ℤ y))
          (above (b *ℤ x) (b *ℤ ((y +ℤ q) +ℤ pos 1)) (q *ℤ b) (b *ℤ y) s (int_rem s b) b
          (times_keeps b ((y +ℤ q) +ℤ pos 1) x (omega (arith, ints)) (omega (arith, ints)))
          (one_over b y q) (quot-rem s b) r.1)
          ∙ sym e
    ]
