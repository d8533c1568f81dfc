-- Products and sums of integers.
use Rattle.std.proofs.Common.{◌≡◌, ℤ, pos, neg_ℤ, ◌+ℤ◌, ◌-ℤ◌, ◌*ℤ◌, sym, ◌∙◌, ap, arith}
use Rattle.std.proofs.lemmas.Int.{ints}
use Rattle.std.proofs.Math.IntN.{+ℤ_assoc, +ℤ_idr, +ℤ_invl, +ℤ_one, -ℤ_one, suc_ℤ-*ℤ, pred_ℤ-*ℤ, zero-*ℤ, ℤ_ind}

one_more : (b v : ℤ) → (b +ℤ pos 1) *ℤ v ≡ (b *ℤ v) +ℤ v
one_more b v = ap (λ c. c *ℤ v) (+ℤ_one b) ∙ suc_ℤ-*ℤ b v

one_less : (b v : ℤ) → (b -ℤ pos 1) *ℤ v ≡ (b *ℤ v) -ℤ v
one_less b v = ap (λ c. c *ℤ v) (-ℤ_one b) ∙ pred_ℤ-*ℤ b v

plus_none : (a v : ℤ) → (a +ℤ pos 0) *ℤ v ≡ (a *ℤ v) +ℤ (pos 0 *ℤ v)
plus_none a v =
    let none : pos 0 *ℤ v ≡ pos 0 = zero-*ℤ v in
    ap (λ c. c *ℤ v) (+ℤ_idr a) ∙ sym (ap (λ c. (a *ℤ v) +ℤ c) none ∙ +ℤ_idr (a *ℤ v))

sum_up : (x y z v : ℤ) → x ≡ y +ℤ z → x +ℤ v ≡ y +ℤ (z +ℤ v)
sum_up x y z v e = omega (arith, ints)

sum_down : (x y z v : ℤ) → x ≡ y +ℤ z → x -ℤ v ≡ y +ℤ (z -ℤ v)
sum_down x y z v e = omega (arith, ints)

plus_more : (a b v : ℤ) → (a +ℤ b) *ℤ v ≡ (a *ℤ v) +ℤ (b *ℤ v) → (a +ℤ (b +ℤ pos 1)) *ℤ v ≡ (a *ℤ v) +ℤ ((b +ℤ pos 1) *ℤ v)
plus_more a b v h =
    ap (λ c. c *ℤ v) (sym (+ℤ_assoc a b (pos 1))) ∙ one_more (a +ℤ b) v
    ∙ sum_up ((a +ℤ b) *ℤ v) (a *ℤ v) (b *ℤ v) v h ∙ ap (λ c. (a *ℤ v) +ℤ c) (sym (one_more b v))

plus_less : (a b v : ℤ) → (a +ℤ b) *ℤ v ≡ (a *ℤ v) +ℤ (b *ℤ v) → (a +ℤ (b +ℤ neg_ℤ (pos 1))) *ℤ v ≡ (a *ℤ v) +ℤ ((b +ℤ neg_ℤ (pos 1)) *ℤ v)
plus_less a b v h =
    ap (λ c. c *ℤ v) (sym (+ℤ_assoc a b (neg_ℤ (pos 1)))) ∙ one_less (a +ℤ b) v
    ∙ sum_down ((a +ℤ b) *ℤ v) (a *ℤ v) (b *ℤ v) v h ∙ ap (λ c. (a *ℤ v) +ℤ c) (sym (one_less b v))

-- a sum times a number
pub times_plus : (a b v : ℤ) → (a +ℤ b) *ℤ v ≡ (a *ℤ v) +ℤ (b *ℤ v)
times_plus a b v =
    ℤ_ind (λ c. (a +ℤ c) *ℤ v ≡ (a *ℤ v) +ℤ (c *ℤ v)) (plus_none a v) (λ n h. plus_more a (pos n) v h) (λ n h. plus_less a (neg_ℤ (pos n)) v h) b

opposite_by : (x y : ℤ) → x +ℤ y ≡ pos 0 → x ≡ neg_ℤ y
opposite_by x y e = omega (arith, ints)

-- the opposite of a number times another
pub times_opposite : (a v : ℤ) → neg_ℤ a *ℤ v ≡ neg_ℤ (a *ℤ v)
times_opposite a v = opposite_by (neg_ℤ a *ℤ v) (a *ℤ v) (sym (times_plus (neg_ℤ a) a v) ∙ ap (λ c. c *ℤ v) (+ℤ_invl a) ∙ zero-*ℤ v)

-- nothing times a number
pub times_none : (v : ℤ) → pos 0 *ℤ v ≡ pos 0
times_none v = zero-*ℤ v
