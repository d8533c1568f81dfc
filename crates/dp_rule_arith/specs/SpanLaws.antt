-- The spans of products, maxima, minima and absolute values: no result lies outside, and both ends are results.
use Rattle.std.specs.Prelude.{◌≡◌, zero, suc, Bool, true, false, ◌⊎◌, unsigned_abs, ℤ, pos, negsuc, neg_ℤ, ◌*ℤ◌, ◌≤ℤ◌, ◌<ℤ◌, int_lt}
use Rattle.std.specs.Int.{int_min, int_max}
use Rattle.std.proofs.Common.{refl, sym, ◌∙◌, ap, subst, inl, inr, arith, cond}
use Rattle.std.proofs.Math.IntN.{*ℤ_comm}
use Rattle.std.proofs.Math.Nat.{mul-le-mul_left}
use Rattle.std.proofs.lemmas.Int.{ints}
use borrow.Author.Differences.{le_out}
use Rattle.dp_domain.specs.Sets.{LiesBetween}
use Rattle.dp_domain.proofs.AtomLaws.{order_cases}
use Rattle.dp_rule_arith.specs.Operations.{absolute_span, greater_span, lesser_span, product_span}
use Rattle.dp_rule_arith.specs.OperationLaws.{IsSpanOf}

-- ---- the lesser and the greater of two

min_by : (x y : ℤ) (b : Bool) → int_lt y x ≡ b → (cond b y x ≤ℤ x) × (cond b y x ≤ℤ y) × ((cond b y x ≡ x) ⊎ (cond b y x ≡ y))
min_by x y true e = (omega (arith, ints), omega (arith, ints), inr refl)
min_by x y false e = (omega (arith, ints), omega (arith, ints), inl refl)

min_of : (x y : ℤ) → (int_min x y ≤ℤ x) × (int_min x y ≤ℤ y) × ((int_min x y ≡ x) ⊎ (int_min x y ≡ y))
min_of x y = min_by x y (int_lt y x) refl

max_by : (x y : ℤ) (b : Bool) → int_lt y x ≡ b → (x ≤ℤ cond b x y) × (y ≤ℤ cond b x y) × ((cond b x y ≡ x) ⊎ (cond b x y ≡ y))
max_by x y true e = (omega (arith, ints), omega (arith, ints), inl refl)
max_by x y false e = (omega (arith, ints), omega (arith, ints), inr refl)

max_of : (x y : ℤ) → (x ≤ℤ int_max x y) × (y ≤ℤ int_max x y) × ((int_max x y ≡ x) ⊎ (int_max x y ≡ y))
max_of x y = max_by x y (int_lt y x) refl

-- what holds of both holds of the lesser
min_has : (P : ℤ → Type 0) (x y : ℤ) → P x → P y → P (int_min x y)
min_has P x y p q = elim ((min_of x y).2) [
  | inl e ↦ subst P (sym e) p
  | inr e ↦ subst P (sym e) q
]

-- what holds of both holds of the greater
max_has : (P : ℤ → Type 0) (x y : ℤ) → P x → P y → P (int_max x y)
max_has P x y p q = elim ((max_of x y).2) [
  | inl e ↦ subst P (sym e) p
  | inr e ↦ subst P (sym e) q
]

le_itself : (v : ℤ) → v ≤ℤ v
le_itself v = omega (arith, ints)

at_most_both : (a b c : ℤ) → a ≤ℤ b → b ≤ℤ c → a ≤ℤ c
at_most_both a b c h k = omega (arith, ints)

-- ---- products

times_keeps : (a x y : ℤ) → pos 0 ≤ℤ a → x ≤ℤ y → (a *ℤ x) ≤ℤ (a *ℤ y)
times_keeps (pos n) x y sign h = omega (arith, ints, mul-le-mul_left n (le_out x y h))
times_keeps (negsuc n) x y sign h = absurd (omega (arith, ints))

times_turns : (a x y : ℤ) → a ≤ℤ pos 0 → x ≤ℤ y → (a *ℤ y) ≤ℤ (a *ℤ x)
times_turns (pos zero) x y sign h = omega (arith, ints)
times_turns (pos (suc n)) x y sign h = absurd (omega (arith, ints))
times_turns (negsuc n) x y sign h = omega (arith, ints, mul-le-mul_left (suc n) (le_out x y h))

sign_of : (k : ℤ) → (pos 0 ≤ℤ k) ⊎ (k ≤ℤ pos 0)
sign_of (pos n) = inl (omega (arith, ints))
sign_of (negsuc n) = inr (omega (arith, ints))

-- a product with a number between two is no less than the products with both, if those are not
over : (m k a b x : ℤ) → a ≤ℤ x → x ≤ℤ b → m ≤ℤ (k *ℤ a) → m ≤ℤ (k *ℤ b) → m ≤ℤ (k *ℤ x)
over m k a b x h l p q = elim (sign_of k) [
  | inl sign ↦ at_most_both m (k *ℤ a) (k *ℤ x) p (times_keeps k a x sign h)
  | inr sign ↦ at_most_both m (k *ℤ b) (k *ℤ x) q (times_turns k x b sign l)
]

under : (m k a b x : ℤ) → a ≤ℤ x → x ≤ℤ b → (k *ℤ a) ≤ℤ m → (k *ℤ b) ≤ℤ m → (k *ℤ x) ≤ℤ m
under m k a b x h l p q = elim (sign_of k) [
  | inl sign ↦ at_most_both (k *ℤ x) (k *ℤ b) m (times_keeps k x b sign l) q
  | inr sign ↦ at_most_both (k *ℤ x) (k *ℤ a) m (times_turns k a x sign h) p
]

over_first : (m k a b x : ℤ) → a ≤ℤ x → x ≤ℤ b → m ≤ℤ (a *ℤ k) → m ≤ℤ (b *ℤ k) → m ≤ℤ (x *ℤ k)
over_first m k a b x h l p q =
    subst (λ z. m ≤ℤ z) (*ℤ_comm k x) (over m k a b x h l (subst (λ z. m ≤ℤ z) (*ℤ_comm a k) p) (subst (λ z. m ≤ℤ z) (*ℤ_comm b k) q))

under_first : (m k a b x : ℤ) → a ≤ℤ x → x ≤ℤ b → (a *ℤ k) ≤ℤ m → (b *ℤ k) ≤ℤ m → (x *ℤ k) ≤ℤ m
under_first m k a b x h l p q =
    subst (λ z. z ≤ℤ m) (*ℤ_comm k x) (under m k a b x h l (subst (λ z. z ≤ℤ m) (*ℤ_comm a k) p) (subst (λ z. z ≤ℤ m) (*ℤ_comm b k) q))

-- a number that is at most four is at most each product between; and so for one that is at least four
over_corners : (m a b a' b' x y : ℤ) → a ≤ℤ x → x ≤ℤ b → a' ≤ℤ y → y ≤ℤ b' → m ≤ℤ (a *ℤ a') → m ≤ℤ (a *ℤ b') → m ≤ℤ (b *ℤ a') → m ≤ℤ (b *ℤ b') → m ≤ℤ (x *ℤ y)
over_corners m a b a' b' x y h l h' l' p q r s = over m x a' b' y h' l' (over_first m a' a b x h l p r) (over_first m b' a b x h l q s)

under_corners : (m a b a' b' x y : ℤ) → a ≤ℤ x → x ≤ℤ b → a' ≤ℤ y → y ≤ℤ b' → (a *ℤ a') ≤ℤ m → (a *ℤ b') ≤ℤ m → (b *ℤ a') ≤ℤ m → (b *ℤ b') ≤ℤ m → (x *ℤ y) ≤ℤ m
under_corners m a b a' b' x y h l h' l' p q r s = under m x a' b' y h' l' (under_first m a' a b x h l p r) (under_first m b' a b x h l q s)

least_of_four : (p q r s : ℤ) → (int_min (int_min p q) (int_min r s) ≤ℤ p) × (int_min (int_min p q) (int_min r s) ≤ℤ q) × (int_min (int_min p q) (int_min r s) ≤ℤ r) × (int_min (int_min p q) (int_min r s) ≤ℤ s)
least_of_four p q r s =
    let m = int_min (int_min p q) (int_min r s) in
    let o = min_of (int_min p q) (int_min r s) in
    (at_most_both m (int_min p q) p o.0 (min_of p q).0, at_most_both m (int_min p q) q o.0 (min_of p q).1, at_most_both m (int_min r s) r o.1 (min_of r s).0, at_most_both m (int_min r s) s o.1 (min_of r s).1)

greatest_of_four : (p q r s : ℤ) → (p ≤ℤ int_max (int_max p q) (int_max r s)) × (q ≤ℤ int_max (int_max p q) (int_max r s)) × (r ≤ℤ int_max (int_max p q) (int_max r s)) × (s ≤ℤ int_max (int_max p q) (int_max r s))
greatest_of_four p q r s =
    let m = int_max (int_max p q) (int_max r s) in
    let o = max_of (int_max p q) (int_max r s) in
    (at_most_both p (int_max p q) m (max_of p q).0 o.0, at_most_both q (int_max p q) m (max_of p q).1 o.0, at_most_both r (int_max r s) m (max_of r s).0 o.1, at_most_both s (int_max r s) m (max_of r s).1 o.1)

-- the number is the operation's result for two numbers between the ends
abbrev IsResult : (ℤ → ℤ → ℤ) → ℤ × ℤ → ℤ × ℤ → ℤ → Type 0
IsResult f i j z = (x : ℤ) × (y : ℤ) × LiesBetween i x × LiesBetween j y × (z ≡ f x y)

corner : (f : ℤ → ℤ → ℤ) (i j : ℤ × ℤ) (x y : ℤ) → LiesBetween i x → LiesBetween j y → IsResult f i j (f x y)
corner f i j x y h k = (x, y, h, k, refl)

first_end : (i : ℤ × ℤ) → i.0 ≤ℤ i.1 → LiesBetween i i.0
first_end i h = (le_itself i.0, h)

last_end : (i : ℤ × ℤ) → i.0 ≤ℤ i.1 → LiesBetween i i.1
last_end i h = (h, le_itself i.1)

pub product_span_of : IsSpanOf (λ x y. x *ℤ y) product_span
product_span_of = record {
  holds = λ i j x y h k.
      let l = least_of_four (i.0 *ℤ j.0) (i.0 *ℤ j.1) (i.1 *ℤ j.0) (i.1 *ℤ j.1) in
      let g = greatest_of_four (i.0 *ℤ j.0) (i.0 *ℤ j.1) (i.1 *ℤ j.0) (i.1 *ℤ j.1) in
      (over_corners (product_span i j).0 i.0 i.1 j.0 j.1 x y h.0 h.1 k.0 k.1 l.0 l.1 l.2 l.3, under_corners (product_span i j).1 i.0 i.1 j.0 j.1 x y h.0 h.1 k.0 k.1 g.0 g.1 g.2 g.3);
  low = λ i j h k.
      let P = IsResult (λ x y. x *ℤ y) i j in
      let at = corner (λ x y. x *ℤ y) i j in
      min_has P (int_min (i.0 *ℤ j.0) (i.0 *ℤ j.1)) (int_min (i.1 *ℤ j.0) (i.1 *ℤ j.1))
      (min_has P (i.0 *ℤ j.0) (i.0 *ℤ j.1) (at i.0 j.0 (first_end i h) (first_end j k)) (at i.0 j.1 (first_end i h) (last_end j k)))
      (min_has P (i.1 *ℤ j.0) (i.1 *ℤ j.1) (at i.1 j.0 (last_end i h) (first_end j k)) (at i.1 j.1 (last_end i h) (last_end j k)));
  high = λ i j h k.
      let P = IsResult (λ x y. x *ℤ y) i j in
      let at = corner (λ x y. x *ℤ y) i j in
      max_has P (int_max (i.0 *ℤ j.0) (i.0 *ℤ j.1)) (int_max (i.1 *ℤ j.0) (i.1 *ℤ j.1))
      (max_has P (i.0 *ℤ j.0) (i.0 *ℤ j.1) (at i.0 j.0 (first_end i h) (first_end j k)) (at i.0 j.1 (first_end i h) (last_end j k)))
      (max_has P (i.1 *ℤ j.0) (i.1 *ℤ j.1) (at i.1 j.0 (last_end i h) (first_end j k)) (at i.1 j.1 (last_end i h) (last_end j k)));
}

-- ---- the greater and the lesser

max_keeps : (a b x y : ℤ) → a ≤ℤ x → b ≤ℤ y → int_max a b ≤ℤ int_max x y
max_keeps a b x y h k =
    max_has (λ z. z ≤ℤ int_max x y) a b (at_most_both a x (int_max x y) h (max_of x y).0) (at_most_both b y (int_max x y) k (max_of x y).1)

min_keeps : (a b x y : ℤ) → a ≤ℤ x → b ≤ℤ y → int_min a b ≤ℤ int_min x y
min_keeps a b x y h k =
    min_has (λ z. int_min a b ≤ℤ z) x y (at_most_both (int_min a b) a x (min_of a b).0 h) (at_most_both (int_min a b) b y (min_of a b).1 k)

pub greater_span_of : IsSpanOf int_max greater_span
greater_span_of = record {
  holds = λ i j x y h k. (max_keeps i.0 j.0 x y h.0 k.0, max_keeps x y i.1 j.1 h.1 k.1);
  low = λ i j h k. corner int_max i j i.0 j.0 (first_end i h) (first_end j k);
  high = λ i j h k. corner int_max i j i.1 j.1 (last_end i h) (last_end j k);
}

pub lesser_span_of : IsSpanOf int_min lesser_span
lesser_span_of = record {
  holds = λ i j x y h k. (min_keeps i.0 j.0 x y h.0 k.0, min_keeps x y i.1 j.1 h.1 k.1);
  low = λ i j h k. corner int_min i j i.0 j.0 (first_end i h) (first_end j k);
  high = λ i j h k. corner int_min i j i.1 j.1 (last_end i h) (last_end j k);
}

-- ---- absolute values

-- the number without its sign is the number, or its opposite
abs_is : (x : ℤ) → ((pos 0 ≤ℤ x) × (pos (unsigned_abs x) ≡ x)) ⊎ ((x <ℤ pos 0) × (pos (unsigned_abs x) ≡ neg_ℤ x))
abs_is (pos n) = inl (omega (arith, ints), refl)
abs_is (negsuc n) = inr (omega (arith, ints), refl)

abs_over : (x z : ℤ) → z ≡ pos (unsigned_abs x) → (pos 0 ≤ℤ z) × (x ≤ℤ z) × (neg_ℤ x ≤ℤ z)
abs_over x z e = elim (abs_is x) [
  | inl h ↦ let s = h.0 in let t = h.1 in (omega (arith, ints), omega (arith, ints), omega (arith, ints))
  | inr h ↦ let s = h.0 in let t = h.1 in (omega (arith, ints), omega (arith, ints), omega (arith, ints))
]

abs_same : (x : ℤ) → pos 0 ≤ℤ x → x ≡ pos (unsigned_abs x)
abs_same x sign = elim (abs_is x) [
  | inl h ↦ sym h.1
  | inr h ↦ let s = h.0 in absurd (omega (arith, ints))
]

abs_opposite : (x : ℤ) → x ≤ℤ pos 0 → neg_ℤ x ≡ pos (unsigned_abs x)
abs_opposite x sign = elim (abs_is x) [
  | inl h ↦ let s = h.0 in let t = h.1 in omega (arith, ints)
  | inr h ↦ sym h.1
]

low_holds : (a b x z : ℤ) → a ≤ℤ x → x ≤ℤ b → z ≡ pos (unsigned_abs x) → int_max (pos 0) (int_max a (neg_ℤ b)) ≤ℤ z
low_holds a b x z h k e =
    let o = abs_over x z e in
    max_has (λ w. w ≤ℤ z) (pos 0) (int_max a (neg_ℤ b)) o.0
    (max_has (λ w. w ≤ℤ z) a (neg_ℤ b) (at_most_both a x z h o.1) (at_most_both (neg_ℤ b) (neg_ℤ x) z (turned x b k) o.2))
  where
    turned : (x b : ℤ) → x ≤ℤ b → neg_ℤ b ≤ℤ neg_ℤ x
    turned x b k = omega (arith, ints)

high_holds : (a b x : ℤ) → a ≤ℤ x → x ≤ℤ b → pos (unsigned_abs x) ≤ℤ int_max (neg_ℤ a) b
high_holds a b x h k = elim (abs_is x) [
  | inl r ↦ subst (λ z. z ≤ℤ int_max (neg_ℤ a) b) (sym r.1) (at_most_both x b (int_max (neg_ℤ a) b) k (max_of (neg_ℤ a) b).1)
  | inr r ↦ subst (λ z. z ≤ℤ int_max (neg_ℤ a) b) (sym r.1) (at_most_both (neg_ℤ x) (neg_ℤ a) (int_max (neg_ℤ a) b) (turned a x h) (max_of (neg_ℤ a) b).0)
]
  where
    turned : (a x : ℤ) → a ≤ℤ x → neg_ℤ x ≤ℤ neg_ℤ a
    turned a x k = omega (arith, ints)

-- the number is some number between the ends without its sign
abbrev IsSignless : ℤ × ℤ → ℤ → Type 0
IsSignless i z = (x : ℤ) × LiesBetween i x × (z ≡ pos (unsigned_abs x))

signless_low : (i : ℤ × ℤ) → i.0 ≤ℤ i.1 → IsSignless i (absolute_span i).0
signless_low i h =
    let inner = max_of i.0 (neg_ℤ i.1) in
    let outer = max_of (pos 0) (int_max i.0 (neg_ℤ i.1)) in
    elim (outer.2) [
      | inl zero_is ↦ (pos 0, between i.0 i.1 (int_max i.0 (neg_ℤ i.1)) (subst (λ z. int_max i.0 (neg_ℤ i.1) ≤ℤ z) zero_is outer.1) inner.0 inner.1, zero_is)
      | inr inner_is ↦
          let sign = subst (λ z. pos 0 ≤ℤ z) inner_is outer.0 in
          elim (inner.2) [
            | inl e ↦ (i.0, first_end i h, inner_is ∙ e ∙ abs_same i.0 (subst (λ z. pos 0 ≤ℤ z) e sign))
            | inr e ↦ (i.1, last_end i h, inner_is ∙ e ∙ abs_opposite i.1 (below i.1 (subst (λ z. pos 0 ≤ℤ z) e sign)))
          ]
    ]
  where
    below : (x : ℤ) → pos 0 ≤ℤ neg_ℤ x → x ≤ℤ pos 0
    below x k = omega (arith, ints)

    between : (a b m : ℤ) → m ≤ℤ pos 0 → a ≤ℤ m → neg_ℤ b ≤ℤ m → (a ≤ℤ pos 0) × (pos 0 ≤ℤ b)
    between a b m p q r = (omega (arith, ints), omega (arith, ints))

signless_high : (i : ℤ × ℤ) → i.0 ≤ℤ i.1 → IsSignless i (absolute_span i).1
signless_high i h =
    let o = max_of (neg_ℤ i.0) i.1 in
    elim (o.2) [
      | inl e ↦ (i.0, first_end i h, e ∙ abs_opposite i.0 (below i.0 i.1 h (subst (λ z. i.1 ≤ℤ z) e o.1)))
      | inr e ↦ (i.1, last_end i h, e ∙ abs_same i.1 (above i.0 i.1 h (subst (λ z. neg_ℤ i.0 ≤ℤ z) e o.0)))
    ]
  where
    below : (a b : ℤ) → a ≤ℤ b → b ≤ℤ neg_ℤ a → a ≤ℤ pos 0
    below a b p q = omega (arith, ints)

    above : (a b : ℤ) → a ≤ℤ b → neg_ℤ a ≤ℤ b → pos 0 ≤ℤ b
    above a b p q = omega (arith, ints)

pub absolute_span_of : IsSpanOf (λ x y. pos (unsigned_abs x)) (λ i j. absolute_span i)
absolute_span_of = record {
  holds = λ i j x y h k. (low_holds i.0 i.1 x (pos (unsigned_abs x)) h.0 h.1 refl, high_holds i.0 i.1 x h.0 h.1);
  low = λ i j h k. let r = signless_low i h in (r.0, j.0, r.1, first_end j k, r.2);
  high = λ i j h k. let r = signless_high i h in (r.0, j.0, r.1, first_end j k, r.2);
}
