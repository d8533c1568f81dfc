-- Items that differ pairwise in what they have of some things are no more than those things have sets.
use Rattle.std.proofs.Common.{◌≡◌, ℕ, suc, ◌+◌, ◌≤◌, ◌^◌, Bool, true, false, not, cond, ◌⊎◌, List, [], ◌∷◌, ◌++◌, length, append_assoc, refl, sym, ◌∙◌, ap, subst, inl, inr, arith}
use Rattle.std.specs.List.{filter}
use Rattle.std.proofs.lemmas.Bool.{false≢true, true≢false, not-true}
use Rattle.std.proofs.lemmas.List.Filters.{length-filter_both}
use Rattle.dp_base.specs.Lists.{Among, Each}
use Rattle.dp_base.proofs.Lists.{Among-append_right, Among-filter_only, Each-among, Each-from_among}

-- ---- pairs

-- each item stands in the relation to all that follow it
abbrev pub Pairwise : {A : Type 0} → (A → A → Type 0) → List A → Type 0
Pairwise R [] = Unit {0}
Pairwise R (x ∷ xs) = Each (R x) xs × Pairwise R xs

-- what stands among items stands between others
pub split_at : {A : Type 0} (xs : List A) (x : A) → Among x xs → (before : List A) × (after : List A) × (xs ≡ before ++ x ∷ after)
split_at [] x h = absurd h
split_at (y ∷ xs) x (inl e) = ([], xs, ap (λ z. z ∷ xs) (sym e))
split_at (y ∷ xs) x (inr h) = let r = split_at xs x h in (y ∷ r.0, r.1, ap (λ zs. y ∷ zs) r.2)

split_behind : {A : Type 0} (front : List A) (x : A) (xs before : List A) (y : A) (after : List A) → xs ≡ before ++ y ∷ after → front ++ x ∷ xs ≡ (front ++ x ∷ before) ++ y ∷ after
split_behind front x xs before y after e = ap (λ zs. front ++ x ∷ zs) e ∙ sym (append_assoc front (x ∷ before) (y ∷ after))

-- where each item stands in the relation to those before it, the items do pairwise
pub pairwise_from : {A : Type 0} (R : A → A → Type 0) (front xs : List A) → ((before after : List A) (x y : A) → front ++ xs ≡ before ++ y ∷ after → Among x before → R x y) → Pairwise R xs
pairwise_from R front [] h = tt
pairwise_from R front (x ∷ xs) h = (
  Each-from_among (R x) xs (λ y m.
      let r = split_at xs y m in
      h (front ++ x ∷ r.0) r.1 x y (split_behind front x xs r.0 y r.1 r.2) (Among-append_right x front (x ∷ r.0) (inl refl))),
  pairwise_from R (front ++ x ∷ []) xs (λ before after z y e m. h before after z y (sym (append_assoc front (x ∷ []) xs) ∙ e) m),
)

pairwise_step : {A : Type 0} (R S : A → A → Type 0) (p : A → Bool) (x : A) (xs : List A) (b : Bool) → p x ≡ b → ((y : A) → p x ≡ true → p y ≡ true → R x y → S x y) → Each (R x) xs → Pairwise S (filter p xs) → Pairwise S (cond b (x ∷ filter p xs) (filter p xs))
pairwise_step R S p x xs true e weaker each rest = (
  Each-from_among (S x) (filter p xs) (λ y h. let r = Among-filter_only p xs y h in weaker y e r.1 (Each-among (R x) xs each y r.0)),
  rest,
)
pairwise_step R S p x xs false e weaker each rest = rest

-- what items do pairwise, those that pass do, and what follows of two that pass
pairwise_filter : {A : Type 0} (R S : A → A → Type 0) (p : A → Bool) (xs : List A) → ((x y : A) → p x ≡ true → p y ≡ true → R x y → S x y) → Pairwise R xs → Pairwise S (filter p xs)
pairwise_filter R S p [] weaker h = tt
pairwise_filter R S p (x ∷ xs) weaker h = pairwise_step R S p x xs (p x) refl (λ y. weaker x y) h.0 (pairwise_filter R S p xs weaker h.1)

-- ---- items and what they have

-- of one of the things one item has it, and the other has not
abbrev pub Differ : {A B : Type 0} → (B → A → Bool) → List B → A → A → Type 0
Differ {B = B} has things x y = (s : B) × Among s things × (has s x ≡ has s y → ⊥)

bits_equal : (a b : Bool) → (a ≡ b) ⊎ (a ≡ b → ⊥)
bits_equal true true = inl refl
bits_equal true false = inr true≢false
bits_equal false true = inr false≢true
bits_equal false false = inl refl

same_step : {A B : Type 0} (has : B → A → Bool) (s : B) (things : List B) (x y : A) → has s x ≡ has s y → ((t : B) → Among t things → has t x ≡ has t y) → (t : B) → Among t (s ∷ things) → has t x ≡ has t y
same_step has s things x y e f t (inl k) = subst (λ u. has u x ≡ has u y) (sym k) e
same_step has s things x y e f t (inr m) = f t m

-- two items differ at one of the things, or have the same of them
pub differ_or_same : {A B : Type 0} (has : B → A → Bool) (things : List B) (x y : A) → Differ has things x y ⊎ ((s : B) → Among s things → has s x ≡ has s y)
differ_or_same has [] x y = inr (λ s h. absurd h)
differ_or_same has (s ∷ things) x y = elim (bits_equal (has s x) (has s y)) [
  | inl e ↦ elim (differ_or_same has things x y) [
    | inl r ↦ inl (r.0, inr r.1, r.2)
    | inr f ↦ inr (same_step has s things x y e f)
  ]
  | inr n ↦ inl (s, inl refl, n)
]

narrow_step : {A B : Type 0} (has : B → A → Bool) (s : B) (things : List B) (x y : A) → has s x ≡ has s y → (t : B) → Among t (s ∷ things) → (has t x ≡ has t y → ⊥) → Differ has things x y
narrow_step has s things x y e t (inl k) n = absurd (n (subst (λ u. has u x ≡ has u y) (sym k) e))
narrow_step has s things x y e t (inr m) n = (t, m, n)

-- items that have the same of one thing differ at another
narrow : {A B : Type 0} (has : B → A → Bool) (s : B) (things : List B) (x y : A) → has s x ≡ has s y → Differ has (s ∷ things) x y → Differ has things x y
narrow has s things x y e d = narrow_step has s things x y e d.0 d.1 d.2

both_have : {A B : Type 0} (has : B → A → Bool) (s : B) (things : List B) (items : List A) → Pairwise (Differ has (s ∷ things)) items → Pairwise (Differ has things) (filter (has s) items)
both_have has s things items d =
    pairwise_filter (Differ has (s ∷ things)) (Differ has things) (has s) items (λ x y e f. narrow has s things x y (e ∙ sym f)) d

neither_has : {A B : Type 0} (has : B → A → Bool) (s : B) (things : List B) (items : List A) → Pairwise (Differ has (s ∷ things)) items → Pairwise (Differ has things) (filter (λ x. not (has s x)) items)
neither_has has s things items d =
    pairwise_filter (Differ has (s ∷ things)) (Differ has things) (λ x. not (has s x)) items
    (λ x y e f. narrow has s things x y (not-true (has s x) e ∙ sym (not-true (has s y) f))) d

twice : (n a b c : ℕ) → a ≤ 2 ^ n → b ≤ 2 ^ n → a + b ≡ c → c ≤ 2 ^ suc n
twice n a b c h k e = omega arith

at_most_one : {A B : Type 0} (has : B → A → Bool) (items : List A) → Pairwise (Differ has []) items → length items ≤ 1
at_most_one has [] d = omega arith
at_most_one has (x ∷ []) d = omega arith
at_most_one has (x ∷ y ∷ items) d = absurd (d.0.0.1)

-- items that differ pairwise are no more than the things have sets
pub few : {A B : Type 0} (has : B → A → Bool) (things : List B) (items : List A) → Pairwise (Differ has things) items → length items ≤ 2 ^ length things
few has [] items d = at_most_one has items d
few has (s ∷ things) items d =
    twice (length things) (length (filter (has s) items)) (length (filter (λ x. not (has s x)) items)) (length items)
    (few has things (filter (has s) items) (both_have has s things items d))
    (few has things (filter (λ x. not (has s x)) items) (neither_has has s things items d))
    (length-filter_both (has s) (λ x. not (has s x)) (λ x. refl) items)
