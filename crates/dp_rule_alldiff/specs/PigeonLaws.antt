-- The pigeonhole principle: of different numbers no more lie in an interval than it has.
use Rattle.std.specs.Prelude.{◌≡◌, ℕ, zero, suc, ◌+◌, ◌≤◌, Bool, true, false, ◌⊎◌, List, [], ◌∷◌, length, filter, ℤ, pos, negsuc, ◌+ℤ◌, ◌-ℤ◌, ◌≤ℤ◌, ◌<ℤ◌, int_le}
use Rattle.std.proofs.Common.{refl, sym, ◌∙◌, subst, inl, inr, arith, cond}
use Rattle.std.proofs.lemmas.Int.{ints}
use Rattle.std.proofs.lemmas.Bool.{false≢true, and_from, and_parts, cases_Bool}
use Rattle.dp_base.specs.Lists.{Among}
use Rattle.dp_domain.specs.Sets.{is_among}
use Rattle.dp_domain.proofs.ShareLaws.{is_among-at, is_among-some}
use Rattle.dp_domain.proofs.AtomLaws.{le-from_test, lt-from_test, test-from_le}
use Rattle.dp_rule_alldiff.specs.CountLaws.{count-either, count-none, count-some, count_is}
use Rattle.dp_rule_alldiff.specs.OrderLaws.{le_itself}
use Rattle.dp_rule_alldiff.specs.AllDifferent.{AreDistinct, Exceeds, is_between}

-- ---- numbers of an interval

-- what the test says
pub between_where : (a b v : ℤ) → is_between a b v ≡ true → (a ≤ℤ v) × (v ≤ℤ b)
between_where a b v e = let both = and_parts (int_le a v) (int_le v b) e in (le-from_test a v both.0, le-from_test v b both.1)

pub is_between_where : (a b v : ℤ) → a ≤ℤ v → v ≤ℤ b → is_between a b v ≡ true
is_between_where a b v h k = and_from (int_le a v) (int_le v b) (test-from_le a v h) (test-from_le v b k)

outside : (a b v : ℤ) (t : Bool) → is_between a b v ≡ t → ((a ≤ℤ v) × (v ≤ℤ b) → ⊥) → t ≡ false
outside a b v true e h = absurd (h (between_where a b v e))
outside a b v false e h = refl

-- a number of an interval is before its last, or is that
last_or_before : (a b v : ℤ) → is_between a b v ≡ true → (is_between a (b -ℤ pos 1) v ≡ true) ⊎ (is_between b b v ≡ true)
last_or_before a b v e = let inside = between_where a b v e in elim (cases_Bool (int_le b v)) [
  | inl last ↦ inr (is_between_where b b v (le-from_test b v last) inside.1)
  | inr before ↦ inl (is_between_where a (b -ℤ pos 1) v inside.0 (under b v (lt-from_test b v before)))
]
  where
    under : (b v : ℤ) → v <ℤ b → v ≤ℤ (b -ℤ pos 1)
    under b v e = omega (arith, ints)

-- of different numbers at most one is b
once : (vs : List ℤ) (b : ℤ) → AreDistinct vs → length (filter (is_between b b) vs) ≤ 1
once [] b distinct = omega arith
once (v ∷ vs) b distinct = elim (cases_Bool (is_between b b v)) [
  | inl e ↦
      let none = count-none (is_between b b) vs (λ w here. outside b b w (is_between b b w) refl (λ inside. distinct.0 (subst (λ u. Among u vs) (same v w b (between_where b b v e) inside) here))) in
      one (length (filter (is_between b b) (v ∷ vs))) (length (filter (is_between b b) vs)) (count_is (is_between b b) v vs true e) none
  | inr e ↦
      fewer (length (filter (is_between b b) (v ∷ vs))) (length (filter (is_between b b) vs)) (count_is (is_between b b) v vs false e) (once vs b distinct.1)
]
  where
    same : (v w b : ℤ) → (b ≤ℤ v) × (v ≤ℤ b) → (b ≤ℤ w) × (w ≤ℤ b) → w ≡ v
    same v w b h k = omega (arith, ints)

    one : (n m : ℕ) → n ≡ suc m → m ≡ 0 → n ≤ 1
    one n m e f = omega arith

    fewer : (n m : ℕ) → n ≡ m → m ≤ 1 → n ≤ 1
    fewer n m e h = omega arith

distinct_few : (n : ℕ) (a b : ℤ) (vs : List ℤ) → (b +ℤ pos 1) ≡ (a +ℤ pos n) → AreDistinct vs → length (filter (is_between a b) vs) ≤ n
distinct_few zero a b vs e distinct = none (length (filter (is_between a b) vs)) (count-none (is_between a b) vs (λ v here. outside a b v (is_between a b v) refl (λ inside. empty a b v e inside.0 inside.1)))
  where
    empty : (a b v : ℤ) → (b +ℤ pos 1) ≡ (a +ℤ pos 0) → a ≤ℤ v → v ≤ℤ b → ⊥
    empty a b v e h k = omega (arith, ints)

    none : (n : ℕ) → n ≡ 0 → n ≤ 0
    none n e = omega arith
distinct_few (suc n) a b vs e distinct =
    let split = count-either (is_between a b) (is_between a (b -ℤ pos 1)) (is_between b b) vs (λ v. last_or_before a b v) in
    let before = distinct_few n a (b -ℤ pos 1) vs (shorter n a b e) distinct in
    let last = once vs b distinct in
    total (length (filter (is_between a b) vs)) (length (filter (is_between a (b -ℤ pos 1)) vs)) (length (filter (is_between b b) vs)) n split before last
  where
    shorter : (n : ℕ) (a b : ℤ) → (b +ℤ pos 1) ≡ (a +ℤ pos (suc n)) → ((b -ℤ pos 1) +ℤ pos 1) ≡ (a +ℤ pos n)
    shorter n a b e = omega (arith, ints)

    total : (k m l n : ℕ) → k ≤ m + l → m ≤ n → l ≤ 1 → k ≤ suc n
    total k m l n h i j = omega arith

size_by : (a b : ℤ) (z : ℤ) → ((b -ℤ a) +ℤ pos 1) ≡ z → a ≤ℤ b → (n : ℕ) × ((b +ℤ pos 1) ≡ (a +ℤ pos n))
size_by a b (pos n) e h = (n, omega (arith, ints))
size_by a b (negsuc n) e h = absurd (omega (arith, ints))

-- what exceeds a count of numbers still does where there is more
pub exceeds_more : (a b : ℤ) (n m : ℕ) → n ≤ m → Exceeds a b n → Exceeds a b m
exceeds_more a b n m h exceeds = record { some = exceeds.some; more = further ((b -ℤ a) +ℤ pos 1) n m h exceeds.more }
  where
    further : (z : ℤ) (n m : ℕ) → n ≤ m → z <ℤ pos n → z <ℤ pos m
    further z n m h k = omega (arith, ints)

pub exceeds_same : (a b : ℤ) (n m : ℕ) → n ≡ m → Exceeds a b n → Exceeds a b m
exceeds_same a b n m e exceeds = subst (λ k. Exceeds a b k) e exceeds

-- more numbers of an interval than it has are not different at all positions
pub pigeonhole : (a b : ℤ) (vs : List ℤ) → Exceeds a b (length (filter (is_between a b) vs)) → ¬ (AreDistinct vs)
pigeonhole a b vs exceeds distinct =
    let size = size_by a b ((b -ℤ a) +ℤ pos 1) refl exceeds.some in
    let few = distinct_few size.0 a b vs size.1 distinct in
    apart a b (length (filter (is_between a b) vs)) size.0 exceeds.more size.1 few
  where
    apart : (a b : ℤ) (n m : ℕ) → ((b -ℤ a) +ℤ pos 1) <ℤ pos n → (b +ℤ pos 1) ≡ (a +ℤ pos m) → n ≤ m → ⊥
    apart a b n m h e k = omega (arith, ints)

-- numbers differ at all positions, or two positions have one number
pub distinct_or_twice : (vs : List ℤ) → AreDistinct vs ⊎ ((v : ℤ) × (2 ≤ length (filter (is_between v v) vs)))
distinct_or_twice [] = inl tt
distinct_or_twice (v ∷ vs) = elim (cases_Bool (is_among v vs)) [
  | inl again ↦ inr (v, two (length (filter (is_between v v) (v ∷ vs))) (length (filter (is_between v v) vs)) (count_is (is_between v v) v vs true (is_own v)) (count-some (is_between v v) vs v (is_among-some v vs again) (is_own v)))
  | inr new ↦ elim (distinct_or_twice vs) [
    | inl distinct ↦ inl (λ here. false≢true (sym new ∙ is_among-at v vs here), distinct)
    | inr twice ↦ inr (twice.0, more (is_between twice.0 twice.0 v) (length (filter (is_between twice.0 twice.0) (v ∷ vs))) (length (filter (is_between twice.0 twice.0) vs)) (count_is (is_between twice.0 twice.0) v vs (is_between twice.0 twice.0 v) refl) twice.1)
  ]
]
  where
    is_own : (v : ℤ) → is_between v v v ≡ true
    is_own v = is_between_where v v v (le_itself v) (le_itself v)

    two : (n m : ℕ) → n ≡ suc m → 1 ≤ m → 2 ≤ n
    two n m e h = omega arith

    more : (b : Bool) (n m : ℕ) → n ≡ cond b (suc m) m → 2 ≤ m → 2 ≤ n
    more true n m e h = omega arith
    more false n m e h = omega arith
