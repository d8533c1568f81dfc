-- The numbers that intervals have: those of a set, and those of the gaps between intervals.
use Rattle.std.proofs.Common.{◌≡◌, ℕ, ◌+◌, ◌<◌, Bool, true, false, Result, Ok, Err, length, get_or, drop, ap, add-one, append_assoc, drop-cons, List, [], ◌∷◌, ◌++◌, filter, ℤ, pos, neg_ℤ, ◌+ℤ◌, ◌-ℤ◌, ◌≤ℤ◌, refl, sym, ◌∙◌, subst, inl, inr, arith}
use Rattle.std.specs.Prelude.{◌^◌, ◌<ℤ◌, ◌⊎◌, IfOk, not, if◌then◌else◌, int_le, int_lt}
use Rattle.std.specs.Int.{int_max, int_min}
use Rattle.std.specs.List.{flat_map}
use Rattle.std.proofs.lemmas.Int.{ints}
use Rattle.std.proofs.lemmas.Bool.{and_from, and_parts, both_ways, cases_Bool, cond-false, cond-true, false_from_ne_true, not-true, not_from_false}
use Rattle.dp_base.specs.Lists.{Among, Each}
use Rattle.dp_base.proofs.Lists.{Among-append_cases, Among-append_left, Among-append_right, Each-among, Each-append, Each-from_among, Each-weaker}
use Rattle.dp_domain.specs.Sets.{AreApart, Collects, IsDomain, IsSmall, LiesBetween, LiesInOne}
use Rattle.dp_domain.proofs.AtomLaws.{le-from_test, lt-from_test, test-from_le}
use Rattle.dp_domain.proofs.IntervalLaws.{AreApart-among}
use Rattle.dp_domain.proofs.SetLaws.{Collects-same, IsSmall-among}
use Rattle.dp_domain.proofs.ShareLaws.{is_among-at, is_among-some}
use Rattle.fz_model.specs.declared.model.SetText.{SetText}
use Rattle.fz_model.specs.declared.model.SetText.TheVariants as set
use Rattle.fz_sat.specs.Args.{is_in_set}
use Rattle.dp_lower.specs.Intervals.{clipped, clipped_set, gaps_from, interval}
use Rattle.dp_lower.specs.Small.{small_numbers}
use Rattle.dp_lower.proofs.SmallLaws.{passing_all, passing_domain, passing_only}

-- both ends are within ±10^9
abbrev pub HasSmallEnds : ℤ × ℤ → Type 0
HasSmallEnds ends = IsSmall ends.0 × IsSmall ends.1

-- ---- one interval

interval_lies : (first last v : ℤ) → LiesInOne (interval first last) v → LiesBetween (first, last) v
interval_lies first last v lies = by (int_le first last) lies
  where
    by : (b : Bool) → LiesInOne (if b then (first, last) ∷ [] else []) v → LiesBetween (first, last) v
    by true (ends, inl e, between) = subst (λ (ends : ℤ × ℤ). LiesBetween ends v) e between
    by true (ends, inr here, between) = absurd here
    by false (ends, here, between) = absurd here

between_ends : (first last v : ℤ) → LiesBetween (first, last) v → first ≤ℤ last
between_ends first last v h = let a = h.0 in let b = h.1 in omega (arith, ints)

lies_interval : (first last v : ℤ) → LiesBetween (first, last) v → LiesInOne (interval first last) v
lies_interval first last v between = rw (test-from_le first last (between_ends first last v between)) ((first, last), inl refl, between)

small_interval : (first last : ℤ) → neg_ℤ (pos (10 ^ 9)) ≤ℤ first → last ≤ℤ pos (10 ^ 9) → Each HasSmallEnds (interval first last)
small_interval first last low high = by (int_le first last) refl
  where
    ends : first ≤ℤ last → HasSmallEnds (first, last)
    ends h = ((low, omega (arith, ints)), (omega (arith, ints), high))

    by : (b : Bool) → int_le first last ≡ b → Each HasSmallEnds (if b then (first, last) ∷ [] else [])
    by true e = (ends (le-from_test first last e), tt)
    by false e = tt

-- ---- lists of intervals

lies_left : (xs ys : List (ℤ × ℤ)) (v : ℤ) → LiesInOne xs v → LiesInOne (xs ++ ys) v
lies_left xs ys v lies = (lies.0, Among-append_left lies.0 xs ys lies.1, lies.2)

lies_right : (xs ys : List (ℤ × ℤ)) (v : ℤ) → LiesInOne ys v → LiesInOne (xs ++ ys) v
lies_right xs ys v lies = (lies.0, Among-append_right lies.0 xs ys lies.1, lies.2)

lies_cases : (xs ys : List (ℤ × ℤ)) (v : ℤ) → LiesInOne (xs ++ ys) v → LiesInOne xs v ⊎ LiesInOne ys v
lies_cases xs ys v lies = elim (Among-append_cases lies.0 xs ys lies.1) [
  | inl here ↦ inl (lies.0, here, lies.2)
  | inr here ↦ inr (lies.0, here, lies.2)
]

-- ---- the part within ±10^9

lesser : (x m : ℤ) → (int_min x m ≤ℤ x) × (int_min x m ≤ℤ m) × ((int_min x m ≡ x) ⊎ (int_min x m ≡ m))
lesser x m = elim (cases_Bool (int_lt m x)) [
  | inl e ↦ let c : int_min x m ≡ m = cond-true (int_lt m x) m x e in (omega (arith, ints), omega (arith, ints), inr c)
  | inr e ↦ let c : int_min x m ≡ x = cond-false (int_lt m x) m x e in (omega (arith, ints), omega (arith, ints), inl c)
]

greater : (x m : ℤ) → (x ≤ℤ int_max x m) × (m ≤ℤ int_max x m) × ((int_max x m ≡ x) ⊎ (int_max x m ≡ m))
greater x m = elim (cases_Bool (int_lt m x)) [
  | inl e ↦ let c : int_max x m ≡ x = cond-true (int_lt m x) x m e in (omega (arith, ints), omega (arith, ints), inl c)
  | inr e ↦ let c : int_max x m ≡ m = cond-false (int_lt m x) x m e in (omega (arith, ints), omega (arith, ints), inr c)
]

at_most_lesser : (v x m : ℤ) → v ≤ℤ x → v ≤ℤ m → v ≤ℤ int_min x m
at_most_lesser v x m h g = elim (lesser x m).2 [ inl e ↦ subst (λ (y : ℤ). v ≤ℤ y) (sym e) h | inr e ↦ subst (λ (y : ℤ). v ≤ℤ y) (sym e) g ]

at_least_greater : (v x m : ℤ) → x ≤ℤ v → m ≤ℤ v → int_max x m ≤ℤ v
at_least_greater v x m h g = elim (greater x m).2 [ inl e ↦ subst (λ (y : ℤ). y ≤ℤ v) (sym e) h | inr e ↦ subst (λ (y : ℤ). y ≤ℤ v) (sym e) g ]

below : (x y z : ℤ) → x ≤ℤ y → y ≤ℤ z → x ≤ℤ z
below x y z h g = omega (arith, ints)

clipped_lies : (first last v : ℤ) → LiesInOne (clipped first last) v → IsSmall v × LiesBetween (first, last) v
clipped_lies first last v lies =
    let a = greater first (neg_ℤ (pos (10 ^ 9))) in
    let b = lesser last (pos (10 ^ 9)) in
    let h = interval_lies (int_max first (neg_ℤ (pos (10 ^ 9)))) (int_min last (pos (10 ^ 9))) v lies in
    ((below _ _ v a.1 h.0, below v _ _ h.1 b.1), (below _ _ v a.0 h.0, below v _ _ h.1 b.0))

lies_clipped : (first last v : ℤ) → IsSmall v → LiesBetween (first, last) v → LiesInOne (clipped first last) v
lies_clipped first last v small between =
    lies_interval (int_max first (neg_ℤ (pos (10 ^ 9)))) (int_min last (pos (10 ^ 9))) v
    (at_least_greater v first (neg_ℤ (pos (10 ^ 9))) between.0 small.0, at_most_lesser v last (pos (10 ^ 9)) between.1 small.1)

small_clipped : (first last : ℤ) → Each HasSmallEnds (clipped first last)
small_clipped first last =
    small_interval (int_max first (neg_ℤ (pos (10 ^ 9)))) (int_min last (pos (10 ^ 9))) (greater first (neg_ℤ (pos (10 ^ 9)))).1 (lesser last (pos (10 ^ 9))).1

-- ---- a set

same_between : (n v : ℤ) → LiesBetween (n, n) v → v ≡ n
same_between n v h = let a = h.0 in let b = h.1 in omega (arith, ints)

between_same : (n v : ℤ) → v ≡ n → LiesBetween (n, n) v
between_same n v e = (omega (arith, ints), omega (arith, ints))

numbers_lie : (numbers : List ℤ) (v : ℤ) → LiesInOne (flat_map (λ n. clipped n n) numbers) v → IsSmall v × Among v numbers
numbers_lie [] v lies = absurd lies.1
numbers_lie (n ∷ numbers) v lies = elim (lies_cases (clipped n n) (flat_map (λ n. clipped n n) numbers) v lies) [
  | inl here ↦ let h = clipped_lies n n v here in (h.0, inl (same_between n v h.1))
  | inr later ↦ let h = numbers_lie numbers v later in (h.0, inr h.1)
]

lies_numbers : (numbers : List ℤ) (v : ℤ) → IsSmall v → Among v numbers → LiesInOne (flat_map (λ n. clipped n n) numbers) v
lies_numbers [] v small here = absurd here
lies_numbers (n ∷ numbers) v small (inl e) = lies_left (clipped n n) (flat_map (λ n. clipped n n) numbers) v (lies_clipped n n v small (between_same n v e))
lies_numbers (n ∷ numbers) v small (inr here) = lies_right (clipped n n) (flat_map (λ n. clipped n n) numbers) v (lies_numbers numbers v small here)

small_numbers_of : (numbers : List ℤ) → Each HasSmallEnds (flat_map (λ n. clipped n n) numbers)
small_numbers_of [] = tt
small_numbers_of (n ∷ numbers) = Each-append HasSmallEnds (clipped n n) (flat_map (λ n. clipped n n) numbers) (small_clipped n n) (small_numbers_of numbers)

pub small_set : (s : SetText) → Each HasSmallEnds (clipped_set s)
small_set (set.Range first last) = small_clipped first last
small_set (set.List numbers) = small_numbers_of numbers

set_lies : (s : SetText) (v : ℤ) → LiesInOne (clipped_set s) v → IsSmall v × (is_in_set s v ≡ true)
set_lies (set.Range first last) v lies =
    let h = clipped_lies first last v lies in (h.0, and_from (int_le first v) (int_le v last) (test-from_le first v h.1.0) (test-from_le v last h.1.1))
set_lies (set.List numbers) v lies = let h = numbers_lie numbers v lies in (h.0, is_among-at v numbers h.1)

lies_set : (s : SetText) (v : ℤ) → IsSmall v → is_in_set s v ≡ true → LiesInOne (clipped_set s) v
lies_set (set.Range first last) v small e =
    let both = and_parts (int_le first v) (int_le v last) e in lies_clipped first last v small (le-from_test first v both.0, le-from_test v last both.1)
lies_set (set.List numbers) v small e = lies_numbers numbers v small (is_among-some v numbers e)

-- what passes the test, as a domain
passing : (test : ℤ → Bool) → Collects (filter test small_numbers) (λ v. IsSmall v × (test v ≡ true))
passing test = record { only = λ v here. passing_only test v here; all = λ v h. passing_all test v h.0 h.1 }

-- the domain of the intervals of a set has the numbers within ±10^9 that are in it
pub members_are : (s : SetText) (intervals : List (ℤ × ℤ)) (d : List ℤ) → intervals ≡ clipped_set s → IsDomain d → Collects d (LiesInOne intervals) → d ≡ filter (is_in_set s) small_numbers
members_are s intervals d e domain collects =
    let c : Collects d (LiesInOne (clipped_set s)) = subst (λ (is : List (ℤ × ℤ)). Collects d (LiesInOne is)) e collects in
    Collects-same d (filter (is_in_set s) small_numbers) (λ v. IsSmall v × (is_in_set s v ≡ true)) domain (passing_domain (is_in_set s))
    (record { only = λ v here. set_lies s v (c.only v here); all = λ v h. c.all v (lies_set s v h.0 h.1) }) (passing (is_in_set s))

-- ---- gaps

after : (x : ℤ) (is : List (ℤ × ℤ)) → Each (λ j. (x +ℤ pos 1) <ℤ j.0) is → Each (λ j. (x +ℤ pos 1) ≤ℤ j.0) is
after x is each = Each-weaker (λ (j : ℤ × ℤ). (x +ℤ pos 1) <ℤ j.0) (λ (j : ℤ × ℤ). (x +ℤ pos 1) ≤ℤ j.0) (λ j h. omega (arith, ints)) is each

before_all : (i : ℤ × ℤ) (is : List (ℤ × ℤ)) (v : ℤ) → i.0 ≤ℤ i.1 → Each (λ j. (i.1 +ℤ pos 1) <ℤ j.0) is → v ≤ℤ (i.0 -ℤ pos 1) → LiesInOne (i ∷ is) v → ⊥
before_all i is v some apart h (ends, inl e, between) = let low : i.0 ≤ℤ v = subst (λ (j : ℤ × ℤ). j.0 ≤ℤ v) e between.0 in omega (arith, ints)
before_all i is v some apart h (ends, inr there, between) =
    let low = between.0 in let later : (i.1 +ℤ pos 1) <ℤ ends.0 = Each-among (λ (j : ℤ × ℤ). (i.1 +ℤ pos 1) <ℤ j.0) is apart ends there in omega (arith, ints)

behind_first : (i : ℤ × ℤ) (is : List (ℤ × ℤ)) (v : ℤ) → (i.1 +ℤ pos 1) ≤ℤ v → (LiesInOne is v → ⊥) → LiesInOne (i ∷ is) v → ⊥
behind_first i is v h none (ends, inl e, between) = let high : v ≤ℤ i.1 = subst (λ (j : ℤ × ℤ). v ≤ℤ j.1) e between.1 in omega (arith, ints)
behind_first i is v h none (ends, inr there, between) = none (ends, there, between)

first_up : (n a b v : ℤ) → n ≤ℤ a → a ≤ℤ b → (b +ℤ pos 1) ≤ℤ v → n ≤ℤ v
first_up n a b v h g f = omega (arith, ints)

gap_end : (a v : ℤ) → IsSmall a → v ≤ℤ (a -ℤ pos 1) → v ≤ℤ pos (10 ^ 9)
gap_end a v small h = let high = small.1 in omega (arith, ints)

-- a number in a gap is in none of the intervals
gaps_lie : (next : ℤ) (is : List (ℤ × ℤ)) (v : ℤ) → AreApart is → Each HasSmallEnds is → Each (λ j. next ≤ℤ j.0) is → LiesInOne (gaps_from next is) v → (next ≤ℤ v) × (v ≤ℤ pos (10 ^ 9)) × (LiesInOne is v → ⊥)
gaps_lie next [] v apart small later lies = let h = interval_lies next (pos (10 ^ 9)) v lies in (h.0, h.1, λ none. none.1)
gaps_lie next (i ∷ is) v apart small later lies = elim (lies_cases (interval next (i.0 -ℤ pos 1)) (gaps_from (i.1 +ℤ pos 1) is) v lies) [
  | inl here ↦ let h = interval_lies next (i.0 -ℤ pos 1) v here in (h.0, gap_end i.0 v small.0.0 h.1, before_all i is v apart.0 apart.1 h.1)
  | inr more ↦ let h = gaps_lie (i.1 +ℤ pos 1) is v apart.2 small.1 (after i.1 is apart.1) more in (first_up next i.0 i.1 v later.0 apart.0 h.0, h.1, behind_first i is v h.0 h.2)
]

gap_before : (a v : ℤ) → v <ℤ a → v ≤ℤ (a -ℤ pos 1)
gap_before a v h = omega (arith, ints)

gap_behind : (a v : ℤ) → a <ℤ v → (a +ℤ pos 1) ≤ℤ v
gap_behind a v h = omega (arith, ints)

-- and a number in none of them is in a gap
lies_gaps : (next : ℤ) (is : List (ℤ × ℤ)) (v : ℤ) → next ≤ℤ v → v ≤ℤ pos (10 ^ 9) → (LiesInOne is v → ⊥) → LiesInOne (gaps_from next is) v
lies_gaps next [] v low high none = lies_interval next (pos (10 ^ 9)) v (low, high)
lies_gaps next (i ∷ is) v low high none = by (int_le i.0 v) (int_le v i.1) refl refl (λ h. lies_gaps (i.1 +ℤ pos 1) is v h high (λ lies. none (lies.0, inr lies.1, lies.2)))
  where
    by : (b c : Bool) → int_le i.0 v ≡ b → int_le v i.1 ≡ c → ((i.1 +ℤ pos 1) ≤ℤ v → LiesInOne (gaps_from (i.1 +ℤ pos 1) is) v) → LiesInOne (gaps_from next (i ∷ is)) v
    by false c e f more = lies_left (interval next (i.0 -ℤ pos 1)) (gaps_from (i.1 +ℤ pos 1) is) v (lies_interval next (i.0 -ℤ pos 1) v (low, gap_before i.0 v (lt-from_test i.0 v e)))
    by true true e f more = absurd (none (i, inl refl, (le-from_test i.0 v e, le-from_test v i.1 f)))
    by true false e f more = lies_right (interval next (i.0 -ℤ pos 1)) (gaps_from (i.1 +ℤ pos 1) is) v (more (gap_behind i.1 v (lt-from_test v i.1 f)))

less_one : (a : ℤ) → IsSmall a → (a -ℤ pos 1) ≤ℤ pos (10 ^ 9)
less_one a small = let high = small.1 in omega (arith, ints)

more_one : (a : ℤ) → IsSmall a → neg_ℤ (pos (10 ^ 9)) ≤ℤ (a +ℤ pos 1)
more_one a small = let low = small.0 in omega (arith, ints)

small_gaps_from : (next : ℤ) (is : List (ℤ × ℤ)) → neg_ℤ (pos (10 ^ 9)) ≤ℤ next → Each HasSmallEnds is → Each HasSmallEnds (gaps_from next is)
small_gaps_from next [] low small = small_interval next (pos (10 ^ 9)) low (omega (arith, ints))
small_gaps_from next (i ∷ is) low small =
    Each-append HasSmallEnds (interval next (i.0 -ℤ pos 1)) (gaps_from (i.1 +ℤ pos 1) is) (small_interval next (i.0 -ℤ pos 1) low (less_one i.0 small.0.0)) (small_gaps_from (i.1 +ℤ pos 1) is (more_one i.1 small.0.1) small.1)

-- the gaps from the least number on
abbrev pub all_gaps : List (ℤ × ℤ) → List (ℤ × ℤ)
all_gaps is = gaps_from (neg_ℤ (pos (10 ^ 9))) is

pub small_gaps : (is : List (ℤ × ℤ)) → Each HasSmallEnds is → Each HasSmallEnds (all_gaps is)
small_gaps is small = small_gaps_from (neg_ℤ (pos (10 ^ 9))) is (omega (arith, ints)) small

-- the intervals of a domain have small ends
pub small_intervals : (d : List ℤ) (is : List (ℤ × ℤ)) → IsDomain d → Collects d (LiesInOne is) → AreApart is → Each HasSmallEnds is
small_intervals d is domain collects apart = Each-from_among HasSmallEnds is (λ i here.
    let some : i.0 ≤ℤ i.1 = AreApart-among is apart i here in
    (IsSmall-among d domain i.0 (collects.all i.0 (i, here, (omega (arith, ints), some))), IsSmall-among d domain i.1 (collects.all i.1 (i, here, (some, omega (arith, ints))))))

-- the gaps between the intervals of a domain have the numbers within ±10^9 that are not in it
pub gaps_collect : (d g : List ℤ) (is gaps : List (ℤ × ℤ)) → IsDomain d → Collects d (LiesInOne is) → AreApart is → gaps ≡ all_gaps is → Collects g (LiesInOne gaps) → Collects g (λ v. IsSmall v × (Among v d → ⊥))
gaps_collect d g is gaps domain collects apart e gathers =
    let c : Collects g (LiesInOne (all_gaps is)) = subst (λ (js : List (ℤ × ℤ)). Collects g (LiesInOne js)) e gathers in
    let small = small_intervals d is domain collects apart in
    record {
      only = λ v here. let r = gaps_lie (neg_ℤ (pos (10 ^ 9))) is v apart small (Each-weaker HasSmallEnds (λ (j : ℤ × ℤ). neg_ℤ (pos (10 ^ 9)) ≤ℤ j.0) (λ j h. h.0.0) is small) (c.only v here) in
          ((r.0, r.1), λ there. r.2 (collects.only v there));
      all = λ v h. c.all v (lies_gaps (neg_ℤ (pos (10 ^ 9))) is v h.0.0 h.0.1 (λ lies. h.1 (collects.all v lies)));
    }

-- what is in none of the numbers that pass a test fails it
pub others_are : (test : ℤ → Bool) (d g : List ℤ) → d ≡ filter test small_numbers → IsDomain g → Collects g (λ v. IsSmall v × (Among v d → ⊥)) → g ≡ filter (λ v. not (test v)) small_numbers
others_are test d g e domain collects =
    let fails = λ (v : ℤ). not (test v) in
    Collects-same g (filter fails small_numbers) (λ v. IsSmall v × (Among v d → ⊥)) domain (passing_domain fails) collects (record {
      only = λ v here. let r = passing_only fails v here in
          (r.0, λ there. both_ways (test v) (not-true (test v) r.1) (passing_only test v (subst (λ (vs : List ℤ). Among v vs) e there)).1);
      all = λ v h. passing_all fails v h.0 (not_from_false (test v) (false_from_ne_true (test v) (λ t. h.1 (subst (λ (vs : List ℤ). Among v vs) (sym e) (passing_all test v h.0 t)))));
    })

-- ---- steps of the code

-- what holds of the answer by two facts of it
pub ok_both : {T E : Type 0} (r : Result T E) (P Q R : T → Type 0) → IfOk r P → IfOk r Q → ((x : T) → P x → Q x → R x) → IfOk r R
ok_both (Ok x) P Q R p q h = h x p q
ok_both (Err e) P Q R p q h = tt

-- the intervals of one more number
pub numbers_next : (numbers : List ℤ) (i : ℕ) (a b : ℤ) (old new whole : List (ℤ × ℤ)) → i < length numbers → a ≡ get_or numbers i (pos 0) → b ≡ get_or numbers i (pos 0) → new ≡ old ++ clipped a b →
    old ++ flat_map (λ n. clipped n n) (drop i numbers) ≡ whole → new ++ flat_map (λ n. clipped n n) (drop (i + 1) numbers) ≡ whole
numbers_next numbers i a b old new whole h e f added so_far =
    let rest = flat_map (λ n. clipped n n) (drop (i + 1) numbers) in
    let next : drop i numbers ≡ get_or numbers i (pos 0) ∷ drop (i + 1) numbers = rw (add-one, drop-cons numbers i (pos 0)) in
    ap (λ (is : List (ℤ × ℤ)). is ++ rest) (added ∙ ap (λ (x : ℤ). old ++ clipped x b) e ∙ ap (λ (x : ℤ). old ++ clipped (get_or numbers i (pos 0)) x) f)
    ∙ append_assoc old (clipped (get_or numbers i (pos 0)) (get_or numbers i (pos 0))) rest ∙ ap (λ (ns : List ℤ). old ++ flat_map (λ n. clipped n n) ns) (sym next) ∙ so_far

-- the gap before one more interval
pub gaps_next : (intervals : List (ℤ × ℤ)) (i : ℕ) (next a after : ℤ) (old new whole : List (ℤ × ℤ)) → i < length intervals → a ≡ (get_or intervals i (pos 0, pos 0)).0 → after ≡ (get_or intervals i (pos 0, pos 0)).1 +ℤ pos 1 →
    new ≡ old ++ interval next (a -ℤ pos 1) → old ++ gaps_from next (drop i intervals) ≡ whole → new ++ gaps_from after (drop (i + 1) intervals) ≡ whole
gaps_next intervals i next a after old new whole h e f added so_far =
    let j = get_or intervals i (pos 0, pos 0) in
    let rest = drop (i + 1) intervals in
    let front : drop i intervals ≡ j ∷ rest = rw (add-one, drop-cons intervals i (pos 0, pos 0)) in
    ap (λ (x : ℤ). new ++ gaps_from x rest) f
    ∙ ap (λ (is : List (ℤ × ℤ)). is ++ gaps_from (j.1 +ℤ pos 1) rest) (added ∙ ap (λ (x : ℤ). old ++ interval next (x -ℤ pos 1)) e)
    ∙ append_assoc old (interval next (j.0 -ℤ pos 1)) (gaps_from (j.1 +ℤ pos 1) rest) ∙ ap (λ (js : List (ℤ × ℤ)). old ++ gaps_from next js) (sym front) ∙ so_far
