-- Steps of the search for the intervals that have a number in common with one.
use Rattle.std.proofs.Common.{◌≡◌, ℕ, zero, suc, ◌<◌, ◌≤◌, Bool, true, false, not, ◌&&◌, cond, List, [], ◌∷◌, ◌++◌, length, get_or, take, drop, ℤ, pos, ◌+ℤ◌, ◌≤ℤ◌, ◌<ℤ◌, int_le, refl, sym, ◌∙◌, ap, subst, inl, inr, arith}
use Rattle.std.specs.Prelude.{◌==◌, int_lt}
use Rattle.std.specs.Int.{int_max, int_min}
use Rattle.std.specs.List.{filter, flat_map, list_any}
use Rattle.std.specs.List.Sorted.{IsPartitionPoint, IsPartitionedBy}
use Rattle.std.proofs.lemmas.Int.{ints}
use Rattle.std.proofs.lemmas.Bool.{and_from, and_parts, both_ways, cases_Bool, cases_eq, cond-false, false_from_ne_true, ne_eqb}
use Rattle.dp_base.specs.Lists.{Among}
use Rattle.dp_base.proofs.Lists.{Among-filter_all, Among-filter_only, Among-get_or, Each-filter, Each-get_or, list_any-at, list_any-some}
use Rattle.dp_domain.specs.Intervals.{overlap, reaches}
use Rattle.dp_domain.specs.Sets.{AreApart, LiesBetween, LiesInOne, expand, share}
use Rattle.dp_domain.proofs.AtomLaws.{le-from_test, lt-from_test, test-from_le, test-from_lt}
use Rattle.dp_domain.proofs.ExpandLaws.{expand-all, expand-only}
use Rattle.dp_domain.proofs.IntervalLaws.{AreApart-among}
use Rattle.dp_domain.proofs.IntervalSteps.{greater, le_trans, lesser}
use Rattle.dp_domain.proofs.ShareLaws.{share-at, share-some}

-- ---- a filter that keeps the last items, or the first

filter_step : {A : Type 0} (p : A → Bool) (x : A) (xs : List A) (b : Bool) → p x ≡ b → filter p (x ∷ xs) ≡ cond b (x ∷ filter p xs) (filter p xs)
filter_step p x xs b e = ap (λ (c : Bool). cond c (x ∷ filter p xs) (filter p xs)) e

-- where exactly the items from a place on pass, they are what the filter keeps
pub drop-filter : {A : Type 0} (p : A → Bool) (xs : List A) (i : ℕ) (d : A) → i ≤ length xs → ((k : ℕ) → k < i → p (get_or xs k d) ≡ false) → ((k : ℕ) → i ≤ k → k < length xs → p (get_or xs k d) ≡ true) → drop i xs ≡ filter p xs
drop-filter p [] zero d h f g = refl
drop-filter p [] (suc i) d h f g = absurd (omega arith)
drop-filter p (x ∷ xs) zero d h f g =
    ap (λ ys. x ∷ ys) (drop-filter p xs zero d (omega arith) (λ k l. absurd (omega arith)) (λ k l m. g (suc k) (omega arith) (omega arith)))
    ∙ sym (filter_step p x xs true (g zero (omega arith) (omega arith)))
drop-filter p (x ∷ xs) (suc i) d h f g =
    drop-filter p xs i d (omega arith) (λ k l. f (suc k) (omega arith)) (λ k l m. g (suc k) (omega arith) (omega arith))
    ∙ sym (filter_step p x xs false (f zero (omega arith)))

-- where exactly the items before a place pass, they are what the filter keeps
pub take-filter : {A : Type 0} (p : A → Bool) (xs : List A) (i : ℕ) (d : A) → i ≤ length xs → ((k : ℕ) → k < i → p (get_or xs k d) ≡ true) → ((k : ℕ) → i ≤ k → k < length xs → p (get_or xs k d) ≡ false) → take i xs ≡ filter p xs
take-filter p [] zero d h f g = refl
take-filter p [] (suc i) d h f g = absurd (omega arith)
take-filter p (x ∷ xs) zero d h f g =
    take-filter p xs zero d (omega arith) (λ k l. absurd (omega arith)) (λ k l m. g (suc k) (omega arith) (omega arith))
    ∙ sym (filter_step p x xs false (g zero (omega arith) (omega arith)))
take-filter p (x ∷ xs) (suc i) d h f g =
    ap (λ ys. x ∷ ys) (take-filter p xs i d (omega arith) (λ k l. f (suc k) (omega arith)) (λ k l m. g (suc k) (omega arith) (omega arith)))
    ∙ sym (filter_step p x xs true (f zero (omega arith)))

-- ---- the order of intervals that are apart

apart_places : (is : List (ℤ × ℤ)) → AreApart is → (j k : ℕ) (d : ℤ × ℤ) → j < k → k < length is → ((get_or is j d).1 +ℤ pos 1) <ℤ (get_or is k d).0
apart_places [] p j k d h l = absurd (omega arith)
apart_places (i ∷ is) p j zero d h l = absurd (omega arith)
apart_places (i ∷ is) p zero (suc k) d h l = Each-get_or (λ (j : ℤ × ℤ). (i.1 +ℤ pos 1) <ℤ j.0) is k d (omega arith) p.1
apart_places (i ∷ is) p (suc j) (suc k) d h l = apart_places is p.2 j k d (omega arith) (omega arith)

-- of two places the later has the interval that begins and ends no earlier
places_rise : (is : List (ℤ × ℤ)) → AreApart is → (j k : ℕ) (d : ℤ × ℤ) → j ≤ k → k < length is → ((get_or is j d).0 ≤ℤ (get_or is k d).0) × ((get_or is j d).1 ≤ℤ (get_or is k d).1)
places_rise is p j k d h l = elim (cases_eq j k) [
  | inl e ↦ same (get_or is j d) (get_or is k d) (ap (λ (n : ℕ). get_or is n d) e)
  | inr n ↦
      let a = apart_places is p j k d (omega arith) l in
      let b = AreApart-among is p (get_or is j d) (Among-get_or is j d (omega arith)) in
      let c = AreApart-among is p (get_or is k d) (Among-get_or is k d l) in
      (omega (arith, ints), omega (arith, ints))
]
  where
    same : (x y : ℤ × ℤ) → x ≡ y → (x.0 ≤ℤ y.0) × (x.1 ≤ℤ y.1)
    same x y e = subst (λ (q : ℤ × ℤ). (x.0 ≤ℤ q.0) × (x.1 ≤ℤ q.1)) e (omega (arith, ints), omega (arith, ints))

lt_from_le : (x y : ℤ) → x <ℤ y → int_lt x y ≡ true
lt_from_le x y h = elim (cases_Bool (int_lt x y)) [ inl e ↦ e | inr e ↦ absurd (omega (arith, ints)) ]

lt_of : (x y : ℤ) → int_lt x y ≡ true → x <ℤ y
lt_of x y e = omega (arith, ints)

ge_of : (x y : ℤ) → int_lt x y ≡ false → y ≤ℤ x
ge_of x y e = omega (arith, ints)

lower_lt : (x y v : ℤ) → x ≤ℤ y → int_lt y v ≡ true → int_lt x v ≡ true
lower_lt x y v h e = lt_from_le x v (let l = lt_of y v e in omega (arith, ints))

lower_le : (x y v : ℤ) → x ≤ℤ y → int_le y v ≡ true → int_le x v ≡ true
lower_le x y v h e = test-from_le x v (let l = le-from_test y v e in omega (arith, ints))

-- intervals that end before a number come before the others
pub ends_before : (is : List (ℤ × ℤ)) (first : ℤ) → AreApart is → IsPartitionedBy (λ i. int_lt i.1 first) is
ends_before is first p = λ j k d h l e. lower_lt (get_or is j d).1 (get_or is k d).1 first (places_rise is p j k d h l).1 e

-- intervals that begin up to a number come before the others
pub begins_up_to : (is : List (ℤ × ℤ)) (last : ℤ) → AreApart is → IsPartitionedBy (λ i. int_le i.0 last) is
begins_up_to is last p = λ j k d h l e. lower_le (get_or is j d).0 (get_or is k d).0 last (places_rise is p j k d h l).0 e

-- what is left from the first that does not end before the number
pub from_place : (is : List (ℤ × ℤ)) (first : ℤ) (i : ℕ) → i ≤ length is → IsPartitionPoint (λ j. int_lt j.1 first ≡ true) (λ j. int_lt j.1 first ≡ false) is i → drop i is ≡ filter (λ j. int_le first j.1) is
from_place is first i h p =
    drop-filter (λ (j : ℤ × ℤ). int_le first j.1) is i (pos 0, pos 0) h
    (λ k l. test-from_lt first (get_or is k (pos 0, pos 0)).1 (lt_of (get_or is k (pos 0, pos 0)).1 first (p.0 k (pos 0, pos 0) (omega arith) l)))
    (λ k l m. test-from_le first (get_or is k (pos 0, pos 0)).1 (ge_of (get_or is k (pos 0, pos 0)).1 first (p.1 k (pos 0, pos 0) l m)))

-- those before the first that begins after the number
pub up_to_place : (is : List (ℤ × ℤ)) (last : ℤ) (i : ℕ) → i ≤ length is → IsPartitionPoint (λ j. int_le j.0 last ≡ true) (λ j. int_le j.0 last ≡ false) is i → take i is ≡ filter (λ j. int_le j.0 last) is
up_to_place is last i h p = take-filter (λ (j : ℤ × ℤ). int_le j.0 last) is i (pos 0, pos 0) h (λ k l. p.0 k (pos 0, pos 0) (omega arith) l) (λ k l m. p.1 k (pos 0, pos 0) l m)

-- ---- two filters

filter_two : (p q : ℤ × ℤ → Bool) (x : ℤ × ℤ) (xs : List (ℤ × ℤ)) (a b : Bool) → p x ≡ a → q x ≡ b → filter q (filter p xs) ≡ filter (λ y. p y && q y) xs → filter q (filter p (x ∷ xs)) ≡ filter (λ y. p y && q y) (x ∷ xs)
filter_two p q x xs true true e f h =
    ap (filter q) (filter_step p x xs true e) ∙ filter_step q x (filter p xs) true f ∙ ap (λ ys. x ∷ ys) h
    ∙ sym (filter_step (λ y. p y && q y) x xs true (and_from (p x) (q x) e f))
filter_two p q x xs true false e f h =
    ap (filter q) (filter_step p x xs true e) ∙ filter_step q x (filter p xs) false f ∙ h
    ∙ sym (filter_step (λ y. p y && q y) x xs false (false_from_ne_true (p x && q x) (λ t. both_ways (q x) f (and_parts (p x) (q x) t).1)))
filter_two p q x xs false b e f h =
    ap (filter q) (filter_step p x xs false e) ∙ h
    ∙ sym (filter_step (λ y. p y && q y) x xs false (false_from_ne_true (p x && q x) (λ t. both_ways (p x) e (and_parts (p x) (q x) t).0)))

filter-both : (p q : ℤ × ℤ → Bool) (xs : List (ℤ × ℤ)) → filter q (filter p xs) ≡ filter (λ y. p y && q y) xs
filter-both p q [] = refl
filter-both p q (x ∷ xs) = filter_two p q x xs (p x) (q x) refl refl (filter-both p q xs)

apart_filter_step : (p : ℤ × ℤ → Bool) (i : ℤ × ℤ) (is : List (ℤ × ℤ)) (b : Bool) → AreApart (i ∷ is) → AreApart (filter p is) → AreApart (cond b (i ∷ filter p is) (filter p is))
apart_filter_step p i is true a h = (a.0, Each-filter (λ (j : ℤ × ℤ). (i.1 +ℤ pos 1) <ℤ j.0) p is a.1, h)
apart_filter_step p i is false a h = h

pub AreApart-filter : (p : ℤ × ℤ → Bool) (is : List (ℤ × ℤ)) → AreApart is → AreApart (filter p is)
AreApart-filter p [] a = tt
AreApart-filter p (i ∷ is) a = apart_filter_step p i is (p i) a (AreApart-filter p is a.2)

-- what the two searches leave
pub near_is : (is js ks : List (ℤ × ℤ)) (i : ℤ × ℤ) (first last : ℤ) → first ≡ i.0 → last ≡ i.1 → js ≡ filter (λ j. int_le first j.1) is → ks ≡ filter (λ j. int_le j.0 last) js → ks ≡ filter (reaches i) is
near_is is js ks i first last e f g h =
    h ∙ ap (filter (λ (j : ℤ × ℤ). int_le j.0 last)) g ∙ filter-both (λ (j : ℤ × ℤ). int_le first j.1) (λ (j : ℤ × ℤ). int_le j.0 last) is
    ∙ ap (λ (x : ℤ). filter (λ (j : ℤ × ℤ). int_le x j.1 && int_le j.0 last) is) e ∙ ap (λ (y : ℤ). filter (λ (j : ℤ × ℤ). int_le i.0 j.1 && int_le j.0 y) is) f

apart_as : (is js : List (ℤ × ℤ)) (p : ℤ × ℤ → Bool) → js ≡ filter p is → AreApart is → AreApart js
apart_as is js p e a = subst AreApart (sym e) (AreApart-filter p is a)

pub apart_from : (is js : List (ℤ × ℤ)) (first : ℤ) → js ≡ filter (λ j. int_le first j.1) is → AreApart is → AreApart js
apart_from is js first e a = apart_as is js (λ (j : ℤ × ℤ). int_le first j.1) e a

any_from_some : {A : Type 0} (p : A → Bool) (xs : List A) (ys : List A) → ys ≡ filter p xs → (b : Bool) → (length ys == 0) ≡ b → not b ≡ list_any p xs
any_from_some p xs [] e b f = ap not (sym f) ∙ sym (none (list_any p xs) refl)
  where
    none : (t : Bool) → list_any p xs ≡ t → list_any p xs ≡ false
    none true h = let r = list_any-some p xs h in absurd (subst (λ zs. Among r.0 zs) (sym e) (Among-filter_all p xs r.0 r.1 r.2))
    none false h = h
any_from_some p xs (y ∷ ys) e b f =
    let g : (suc (length ys) == 0) ≡ false = ne_eqb (suc (length ys)) 0 (λ z. absurd (omega arith)) in
    let r = Among-filter_only p xs y (subst (λ zs. Among y zs) e (inl refl)) in
    ap not (sym f ∙ g) ∙ sym (list_any-at p xs y r.0 r.1)

-- some interval is near where the search leaves one
pub reach_is : (is ns : List (ℤ × ℤ)) (i : ℤ × ℤ) (b : Bool) → ns ≡ filter (reaches i) is → b ≡ (length ns == 0) → not b ≡ list_any (reaches i) is
reach_is is ns i b e f = any_from_some (reaches i) is ns e b (sym f)

-- ---- numbers in common

-- two intervals that reach each other have a number in common
reach_number : (i j : ℤ × ℤ) → i.0 ≤ℤ i.1 → j.0 ≤ℤ j.1 → reaches i j ≡ true → (v : ℤ) × LiesBetween i v × LiesBetween j v
reach_number i j a b t =
    let s = and_parts (int_le i.0 j.1) (int_le j.0 i.1) t in
    let c = le-from_test i.0 j.1 s.0 in
    let d = le-from_test j.0 i.1 s.1 in
    elim (cases_Bool (int_le i.0 j.0)) [
      | inl e ↦ let f = le-from_test i.0 j.0 e in (j.0, (f, d), (omega (arith, ints), b))
      | inr e ↦ let f = lt-from_test i.0 j.0 e in (i.0, (omega (arith, ints), a), (omega (arith, ints), c))
    ]

-- and two with a number in common reach each other
reach_from : (i j : ℤ × ℤ) (v : ℤ) → LiesBetween i v → LiesBetween j v → reaches i j ≡ true
reach_from i j v a b = and_from (int_le i.0 j.1) (int_le j.0 i.1) (test-from_le i.0 j.1 (le_trans i.0 v j.1 a.0 b.1)) (test-from_le j.0 i.1 (le_trans j.0 v i.1 b.0 a.1))

any_only : (i : ℤ × ℤ) (js : List (ℤ × ℤ)) → i.0 ≤ℤ i.1 → AreApart js → list_any (reaches i) js ≡ true → (v : ℤ) × LiesBetween i v × LiesInOne js v
any_only i js a p t =
    let r = list_any-some (reaches i) js t in
    let s = reach_number i r.0 a (AreApart-among js p r.0 r.1) r.2 in
    (s.0, s.1, (r.0, r.1, s.2))

any_all : (i : ℤ × ℤ) (js : List (ℤ × ℤ)) (v : ℤ) → LiesBetween i v → LiesInOne js v → list_any (reaches i) js ≡ true
any_all i js v a r = list_any-at (reaches i) js r.0 r.1 (reach_from i r.0 v a r.2)

one_only : (n v : ℤ) → LiesBetween (n, n) v → n ≡ v
one_only n v h = let a = h.0 in let b = h.1 in omega (arith, ints)

-- a number is in the set where its interval reaches one
pub has_only : (is : List (ℤ × ℤ)) (n m : ℤ) (xs : List ℤ) (b : Bool) → AreApart is → expand is ≡ xs → m ≡ n → b ≡ list_any (reaches (m, m)) is → b ≡ true → Among n xs
has_only is n m xs b p e f g t =
    let r = any_only (m, m) is (omega (arith, ints)) p (sym g ∙ t) in
    subst (λ ys. Among n ys) e (subst (λ (w : ℤ). Among w (expand is)) (sym (one_only m r.0 r.1) ∙ f) (expand-all is r.0 r.2))

-- and the other way
pub has_all : (is : List (ℤ × ℤ)) (n m : ℤ) (xs : List ℤ) (b : Bool) → AreApart is → expand is ≡ xs → m ≡ n → b ≡ list_any (reaches (m, m)) is → Among n xs → b ≡ true
has_all is n m xs b p e f g h =
    g ∙ any_all (m, m) is n (omega (arith, ints), omega (arith, ints)) (expand-only is n (subst (λ ys. Among n ys) (sym e) h))

same_tests : (a b : Bool) → (a ≡ true → b ≡ true) → (b ≡ true → a ≡ true) → a ≡ b
same_tests true b f g = sym (f refl)
same_tests false b f g = sym (false_from_ne_true b (λ t. both_ways false refl (g t)))

-- two sets share a number where an interval of the one reaches one of the other
pub shares_is : (is js : List (ℤ × ℤ)) → AreApart is → AreApart js → list_any (λ i. list_any (reaches i) js) is ≡ share (expand is) (expand js)
shares_is is js p q =
    same_tests (list_any (λ i. list_any (reaches i) js) is) (share (expand is) (expand js))
    (λ t.
    let r = list_any-some (λ i. list_any (reaches i) js) is t in
    let s = any_only r.0 js (AreApart-among is p r.0 r.1) q r.2 in
    share-at (expand is) (expand js) s.0 (expand-all is s.0 (r.0, r.1, s.1)) (expand-all js s.0 s.2))
    (λ t.
    let r = share-some (expand is) (expand js) t in
    let a = expand-only is r.0 r.1 in
    list_any-at (λ i. list_any (reaches i) js) is a.0 a.1 (any_all a.0 js r.0 a.2 (expand-only js r.0 r.2)))

-- ---- what an interval has in common with those that are not near

overlap_none : (i j : ℤ × ℤ) → reaches i j ≡ false → overlap i j ≡ []
overlap_none i j e = cond-false (int_le (int_max i.0 j.0) (int_min i.1 j.1)) ((int_max i.0 j.0, int_min i.1 j.1) ∷ []) [] (test-from_lt (int_max i.0 j.0) (int_min i.1 j.1) (apart (int_max i.0 j.0) (int_min i.1 j.1) (greater i.0 j.0).0 (greater i.0 j.0).1 (lesser i.1 j.1).0 (lesser i.1 j.1).1))
  where
    apart : (a b : ℤ) → i.0 ≤ℤ a → j.0 ≤ℤ a → b ≤ℤ i.1 → b ≤ℤ j.1 → b <ℤ a
    apart a b h g k l = elim (cases_Bool (int_le a b)) [
      | inl t ↦ let u = le-from_test a b t in absurd (both_ways (reaches i j) e (and_from (int_le i.0 j.1) (int_le j.0 i.1) (test-from_le i.0 j.1 (omega (arith, ints))) (test-from_le j.0 i.1 (omega (arith, ints)))))
      | inr t ↦ lt-from_test a b t
    ]

near_step : (i j : ℤ × ℤ) (js : List (ℤ × ℤ)) (b : Bool) → reaches i j ≡ b → flat_map (overlap i) (filter (reaches i) js) ≡ flat_map (overlap i) js → flat_map (overlap i) (filter (reaches i) (j ∷ js)) ≡ flat_map (overlap i) (j ∷ js)
near_step i j js true e h = ap (flat_map (overlap i)) (filter_step (reaches i) j js true e) ∙ ap (λ ys. overlap i j ++ ys) h
near_step i j js false e h = ap (flat_map (overlap i)) (filter_step (reaches i) j js false e) ∙ h ∙ ap (λ ys. ys ++ flat_map (overlap i) js) (sym (overlap_none i j e))

pub near_all : (i : ℤ × ℤ) (js ns : List (ℤ × ℤ)) → ns ≡ filter (reaches i) js → flat_map (overlap i) ns ≡ flat_map (overlap i) js
near_all i js ns e = ap (flat_map (overlap i)) e ∙ by js
  where
    by : (js : List (ℤ × ℤ)) → flat_map (overlap i) (filter (reaches i) js) ≡ flat_map (overlap i) js
    by [] = refl
    by (j ∷ js) = near_step i j js (reaches i j) refl (by js)
