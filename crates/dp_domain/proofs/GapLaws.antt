-- Laws of the gaps between intervals: they are the holes, and what others have in common with them.
use Rattle.std.proofs.Common.{◌≡◌, ℕ, ◌+◌, ◌<◌, ◌≤◌, Bool, true, false, not, ◌&&◌, List, [], ◌∷◌, ◌++◌, length, get_or, drop, ℤ, pos, ◌+ℤ◌, ◌-ℤ◌, ◌≤ℤ◌, ◌<ℤ◌, int_le, Option, Some, None, refl, sym, ◌∙◌, ap, subst, inl, inr, arith}
use Rattle.std.specs.Prelude.{int_lt, unwrap_or}
use Rattle.std.specs.Int.{int_max, int_min}
use Rattle.std.specs.List.{filter, flat_map}
use Rattle.std.proofs.lemmas.Int.{ints}
use Rattle.std.proofs.lemmas.Bool.{and_from, and_parts, cases_Bool, not-true, not_from_false, false_from_ne_true, both_ways, false≢true}
use Rattle.std.proofs.lemmas.List.{append-nil, append_assoc, drop_all, drop_more}
use Rattle.dp_base.specs.Lists.{Among, Each}
use Rattle.dp_base.proofs.Lists.{Each-among, Each-from_among, Each-weaker}
use Rattle.dp_domain.specs.Explanations.{has, is_hole, is_less}
use Rattle.dp_domain.specs.Intervals.{common, gaps_from, interval, overlap}
use Rattle.dp_domain.specs.Sets.{AreApart, AreMaximal, LiesInOne, expand, greatest, least}
use Rattle.dp_domain.proofs.AtomLaws.{le-from_test, lt-from_test, order_cases, test-from_le}
use Rattle.dp_domain.proofs.ExpandLaws.{expand-all, expand-only}
use Rattle.dp_domain.proofs.ExplanationSteps.{from_has, has_from}
use Rattle.dp_domain.proofs.IntervalLaws.{AreApart-among}
use Rattle.dp_domain.proofs.IntervalSteps.{AreBefore, IsCut, apart-append, cut-all, cut-apart, cut-expand, cut-maximal, cut-only, first_in, from_max, from_min, interval-all, interval-apart, interval-only, last_in, lies_cases, lies_left, lies_right, over_both, under_both}
use Rattle.dp_domain.proofs.SetLaws.{greatest-among, greatest-bound, least-among, least-bound}

-- ---- what lies in a gap

-- the intervals begin from the number on
abbrev pub AreFrom : ℤ → List (ℤ × ℤ) → Type 0
AreFrom next is = Each (λ j. next ≤ℤ j.0) is

-- the number lies in a gap: from the number `next` on, in no interval, and before the begin of one
pub record LiesInGap (next : ℤ) (is : List (ℤ × ℤ)) (v : ℤ) : Type 0 where
  pub low : next ≤ℤ v
  pub none : LiesInOne is v → ⊥
  pub before : (j : ℤ × ℤ) × Among j is × (v <ℤ j.0)

rest_from : (i : ℤ × ℤ) (is : List (ℤ × ℤ)) → Each (λ j. (i.1 +ℤ pos 1) <ℤ j.0) is → AreFrom (i.1 +ℤ pos 1) is
rest_from i is e = Each-weaker (λ (j : ℤ × ℤ). (i.1 +ℤ pos 1) <ℤ j.0) (λ (j : ℤ × ℤ). (i.1 +ℤ pos 1) ≤ℤ j.0) (λ j h. omega (arith, ints)) is e

before_all : (i : ℤ × ℤ) (is : List (ℤ × ℤ)) (v : ℤ) → AreApart (i ∷ is) → v ≤ℤ (i.0 -ℤ pos 1) → LiesInOne (i ∷ is) v → ⊥
before_all i is v a h (ends, inl e, b) = let low : i.0 ≤ℤ v = subst (λ (j : ℤ × ℤ). j.0 ≤ℤ v) e b.0 in omega (arith, ints)
before_all i is v a h (ends, inr m, b) =
    let some = a.0 in
    let low = b.0 in
    let later : (i.1 +ℤ pos 1) <ℤ ends.0 = Each-among (λ (j : ℤ × ℤ). (i.1 +ℤ pos 1) <ℤ j.0) is a.1 ends m in
    omega (arith, ints)

behind_first : (i : ℤ × ℤ) (is : List (ℤ × ℤ)) (v : ℤ) → (i.1 +ℤ pos 1) ≤ℤ v → (LiesInOne is v → ⊥) → LiesInOne (i ∷ is) v → ⊥
behind_first i is v h none (ends, inl e, b) = let high : v ≤ℤ i.1 = subst (λ (j : ℤ × ℤ). v ≤ℤ j.1) e b.1 in omega (arith, ints)
behind_first i is v h none (ends, inr m, b) = none (ends, m, b)

first_up : (n a b v : ℤ) → n ≤ℤ a → a ≤ℤ b → (b +ℤ pos 1) ≤ℤ v → n ≤ℤ v
first_up n a b v h g f = omega (arith, ints)

less_by : (v x : ℤ) → v ≤ℤ (x -ℤ pos 1) → v <ℤ x
less_by v x h = omega (arith, ints)

-- a number of the gaps lies in one
pub gaps_only : (next : ℤ) (is : List (ℤ × ℤ)) (v : ℤ) → AreApart is → AreFrom next is → LiesInOne (gaps_from next is) v → LiesInGap next is v
gaps_only next [] v a f r = absurd r.1
gaps_only next (i ∷ is) v a f r = elim (lies_cases (interval next (i.0 -ℤ pos 1)) (gaps_from (i.1 +ℤ pos 1) is) v r) [
  | inl h ↦
      let b = interval-only next (i.0 -ℤ pos 1) v h in
      record { low = b.0; none = before_all i is v a b.1; before = (i, inl refl, less_by v i.0 b.1) }
  | inr h ↦
      let g = gaps_only (i.1 +ℤ pos 1) is v a.2 (rest_from i is a.1) h in
      record { low = first_up next i.0 i.1 v f.0 a.0 g.low; none = behind_first i is v g.low g.none; before = (g.before.0, inr g.before.1, g.before.2) }
]

gap_before : (v x : ℤ) → v <ℤ x → v ≤ℤ (x -ℤ pos 1)
gap_before v x h = omega (arith, ints)

gap_behind : (x v : ℤ) → x <ℤ v → (x +ℤ pos 1) ≤ℤ v
gap_behind x v h = omega (arith, ints)

not_first : (i : ℤ × ℤ) (is : List (ℤ × ℤ)) (v : ℤ) (j : ℤ × ℤ) → i.0 ≤ℤ v → Among j (i ∷ is) → v <ℤ j.0 → Among j is
not_first i is v j h (inl e) l = let k : v <ℤ i.0 = subst (λ (q : ℤ × ℤ). v <ℤ q.0) e l in absurd (omega (arith, ints))
not_first i is v j h (inr m) l = m

-- a number that lies in no interval, and before one, is in the gaps
pub gaps_all : (next : ℤ) (is : List (ℤ × ℤ)) (v : ℤ) (j : ℤ × ℤ) → next ≤ℤ v → (LiesInOne is v → ⊥) → Among j is → v <ℤ j.0 → LiesInOne (gaps_from next is) v
gaps_all next [] v j low none m l = absurd m
gaps_all next (i ∷ is) v j low none m l =
    by (int_le i.0 v) (int_le v i.1) refl refl (λ h k. gaps_all (i.1 +ℤ pos 1) is v j h (λ r. none (r.0, inr r.1, r.2)) (not_first i is v j k m l) l)
  where
    by : (b c : Bool) → int_le i.0 v ≡ b → int_le v i.1 ≡ c → ((i.1 +ℤ pos 1) ≤ℤ v → i.0 ≤ℤ v → LiesInOne (gaps_from (i.1 +ℤ pos 1) is) v) → LiesInOne (gaps_from next (i ∷ is)) v
    by false c e f more = lies_left (interval next (i.0 -ℤ pos 1)) (gaps_from (i.1 +ℤ pos 1) is) v (interval-all next (i.0 -ℤ pos 1) v (low, gap_before v i.0 (lt-from_test i.0 v e)))
    by true true e f more = absurd (none (i, inl refl, (le-from_test i.0 v e, le-from_test v i.1 f)))
    by true false e f more = lies_right (interval next (i.0 -ℤ pos 1)) (gaps_from (i.1 +ℤ pos 1) is) v (more (gap_behind i.1 v (lt-from_test v i.1 f)) (le-from_test i.0 v e))

gap_first : (next : ℤ) (i : ℤ × ℤ) (is : List (ℤ × ℤ)) → AreApart (i ∷ is) → AreApart (gaps_from (i.1 +ℤ pos 1) is) → AreBefore (interval next (i.0 -ℤ pos 1)) (gaps_from (i.1 +ℤ pos 1) is)
gap_first next i is a b j k m n =
    let some = a.0 in
    let high = (interval-only next (i.0 -ℤ pos 1) j.1 (last_in (interval next (i.0 -ℤ pos 1)) j (interval-apart next (i.0 -ℤ pos 1)) m)).1 in
    let low = (gaps_only (i.1 +ℤ pos 1) is k.0 a.2 (rest_from i is a.1) (first_in (gaps_from (i.1 +ℤ pos 1) is) k b n)).low in
    omega (arith, ints)

gaps_apart : (next : ℤ) (is : List (ℤ × ℤ)) → AreApart is → AreApart (gaps_from next is)
gaps_apart next [] a = tt
gaps_apart next (i ∷ is) a =
    let b = gaps_apart (i.1 +ℤ pos 1) is a.2 in
    apart-append (interval next (i.0 -ℤ pos 1)) (gaps_from (i.1 +ℤ pos 1) is) (interval-apart next (i.0 -ℤ pos 1)) b (gap_first next i is a b)

-- the gaps between intervals that are apart are apart
pub gaps-apart : (next : ℤ) (is gaps : List (ℤ × ℤ)) → AreApart is → gaps ≡ gaps_from next is → AreApart gaps
gaps-apart next is gaps a e = subst AreApart (sym e) (gaps_apart next is a)

-- ---- the holes of a set

lt_test : (x y : ℤ) → x <ℤ y → int_lt x y ≡ true
lt_test x y h = elim (cases_Bool (int_lt x y)) [ inl e ↦ e | inr e ↦ absurd (omega (arith, ints)) ]

lt_of : (x y : ℤ) → int_lt x y ≡ true → x <ℤ y
lt_of x y e = omega (arith, ints)

-- a number strictly between the least and the greatest of the values that is none of them
pub record IsInside (xs : List ℤ) (least_one greatest_one v : ℤ) : Type 0 where
  pub above : least_one <ℤ v
  pub below : v <ℤ greatest_one
  pub lacking : Among v xs → ⊥

less_some : (o : Option ℤ) (m v : ℤ) → o ≡ Some m → is_less o (Some v) ≡ int_lt m v
less_some o m v e = ap (λ (p : Option ℤ). is_less p (Some v)) e

some_less : (o : Option ℤ) (m v : ℤ) → o ≡ Some m → is_less (Some v) o ≡ int_lt v m
some_less o m v e = ap (λ (p : Option ℤ). is_less (Some v) p) e

inside_hole : (xs : List ℤ) (l g v : ℤ) → least xs ≡ Some l → greatest xs ≡ Some g → IsInside xs l g v → is_hole xs v ≡ true
inside_hole xs l g v e f h =
    and_from (is_less (least xs) (Some v) && is_less (Some v) (greatest xs)) (not (has xs v))
    (and_from (is_less (least xs) (Some v)) (is_less (Some v) (greatest xs)) (less_some (least xs) l v e ∙ lt_test l v h.above) (some_less (greatest xs) g v f ∙ lt_test v g h.below))
    (not_from_false (has xs v) (false_from_ne_true (has xs v) (λ t. h.lacking (from_has xs v t))))

hole_inside : (xs : List ℤ) (l g v : ℤ) → least xs ≡ Some l → greatest xs ≡ Some g → is_hole xs v ≡ true → IsInside xs l g v
hole_inside xs l g v e f t =
    let r = and_parts (is_less (least xs) (Some v) && is_less (Some v) (greatest xs)) (not (has xs v)) t in
    let s = and_parts (is_less (least xs) (Some v)) (is_less (Some v) (greatest xs)) r.0 in
    record {
      above = lt_of l v (sym (less_some (least xs) l v e) ∙ s.0);
      below = lt_of v g (sym (some_less (greatest xs) g v f) ∙ s.1);
      lacking = λ h. both_ways (has xs v) (not-true (has xs v) r.1) (has_from xs v h);
    }

no_hole : (xs : List ℤ) (v : ℤ) → least xs ≡ None → is_hole xs v ≡ true → ⊥
no_hole xs v e t =
    let r = and_parts (is_less (least xs) (Some v) && is_less (Some v) (greatest xs)) (not (has xs v)) t in
    let s = and_parts (is_less (least xs) (Some v)) (is_less (Some v) (greatest xs)) r.0 in
    false≢true (sym (ap (λ (p : Option ℤ). is_less p (Some v)) e) ∙ s.0)

apart_values : (x y : ℤ) → x ≤ℤ y → (x ≡ y → ⊥) → x <ℤ y
apart_values x y h n = elim (order_cases x y) [ inl e ↦ absurd (n e) | inr o ↦ elim o [ inl l ↦ l | inr l ↦ absurd (omega (arith, ints)) ] ]

-- the least number of some intervals, and the greatest
record HasEnds (is : List (ℤ × ℤ)) (l g : ℤ) : Type 0 where
  least_is : least (expand is) ≡ Some l
  greatest_is : greatest (expand is) ≡ Some g
  from_least : AreFrom l is

gap_hole : (is : List (ℤ × ℤ)) (l g v : ℤ) → AreApart is → HasEnds is l g → LiesInOne (gaps_from l is) v → is_hole (expand is) v ≡ true
gap_hole is l g v a h r =
    let k = gaps_only l is v a h.from_least r in
    let j = k.before.0 in
    let low = k.low in
    let before = k.before.2 in
    let some = AreApart-among is a j k.before.1 in
    let top : j.1 ≤ℤ g = greatest-bound (expand is) g h.greatest_is j.1 (expand-all is j.1 (last_in is j a k.before.1)) in
    inside_hole (expand is) l g v h.least_is h.greatest_is (record {
      above = apart_values l v k.low (λ e. k.none (subst (λ (w : ℤ). LiesInOne is w) e (expand-only is l (least-among (expand is) l h.least_is))));
      below = omega (arith, ints);
      lacking = λ m. k.none (expand-only is v m);
    })

hole_gap : (is : List (ℤ × ℤ)) (l g v : ℤ) → AreApart is → HasEnds is l g → is_hole (expand is) v ≡ true → LiesInOne (gaps_from l is) v
hole_gap is l g v a h t =
    let k = hole_inside (expand is) l g v h.least_is h.greatest_is t in
    let r = expand-only is g (greatest-among (expand is) g h.greatest_is) in
    let above = k.above in
    gaps_all l is v r.0 (omega (arith, ints)) (λ q. k.lacking (expand-all is v q)) r.1
    (elim (cases_Bool (int_le r.0.0 v)) [
      | inl e ↦ let below = k.below in let high = r.2.1 in absurd (k.lacking (expand-all is v (r.0, r.1, (le-from_test r.0.0 v e, omega (arith, ints)))))
      | inr e ↦ lt-from_test r.0.0 v e
    ])

-- a gap of intervals with their ends is a hole, and the other way
record AreHoles (is gaps : List (ℤ × ℤ)) : Type 0 where
  only : (v : ℤ) → LiesInOne gaps v → is_hole (expand is) v ≡ true
  all : (v : ℤ) → is_hole (expand is) v ≡ true → LiesInOne gaps v

ends_from : (is : List (ℤ × ℤ)) (l : ℤ) → AreApart is → least (expand is) ≡ Some l → AreFrom l is
ends_from is l a e = Each-from_among (λ (j : ℤ × ℤ). l ≤ℤ j.0) is (λ j m. least-bound (expand is) l e j.0 (expand-all is j.0 (first_in is j a m)))

no_greatest : (xs : List ℤ) (l : ℤ) → least xs ≡ Some l → greatest xs ≡ None → ⊥
no_greatest [] l e f = cc
no_greatest (x ∷ xs) l e f = cc

holes_none : (is : List (ℤ × ℤ)) (next : ℤ) → AreApart is → least (expand is) ≡ None → AreHoles is (gaps_from next is)
holes_none [] next a e = record { only = λ v r. absurd r.1; all = λ v t. absurd (no_hole (expand []) v e t) }
holes_none (i ∷ is) next a e = absurd (some_least (expand (i ∷ is)) i.0 (expand-all (i ∷ is) i.0 (i, inl refl, (omega (arith, ints), a.0))) e)
  where
    some_least : (xs : List ℤ) (v : ℤ) → Among v xs → least xs ≡ None → ⊥
    some_least [] v h e = h
    some_least (x ∷ xs) v h e = cc

holes_some : (is : List (ℤ × ℤ)) (l : ℤ) → AreApart is → least (expand is) ≡ Some l → AreHoles is (gaps_from l is)
holes_some is l a e = by (greatest (expand is)) refl
  where
    by : (o : Option ℤ) → greatest (expand is) ≡ o → AreHoles is (gaps_from l is)
    by None f = absurd (no_greatest (expand is) l e f)
    by (Some g) f =
        let h : HasEnds is l g = record { least_is = e; greatest_is = f; from_least = ends_from is l a e } in
        record { only = λ v r. gap_hole is l g v a h r; all = λ v t. hole_gap is l g v a h t }

gaps_holes : (is : List (ℤ × ℤ)) (o : Option ℤ) → AreApart is → least (expand is) ≡ o → AreHoles is (gaps_from (unwrap_or o (pos 0)) is)
gaps_holes is None a e = holes_none is (pos 0) a e
gaps_holes is (Some l) a e = holes_some is l a e

-- ---- what an interval has in common with gaps

overlap_cut : (i : ℤ × ℤ) → IsCut (overlap i) (λ v. int_le i.0 v && int_le v i.1)
overlap_cut i = record {
  apart = λ j h. interval-apart (int_max i.0 j.0) (int_min i.1 j.1);
  only = λ j v r.
      let b = interval-only (int_max i.0 j.0) (int_min i.1 j.1) v r in
      let m = from_max i.0 j.0 v b.0 in
      let n = from_min i.1 j.1 v b.1 in
      ((m.1, n.1), and_from (int_le i.0 v) (int_le v i.1) (test-from_le i.0 v m.0) (test-from_le v i.1 n.0));
  all = λ j v b t.
      let s = and_parts (int_le i.0 v) (int_le v i.1) t in
      interval-all (int_max i.0 j.0) (int_min i.1 j.1) v (over_both v i.0 j.0 (le-from_test i.0 v s.0) b.0, under_both v i.1 j.1 (le-from_test v i.1 s.1) b.1);
}

-- what an interval has in common with others, where just the numbers of these pass the test
pub common_cut : (p : ℤ → Bool) (gaps : List (ℤ × ℤ)) → AreApart gaps → ((v : ℤ) → LiesInOne gaps v → p v ≡ true) → ((v : ℤ) → p v ≡ true → LiesInOne gaps v) → IsCut (λ i. flat_map (overlap i) gaps) p
common_cut p gaps a some all = record {
  apart = λ i n. cut-apart (overlap i) (λ v. int_le i.0 v && int_le v i.1) (overlap_cut i) gaps a;
  only = λ i v r.
      let s = cut-only (overlap i) (λ v. int_le i.0 v && int_le v i.1) (overlap_cut i) gaps v r in
      let t = and_parts (int_le i.0 v) (int_le v i.1) s.1 in
      ((le-from_test i.0 v t.0, le-from_test v i.1 t.1), some v s.0);
  all = λ i v b t. cut-all (overlap i) (λ v. int_le i.0 v && int_le v i.1) (overlap_cut i) gaps v (all v t) (and_from (int_le i.0 v) (int_le v i.1) (test-from_le i.0 v b.0) (test-from_le v i.1 b.1));
}

holes_of : (is : List (ℤ × ℤ)) (o : Option ℤ) (start : ℤ) (gaps : List (ℤ × ℤ)) → AreApart is → o ≡ least (expand is) → start ≡ unwrap_or o (pos 0) → gaps ≡ gaps_from start is → AreHoles is gaps
holes_of is o start gaps a e f g =
    subst (AreHoles is) (sym (g ∙ ap (λ (x : ℤ). gaps_from x is) f)) (gaps_holes is o a (sym e))

-- the intervals are maximal, and expand to the numbers of the others that are holes of a set
pub record HoldsHoles (is js ks : List (ℤ × ℤ)) : Type 0 where
  pub maximal : AreMaximal ks
  pub numbers : expand ks ≡ filter (is_hole (expand is)) (expand js)

-- what others have in common with the gaps of a set are its holes among their numbers
pub holes_hold : (is js ks gaps : List (ℤ × ℤ)) (o : Option ℤ) (start : ℤ) → AreMaximal js → AreApart is → o ≡ least (expand is) → start ≡ unwrap_or o (pos 0) → gaps ≡ gaps_from start is → ks ≡ common js gaps → HoldsHoles is js ks
holes_hold is js ks gaps o start m a e f g h =
    let k = holes_of is o start gaps a e f g in
    let cut = common_cut (is_hole (expand is)) gaps (gaps-apart start is gaps a g) k.only k.all in
    record {
      maximal = subst AreMaximal (sym h) (cut-maximal (λ i. flat_map (overlap i) gaps) (is_hole (expand is)) cut js m);
      numbers = ap expand h ∙ cut-expand (λ i. flat_map (overlap i) gaps) (is_hole (expand is)) cut js m.apart;
    }

-- ---- one gap more in a loop

-- one gap more, with those that are left
pub gaps_next : (is : List (ℤ × ℤ)) (i : ℕ) (next first after : ℤ) (old now all : List (ℤ × ℤ)) → i < length is → first ≡ (get_or is i (pos 0, pos 0)).0 → after ≡ (get_or is i (pos 0, pos 0)).1 +ℤ pos 1 → now ≡ old ++ interval next (first -ℤ pos 1) → old ++ gaps_from next (drop i is) ≡ all → now ++ gaps_from after (drop (i + 1) is) ≡ all
gaps_next is i next first after old now all h e f n k =
    let j = get_or is i (pos 0, pos 0) in
    let d : drop i is ≡ j ∷ drop (i + 1) is = drop_next is i h in
    ap (λ ys. ys ++ gaps_from after (drop (i + 1) is)) n
    ∙ append_assoc old (interval next (first -ℤ pos 1)) (gaps_from after (drop (i + 1) is))
    ∙ ap (λ (x : ℤ). old ++ (interval next (x -ℤ pos 1) ++ gaps_from after (drop (i + 1) is))) e
    ∙ ap (λ (y : ℤ). old ++ (interval next (j.0 -ℤ pos 1) ++ gaps_from y (drop (i + 1) is))) f
    ∙ ap (λ ys. old ++ gaps_from next ys) (sym d) ∙ k
  where
    drop_next : (is : List (ℤ × ℤ)) (i : ℕ) → i < length is → drop i is ≡ get_or is i (pos 0, pos 0) ∷ drop (i + 1) is
    drop_next is i h = drop_more is i (pos 0, pos 0) h

-- where none is left, the gaps so far are all
pub gaps_done : (is : List (ℤ × ℤ)) (i : ℕ) (next : ℤ) (now all : List (ℤ × ℤ)) → length is ≤ i → now ++ gaps_from next (drop i is) ≡ all → now ≡ all
gaps_done is i next now all h k = sym (append-nil now) ∙ ap (λ ys. now ++ gaps_from next ys) (sym (drop_all i is h)) ∙ k
