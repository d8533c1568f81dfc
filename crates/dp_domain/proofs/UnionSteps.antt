-- Steps of the union of intervals: sorted by where they begin, each joins the last or follows it.
use Rattle.std.proofs.Common.{◌≡◌, ℕ, ◌+◌, ◌<◌, ◌≤◌, false, ◌⊎◌, List, [], ◌∷◌, ◌++◌, length, get_or, take, drop, ℤ, pos, ◌+ℤ◌, ◌-ℤ◌, ◌≤ℤ◌, ◌<ℤ◌, Option, Some, None, IsPermutation, option_to_list, refl, sym, ◌∙◌, ap, subst, inl, inr, arith}
use Rattle.std.specs.Int.{int_max}
use Rattle.std.specs.declared.cmp.Ordering.{Ordering}
use Rattle.std.specs.declared.cmp.Ordering.TheVariants.{Less, Equal, Greater}
use Rattle.std.specs.Ordering.{MatchOrdering, int_cmp, is_lt, ordering_then}
use Rattle.std.specs.Cmp.{int_ranks}
use Rattle.std.specs.List.Sorted.{IsSorted}
use Rattle.std.specs.Option.{IsSome}
use Rattle.std.proofs.lemmas.Int.{ints}
use Rattle.std.proofs.lemmas.Bool.{false≢true}
use Rattle.std.proofs.lemmas.List.{append-nil, drop_all, drop_more, take_all, take_more}
use Rattle.std.proofs.lemmas.List.Sorted.{All-permutation, Contains-permutation, IsPermutation-sym}
use Rattle.dp_base.specs.Lists.{Among, Each}
use Rattle.dp_base.proofs.Lists.{All-from_each, Among-append_cases, Among-from_contains, Contains-from_among, Each-append, Each-append_parts, Each-from_all, Each-weaker}
use Rattle.dp_domain.specs.Intervals.{AreBegun, Follows, HaveMore, HaveSame, Joins}
use Rattle.dp_domain.specs.Sets.{AreApart, AreMaximal, Collects, HasSmallEnds, IsSmall, LiesBetween, LiesInOne, expand}
use Rattle.dp_domain.proofs.AtomLaws.{order_cases}
use Rattle.dp_domain.proofs.ExpandLaws.{expand-all, expand-only}
use Rattle.dp_domain.proofs.IntervalSteps.{AreBefore, apart-append, apart-back, apart-before, apart-front, greater, lies_cases, lies_left, lies_right}

-- ---- one more interval

-- an interval without a number adds none
pub join_none : (old now : List (ℤ × ℤ)) (ends : ℤ × ℤ) → ends.1 <ℤ ends.0 → now ≡ old → AreBegun ends.0 old → Joins old now ends
join_none old now ends h e a = subst (λ (zs : List (ℤ × ℤ)). Joins old zs ends) (sym e) (record {
  begun = a;
  more = record {
    only = λ v r. inl r;
    all = λ v r. elim r [ inl k ↦ k | inr b ↦ let low = b.0 in let high = b.1 in absurd (omega (arith, ints)) ];
  };
})

one_apart : (first last : ℤ) → first ≤ℤ last → AreApart ((first, last) ∷ [])
one_apart first last h = (h, tt, tt)

follow_only : (old : List (ℤ × ℤ)) (ends : ℤ × ℤ) (v : ℤ) → LiesInOne (old ++ ends ∷ []) v → LiesInOne old v ⊎ LiesBetween ends v
follow_only old ends v r = elim (lies_cases old (ends ∷ []) v r) [
  | inl h ↦ inl h
  | inr h ↦ inr (by h.0 h.1 h.2)
]
  where
    by : (e : ℤ × ℤ) → Among e (ends ∷ []) → LiesBetween e v → LiesBetween ends v
    by e (inl k) b = subst (λ (q : ℤ × ℤ). LiesBetween q v) k b
    by e (inr none) b = absurd none

follow_all : (old : List (ℤ × ℤ)) (ends : ℤ × ℤ) (v : ℤ) → LiesInOne old v ⊎ LiesBetween ends v → LiesInOne (old ++ ends ∷ []) v
follow_all old ends v (inl h) = lies_left old (ends ∷ []) v h
follow_all old ends v (inr b) = lies_right old (ends ∷ []) v (ends, inl refl, b)

follow_more : (old : List (ℤ × ℤ)) (ends : ℤ × ℤ) → HaveMore old (old ++ ends ∷ []) ends
follow_more old ends = record { only = follow_only old ends; all = follow_all old ends }

follow_begun : (old : List (ℤ × ℤ)) (first last : ℤ) → first ≤ℤ last → HasSmallEnds (first, last) → AreBefore old ((first, last) ∷ []) → AreBegun first old → AreBegun first (old ++ (first, last) ∷ [])
follow_begun old first last h s b a = record {
  maximal = record {
    apart = apart-append old ((first, last) ∷ []) a.maximal.apart (one_apart first last h) b;
    small = Each-append HasSmallEnds old ((first, last) ∷ []) a.maximal.small (s, tt);
  };
  begun = Each-append (λ (i : ℤ × ℤ). i.0 ≤ℤ first) old ((first, last) ∷ []) a.begun (omega (arith, ints), tt);
}

last_before : (front : List (ℤ × ℤ)) (start end first last : ℤ) → AreApart (front ++ (start, end) ∷ []) → start ≤ℤ end → end <ℤ (first -ℤ pos 1) → AreBefore (front ++ (start, end) ∷ []) ((first, last) ∷ [])
last_before front start end first last p s h i j m (inr none) = absurd none
last_before front start end first last p s h i j m (inl e) =
    let f : j.0 ≡ first = ap (λ (q : ℤ × ℤ). q.0) e in
    elim (Among-append_cases i front ((start, end) ∷ []) m) [
      | inl k ↦ let b : (i.1 +ℤ pos 1) <ℤ start = apart-before front ((start, end) ∷ []) p i (start, end) k (inl refl) in omega (arith, ints)
      | inr k ↦ let g : i.1 ≡ end = at_end i k in omega (arith, ints)
    ]
  where
    at_end : (i : ℤ × ℤ) → Among i ((start, end) ∷ []) → i.1 ≡ end
    at_end i (inl g) = ap (λ (q : ℤ × ℤ). q.1) g
    at_end i (inr none) = absurd none

-- ---- the last interval is joined

max_cases : (v x m : ℤ) → v ≤ℤ int_max x m → (v ≤ℤ x) ⊎ (v ≤ℤ m)
max_cases v x m h = elim (greater x m).2 [ inl e ↦ inl (omega (arith, ints)) | inr e ↦ inr (omega (arith, ints)) ]

joined_only : (front : List (ℤ × ℤ)) (start end first last : ℤ) → (first -ℤ pos 1) ≤ℤ end → (v : ℤ) → LiesInOne (front ++ (start, int_max end last) ∷ []) v → LiesInOne (front ++ (start, end) ∷ []) v ⊎ LiesBetween (first, last) v
joined_only front start end first last h v r = elim (follow_only front (start, int_max end last) v r) [
  | inl k ↦ inl (lies_left front ((start, end) ∷ []) v k)
  | inr b ↦ elim (order_cases end v) [
    | inl e ↦ inl (lies_right front ((start, end) ∷ []) v ((start, end), inl refl, (b.0, omega (arith, ints))))
    | inr o ↦ elim o [
      | inl l ↦ elim (max_cases v end last b.1) [ inl k ↦ absurd (omega (arith, ints)) | inr k ↦ inr (omega (arith, ints), k) ]
      | inr l ↦ inl (lies_right front ((start, end) ∷ []) v ((start, end), inl refl, (b.0, omega (arith, ints))))
    ]
  ]
]

up : (x y z : ℤ) → x ≤ℤ y → y ≤ℤ z → x ≤ℤ z
up x y z h g = omega (arith, ints)

joined_all : (front : List (ℤ × ℤ)) (start end first last : ℤ) → start ≤ℤ first → (v : ℤ) → LiesInOne (front ++ (start, end) ∷ []) v ⊎ LiesBetween (first, last) v → LiesInOne (front ++ (start, int_max end last) ∷ []) v
joined_all front start end first last h v (inr b) = follow_all front (start, int_max end last) v (inr (up start first v h b.0, up v last (int_max end last) b.1 (greater end last).1))
joined_all front start end first last h v (inl r) = elim (follow_only front (start, end) v r) [
  | inl k ↦ follow_all front (start, int_max end last) v (inl k)
  | inr b ↦ follow_all front (start, int_max end last) v (inr (b.0, up v end (int_max end last) b.1 (greater end last).0))
]

small_max : (end last : ℤ) → IsSmall end → IsSmall last → IsSmall (int_max end last)
small_max end last a b = elim (greater end last).2 [ inl e ↦ subst IsSmall (sym e) a | inr e ↦ subst IsSmall (sym e) b ]

joined_begun : (front : List (ℤ × ℤ)) (start end first last : ℤ) → HasSmallEnds (first, last) → AreBegun first (front ++ (start, end) ∷ []) → AreBegun first (front ++ (start, int_max end last) ∷ [])
joined_begun front start end first last s a =
    let p = a.maximal.apart in
    let t = Each-append_parts HasSmallEnds front ((start, end) ∷ []) a.maximal.small in
    let b = Each-append_parts (λ (i : ℤ × ℤ). i.0 ≤ℤ first) front ((start, end) ∷ []) a.begun in
    let some : start ≤ℤ end = (apart-back front ((start, end) ∷ []) p).0 in
    record {
      maximal = record {
        apart = apart-append front ((start, int_max end last) ∷ []) (apart-front front ((start, end) ∷ []) p) (one_apart start (int_max end last) (up start end (int_max end last) some (greater end last).0)) (same_start front start end (int_max end last) p);
        small = Each-append HasSmallEnds front ((start, int_max end last) ∷ []) t.0 ((t.1.0.0, small_max end last t.1.0.1 s.1), tt);
      };
      begun = Each-append (λ (i : ℤ × ℤ). i.0 ≤ℤ first) front ((start, int_max end last) ∷ []) b.0 (b.1.0, tt);
    }
  where
    same_start : (front : List (ℤ × ℤ)) (start end other : ℤ) → AreApart (front ++ (start, end) ∷ []) → AreBefore front ((start, other) ∷ [])
    same_start front start end other p i j m (inr none) = absurd none
    same_start front start end other p i j m (inl e) = subst (λ (q : ℤ × ℤ). (i.1 +ℤ pos 1) <ℤ q.0) (sym e) (apart-before front ((start, end) ∷ []) p i (start, end) m (inl refl))

-- what joining the last interval leaves
pub join_last : (old front now : List (ℤ × ℤ)) (o : Option (ℤ × ℤ)) (ends : ℤ × ℤ) (start end start' end' : ℤ) → AreBegun ends.0 old → HasSmallEnds ends → old ≡ front ++ option_to_list o → o ≡ Some (start, end) → (ends.0 -ℤ pos 1) ≤ℤ end → start' ≡ start → end' ≡ int_max end ends.1 → now ≡ front ++ (start', end') ∷ [] → Joins old now ends
join_last old front now o ends start end start' end' a s e f h g k n =
    let w : old ≡ front ++ (start, end) ∷ [] = e ∙ ap (λ q. front ++ option_to_list q) f in
    let j : now ≡ front ++ (start, int_max end ends.1) ∷ [] = n ∙ ap (λ (x : ℤ). front ++ (x, end') ∷ []) g ∙ ap (λ (y : ℤ). front ++ (start, y) ∷ []) k in
    let b = subst (AreBegun ends.0) w a in
    let before : start ≤ℤ ends.0 = (Each-append_parts (λ (i : ℤ × ℤ). i.0 ≤ℤ ends.0) front ((start, end) ∷ []) b.begun).1.0 in
    record {
      begun = subst (AreBegun ends.0) (sym j) (joined_begun front start end ends.0 ends.1 s b);
      more = subst (λ (zs : List (ℤ × ℤ)). HaveMore old zs ends) (sym j)
          (subst (λ (zs : List (ℤ × ℤ)). HaveMore zs (front ++ (start, int_max end ends.1) ∷ []) ends) (sym w)
          (record { only = joined_only front start end ends.0 ends.1 h; all = joined_all front start end ends.0 ends.1 before }));
    }

-- what following it leaves
pub join_after : (old front mid now : List (ℤ × ℤ)) (o : Option (ℤ × ℤ)) (ends : ℤ × ℤ) (start end : ℤ) → AreBegun ends.0 old → HasSmallEnds ends → ends.0 ≤ℤ ends.1 → old ≡ front ++ option_to_list o → o ≡ Some (start, end) → end <ℤ (ends.0 -ℤ pos 1) → mid ≡ front ++ (start, end) ∷ [] → now ≡ mid ++ ends ∷ [] → Joins old now ends
join_after old front mid now o ends start end a s h e f l m n =
    let k : old ≡ front ++ (start, end) ∷ [] = e ∙ ap (λ q. front ++ option_to_list q) f in
    let j : now ≡ old ++ ends ∷ [] = n ∙ ap (λ (ys : List (ℤ × ℤ)). ys ++ ends ∷ []) (m ∙ sym k) in
    let p : AreApart (front ++ (start, end) ∷ []) = subst AreApart k a.maximal.apart in
    let some : start ≤ℤ end = (apart-back front ((start, end) ∷ []) p).0 in
    let b : AreBefore old (ends ∷ []) = subst (λ (zs : List (ℤ × ℤ)). AreBefore zs (ends ∷ [])) (sym k) (last_before front start end ends.0 ends.1 p some l) in
    record {
      begun = subst (AreBegun ends.0) (sym j) (follow_begun old ends.0 ends.1 h s b a);
      more = subst (λ (zs : List (ℤ × ℤ)). HaveMore old zs ends) (sym j) (follow_more old ends);
    }

-- what the first interval leaves
pub join_first : (old rest now : List (ℤ × ℤ)) (o : Option (ℤ × ℤ)) (ends : ℤ × ℤ) → HasSmallEnds ends → ends.0 ≤ℤ ends.1 → old ≡ rest ++ option_to_list o → o ≡ None → length rest ≡ 0 → now ≡ rest ++ ends ∷ [] → Joins old now ends
join_first old rest now o ends s h e f z n =
    let i : rest ≡ [] = nothing rest z in
    let w : old ≡ [] = e ∙ ap (λ q. rest ++ option_to_list q) f ∙ append-nil rest ∙ i in
    let j : now ≡ ends ∷ [] = n ∙ ap (λ (ys : List (ℤ × ℤ)). ys ++ ends ∷ []) i in
    record {
      begun = subst (AreBegun ends.0) (sym j) (record { maximal = record { apart = one_apart ends.0 ends.1 h; small = (s, tt) }; begun = (omega (arith, ints), tt) });
      more = subst (λ (zs : List (ℤ × ℤ)). HaveMore old zs ends) (sym j) (subst (λ (zs : List (ℤ × ℤ)). HaveMore zs (ends ∷ []) ends) (sym w) (follow_more [] ends));
    }
  where
    nothing : (xs : List (ℤ × ℤ)) → length xs ≡ 0 → xs ≡ []
    nothing [] e = refl
    nothing (x ∷ xs) e = absurd (omega arith)

-- nothing is left where nothing was
pub none_left : (old rest : List (ℤ × ℤ)) (o : Option (ℤ × ℤ)) → o ≡ None → (0 < length old → IsSome o) → old ≡ rest ++ option_to_list o → length rest ≡ 0
none_left old [] o n v e = refl
none_left old (x ∷ xs) o n v e = absurd (false≢true (subst IsSome n (v (subst (λ (zs : List (ℤ × ℤ)). 0 < length zs) (sym e) (omega arith)))))

-- ---- intervals that are apart as they stand

-- they are apart, and one number or more lies between the end and each
abbrev pub AreBehind : ℤ → List (ℤ × ℤ) → Type 0
AreBehind end is = Each (λ j. (end +ℤ pos 1) <ℤ j.0) is × AreApart is

-- one that follows the end, before those behind it
pub behind_next : (is : List (ℤ × ℤ)) (i : ℕ) (end : ℤ) → i < length is → Follows end (get_or is i (pos 0, pos 0)) → AreBehind (get_or is i (pos 0, pos 0)).1 (drop (i + 1) is) → AreBehind end (drop i is)
behind_next is i end h f b =
    let j = get_or is i (pos 0, pos 0) in
    let low = f.0 in
    let some = f.1 in
    subst (AreBehind end) (sym (drop_more is i (pos 0, pos 0) h))
    ((f.0, Each-weaker (λ (k : ℤ × ℤ). (j.1 +ℤ pos 1) <ℤ k.0) (λ (k : ℤ × ℤ). (end +ℤ pos 1) <ℤ k.0) (λ k l. omega (arith, ints)) (drop (i + 1) is) b.0), (f.1, b.0, b.1))

pub behind_none : (is : List (ℤ × ℤ)) (i : ℕ) (end : ℤ) → length is ≤ i → AreBehind end (drop i is)
behind_none is i end h = subst (AreBehind end) (sym (drop_all i is h)) (tt, tt)

-- ---- the loop

-- the intervals so far are united, and none of their union begins after the next
pub record Unites (sorted : List (ℤ × ℤ)) (i : ℕ) (now : List (ℤ × ℤ)) : Type 0 where
  pub maximal : AreMaximal now
  pub begun : i < length sorted → Each (λ j. j.0 ≤ℤ (get_or sorted i (pos 0, pos 0)).0) now
  pub same : HaveSame (take i sorted) now

pub Unites-none : (sorted now : List (ℤ × ℤ)) → now ≡ [] → Unites sorted 0 now
Unites-none sorted now e = subst (Unites sorted 0) (sym e) (record {
  maximal = record { apart = tt; small = tt };
  begun = λ h. tt;
  same = record { only = λ v r. absurd r.1; all = λ v r. absurd r.1 };
})

-- the intervals ascend by where they begin
abbrev pub Begin : List (ℤ × ℤ) → Type 0
Begin xs = (k : ℕ) (d : ℤ × ℤ) → k + 1 < length xs → (get_or xs k d).0 ≤ℤ (get_or xs (k + 1) d).0

not_before : (o p : Ordering) (x y : ℤ) → is_lt (ordering_then o p) ≡ false → MatchOrdering o (y <ℤ x) (y ≡ x) (x <ℤ y) → x ≤ℤ y
not_before Less p x y e m = absurd (false≢true (sym e))
not_before Equal p x y e m = omega (arith, ints)
not_before Greater p x y e m = omega (arith, ints)

pub begin_from_sorted : (xs : List (ℤ × ℤ)) → IsSorted (λ (x y : ℤ × ℤ). ordering_then (int_cmp x.0 y.0) (int_cmp x.1 y.1)) xs → Begin xs
begin_from_sorted xs s k d h =
    let x = get_or xs k d in
    let y = get_or xs (k + 1) d in
    not_before (int_cmp y.0 x.0) (int_cmp y.1 x.1) x.0 y.0 (s k d (omega arith) h) (int_ranks y.0 x.0)

pub next_begun : (sorted : List (ℤ × ℤ)) (i : ℕ) (now : List (ℤ × ℤ)) → i < length sorted → Unites sorted i now → AreBegun (get_or sorted i (pos 0, pos 0)).0 now
next_begun sorted i now h u = record { maximal = u.maximal; begun = u.begun h }

taken_only : (sorted old now : List (ℤ × ℤ)) (i : ℕ) (ends : ℤ × ℤ) → i < length sorted → ends ≡ get_or sorted i (pos 0, pos 0) → HaveMore old now ends → HaveSame (take i sorted) old → (v : ℤ) → LiesInOne now v → LiesInOne (take (i + 1) sorted) v
taken_only sorted old now i ends h e m s v r =
    subst (λ (zs : List (ℤ × ℤ)). LiesInOne zs v) (sym (take_more sorted i (pos 0, pos 0) h))
    (subst (λ (q : ℤ × ℤ). LiesInOne (take i sorted ++ q ∷ []) v) e
    (elim (m.only v r) [ inl k ↦ follow_all (take i sorted) ends v (inl (s.only v k)) | inr b ↦ follow_all (take i sorted) ends v (inr b) ]))

taken_all : (sorted old now : List (ℤ × ℤ)) (i : ℕ) (ends : ℤ × ℤ) → i < length sorted → ends ≡ get_or sorted i (pos 0, pos 0) → HaveMore old now ends → HaveSame (take i sorted) old → (v : ℤ) → LiesInOne (take (i + 1) sorted) v → LiesInOne now v
taken_all sorted old now i ends h e m s v r =
    let t : LiesInOne (take i sorted ++ ends ∷ []) v = subst (λ (q : ℤ × ℤ). LiesInOne (take i sorted ++ q ∷ []) v) (sym e) (subst (λ (zs : List (ℤ × ℤ)). LiesInOne zs v) (take_more sorted i (pos 0, pos 0) h) r) in
    m.all v (elim (follow_only (take i sorted) ends v t) [ inl k ↦ inl (s.all v k) | inr b ↦ inr b ])

pub Unites-more : (sorted old now : List (ℤ × ℤ)) (i : ℕ) → i < length sorted → Begin sorted → Joins old now (get_or sorted i (pos 0, pos 0)) → Unites sorted i old → Unites sorted (i + 1) now
Unites-more sorted old now i h b m u =
    let ends = get_or sorted i (pos 0, pos 0) in
    record {
      maximal = m.begun.maximal;
      begun = λ k. Each-weaker (λ (j : ℤ × ℤ). j.0 ≤ℤ ends.0) (λ (j : ℤ × ℤ). j.0 ≤ℤ (get_or sorted (i + 1) (pos 0, pos 0)).0) (λ j l. let n = b i (pos 0, pos 0) k in omega (arith, ints)) now m.begun.begun;
      same = record { only = taken_only sorted old now i ends h refl m.more u.same; all = taken_all sorted old now i ends h refl m.more u.same };
    }

-- the numbers of intervals in another order
lies_permuted : (xs ys : List (ℤ × ℤ)) → IsPermutation xs ys → (v : ℤ) → LiesInOne xs v → LiesInOne ys v
lies_permuted xs ys p v r = (r.0, Among-from_contains r.0 ys (Contains-permutation xs ys r.0 p (Contains-from_among r.0 xs r.1)), r.2)

pub Unites-all : (xs sorted now : List (ℤ × ℤ)) (i : ℕ) → IsPermutation xs sorted → length sorted ≤ i → Unites sorted i now → HaveSame xs now
Unites-all xs sorted now i p h u =
    let e : take i sorted ≡ sorted = take_all i sorted h in
    record {
      only = λ v r. lies_permuted sorted xs (IsPermutation-sym xs sorted p) v (subst (λ (zs : List (ℤ × ℤ)). LiesInOne zs v) e (u.same.only v r));
      all = λ v r. u.same.all v (subst (λ (zs : List (ℤ × ℤ)). LiesInOne zs v) (sym e) (lies_permuted xs sorted p v r));
    }

pub small_sorted : (xs sorted : List (ℤ × ℤ)) → IsPermutation xs sorted → Each HasSmallEnds xs → Each HasSmallEnds sorted
small_sorted xs sorted p s = Each-from_all HasSmallEnds sorted (All-permutation HasSmallEnds xs sorted p (All-from_each HasSmallEnds xs s))

-- the union of intervals collects their numbers
pub union_collects : (xs js ks : List (ℤ × ℤ)) → js ≡ xs → HaveSame js ks → Collects (expand ks) (LiesInOne xs)
union_collects xs js ks e h = record {
  only = λ v m. subst (λ (zs : List (ℤ × ℤ)). LiesInOne zs v) e (h.only v (expand-only ks v m));
  all = λ v r. expand-all ks v (h.all v (subst (λ (zs : List (ℤ × ℤ)). LiesInOne zs v) (sym e) r));
}
