-- Steps on intervals: what an atom keeps of them, what they have in common, the gaps between them, their union.
use Rattle.std.proofs.Common.{◌≡◌, ℕ, ◌+◌, ◌<◌, Bool, true, false, not, ◌&&◌, ◌==◌, ◌⊎◌, List, [], ◌∷◌, ◌++◌, length, get_or, take, ℤ, pos, ◌+ℤ◌, ◌-ℤ◌, ◌≤ℤ◌, ◌<ℤ◌, int_le, refl, sym, ◌∙◌, ap, subst, inl, inr, arith}
use Rattle.std.specs.Prelude.{if◌then◌else◌, int_lt}
use Rattle.std.specs.Int.{int_max, int_min}
use Rattle.std.specs.List.{filter, flat_map}
use Rattle.std.proofs.lemmas.Int.{ints}
use Rattle.std.proofs.lemmas.Bool.{and_from, and_parts, cases_Bool, cond-false, cond-true, not-true, not_from_false}
use Rattle.std.proofs.lemmas.List.{append-nil, append_assoc, take_more}
use Rattle.std.proofs.lemmas.List.Concat.{flat_map-append}
use Rattle.dp_base.specs.Lists.{Among, Each}
use Rattle.dp_base.proofs.Lists.{Among-append_cases, Among-append_left, Among-append_right, Each-among, Each-append, Each-append_parts, Each-from_among, list_any-at, list_any-some}
use Rattle.dp_domain.specs.declared.atom.Op.{Op}
use Rattle.dp_domain.specs.declared.atom.Op.TheVariants.{Ge, Le, Eq, Ne}
use Rattle.dp_domain.specs.Atoms.{Atomic, compares, meets, negated}
use Rattle.dp_domain.specs.Intervals.{HaveSame, after, before, failing_on, interval, met, met_of}
use Rattle.dp_domain.specs.Sets.{AreApart, AreMaximal, Collects, HasSmallEnds, LiesBetween, LiesInOne, expand}
use Rattle.dp_domain.specs.States.{fails_one}
use Rattle.dp_domain.proofs.AtomLaws.{le-from_test, meets-from_not, meets-ne, not-from_meets, order_cases, test-from_le}
use Rattle.dp_domain.proofs.ExpandLaws.{expand-all, expand-filter, expand-only, small_in}
use Rattle.dp_domain.proofs.IntervalLaws.{AreApart-among}

-- ---- one interval

pub interval-only : (first last v : ℤ) → LiesInOne (interval first last) v → LiesBetween (first, last) v
interval-only first last v lies = by (int_le first last) lies
  where
    by : (b : Bool) → LiesInOne (if b then (first, last) ∷ [] else []) v → LiesBetween (first, last) v
    by true (ends, inl e, between) = subst (λ (ends : ℤ × ℤ). LiesBetween ends v) e between
    by true (ends, inr here, between) = absurd here
    by false (ends, here, between) = absurd here

between_ends : (first last v : ℤ) → LiesBetween (first, last) v → first ≤ℤ last
between_ends first last v h = let a = h.0 in let b = h.1 in omega (arith, ints)

pub interval-all : (first last v : ℤ) → LiesBetween (first, last) v → LiesInOne (interval first last) v
interval-all first last v between = rw (test-from_le first last (between_ends first last v between)) ((first, last), inl refl, between)

pub interval-apart : (first last : ℤ) → AreApart (interval first last)
interval-apart first last = by (int_le first last) refl
  where
    by : (b : Bool) → int_le first last ≡ b → AreApart (if b then (first, last) ∷ [] else [])
    by true e = (le-from_test first last e, tt, tt)
    by false e = tt

pub interval-small : (first last : ℤ) → HasSmallEnds (first, last) → Each HasSmallEnds (interval first last)
interval-small first last s = by (int_le first last)
  where
    by : (b : Bool) → Each HasSmallEnds (if b then (first, last) ∷ [] else [])
    by true = (s, tt)
    by false = tt

-- the interval between small numbers is maximal
pub single_maximal : (is : List (ℤ × ℤ)) (first last : ℤ) → is ≡ interval first last → HasSmallEnds (first, last) → AreMaximal is
single_maximal is first last e s = subst AreMaximal (sym e) (record { apart = interval-apart first last; small = interval-small first last s })

-- and expands to the numbers between them
pub single_collects : (is : List (ℤ × ℤ)) (a b first last : ℤ) → a ≡ first → b ≡ last → is ≡ interval a b → Collects (expand is) (LiesBetween (first, last))
single_collects is a b first last e f g = record {
  only = λ v h.
      let r = interval-only a b v (subst (λ (zs : List (ℤ × ℤ)). LiesInOne zs v) g (expand-only is v h)) in
      let low = r.0 in
      let high = r.1 in
      (omega (arith, ints), omega (arith, ints));
  all = λ v h.
      let low = h.0 in
      let high = h.1 in
      expand-all is v (subst (λ (zs : List (ℤ × ℤ)). LiesInOne zs v) (sym g) (interval-all a b v (omega (arith, ints), omega (arith, ints))));
}

-- ---- several intervals

pub lies_left : (xs ys : List (ℤ × ℤ)) (v : ℤ) → LiesInOne xs v → LiesInOne (xs ++ ys) v
lies_left xs ys v lies = (lies.0, Among-append_left lies.0 xs ys lies.1, lies.2)

pub lies_right : (xs ys : List (ℤ × ℤ)) (v : ℤ) → LiesInOne ys v → LiesInOne (xs ++ ys) v
lies_right xs ys v lies = (lies.0, Among-append_right lies.0 xs ys lies.1, lies.2)

pub lies_cases : (xs ys : List (ℤ × ℤ)) (v : ℤ) → LiesInOne (xs ++ ys) v → LiesInOne xs v ⊎ LiesInOne ys v
lies_cases xs ys v lies = elim (Among-append_cases lies.0 xs ys lies.1) [
  | inl here ↦ inl (lies.0, here, lies.2)
  | inr here ↦ inr (lies.0, here, lies.2)
]

-- each of the first is before each of the others, with a number between them
abbrev pub AreBefore : List (ℤ × ℤ) → List (ℤ × ℤ) → Type 0
AreBefore xs ys = (i j : ℤ × ℤ) → Among i xs → Among j ys → (i.1 +ℤ pos 1) <ℤ j.0

-- intervals before others are apart with them
pub apart-append : (xs ys : List (ℤ × ℤ)) → AreApart xs → AreApart ys → AreBefore xs ys → AreApart (xs ++ ys)
apart-append [] ys p q b = q
apart-append (x ∷ xs) ys p q b = (
  p.0,
  Each-append (λ (j : ℤ × ℤ). (x.1 +ℤ pos 1) <ℤ j.0) xs ys p.1 (Each-from_among (λ (j : ℤ × ℤ). (x.1 +ℤ pos 1) <ℤ j.0) ys (λ j m. b x j (inl refl) m)),
  apart-append xs ys p.2 q (λ i j m n. b i j (inr m) n),
)

-- the first of intervals that are apart
pub apart-front : (xs ys : List (ℤ × ℤ)) → AreApart (xs ++ ys) → AreApart xs
apart-front [] ys p = tt
apart-front (x ∷ xs) ys p = (p.0, (Each-append_parts (λ (j : ℤ × ℤ). (x.1 +ℤ pos 1) <ℤ j.0) xs ys p.1).0, apart-front xs ys p.2)

-- the last of intervals that are apart
pub apart-back : (xs ys : List (ℤ × ℤ)) → AreApart (xs ++ ys) → AreApart ys
apart-back [] ys p = p
apart-back (x ∷ xs) ys p = apart-back xs ys p.2

-- the first are before the others
pub apart-before : (xs ys : List (ℤ × ℤ)) → AreApart (xs ++ ys) → AreBefore xs ys
apart-before [] ys p i j m n = absurd m
apart-before (x ∷ xs) ys p i j (inl e) n =
    let h : (x.1 +ℤ pos 1) <ℤ j.0 = Each-among (λ (k : ℤ × ℤ). (x.1 +ℤ pos 1) <ℤ k.0) ys (Each-append_parts (λ (k : ℤ × ℤ). (x.1 +ℤ pos 1) <ℤ k.0) xs ys p.1).1 j n in
    subst (λ (k : ℤ × ℤ). (k.1 +ℤ pos 1) <ℤ j.0) (sym e) h
apart-before (x ∷ xs) ys p i j (inr m) n = apart-before xs ys p.2 i j m n

-- the ends of an interval that has a number lie in it
pub first_in : (is : List (ℤ × ℤ)) (j : ℤ × ℤ) → AreApart is → Among j is → LiesInOne is j.0
first_in is j p m = (j, m, (omega (arith, ints), AreApart-among is p j m))

pub last_in : (is : List (ℤ × ℤ)) (j : ℤ × ℤ) → AreApart is → Among j is → LiesInOne is j.1
last_in is j p m = (j, m, (AreApart-among is p j m, omega (arith, ints)))

-- ---- a cut of each interval by one test

-- what f keeps of an interval are maximal intervals of its numbers that pass the test
pub record IsCut (f : ℤ × ℤ → List (ℤ × ℤ)) (p : ℤ → Bool) : Type 0 where
  pub apart : (i : ℤ × ℤ) → i.0 ≤ℤ i.1 → AreApart (f i)
  pub only : (i : ℤ × ℤ) (v : ℤ) → LiesInOne (f i) v → LiesBetween i v × (p v ≡ true)
  pub all : (i : ℤ × ℤ) (v : ℤ) → LiesBetween i v → p v ≡ true → LiesInOne (f i) v

pub cut-only : (f : ℤ × ℤ → List (ℤ × ℤ)) (p : ℤ → Bool) → IsCut f p → (is : List (ℤ × ℤ)) (v : ℤ) → LiesInOne (flat_map f is) v → LiesInOne is v × (p v ≡ true)
cut-only f p c [] v r = absurd r.1
cut-only f p c (i ∷ is) v r = elim (lies_cases (f i) (flat_map f is) v r) [
  | inl h ↦ let s = c.only i v h in ((i, inl refl, s.0), s.1)
  | inr h ↦ let s = cut-only f p c is v h in ((s.0.0, inr s.0.1, s.0.2), s.1)
]

pub cut-all : (f : ℤ × ℤ → List (ℤ × ℤ)) (p : ℤ → Bool) → IsCut f p → (is : List (ℤ × ℤ)) (v : ℤ) → LiesInOne is v → p v ≡ true → LiesInOne (flat_map f is) v
cut-all f p c [] v r t = absurd r.1
cut-all f p c (i ∷ is) v (ends, inl e, b) t = lies_left (f i) (flat_map f is) v (c.all i v (subst (λ (q : ℤ × ℤ). LiesBetween q v) e b) t)
cut-all f p c (i ∷ is) v (ends, inr m, b) t = lies_right (f i) (flat_map f is) v (cut-all f p c is v (ends, m, b) t)

kept_before : (f : ℤ × ℤ → List (ℤ × ℤ)) (p : ℤ → Bool) → IsCut f p → (i : ℤ × ℤ) (is : List (ℤ × ℤ)) → AreApart (i ∷ is) → AreApart (flat_map f is) → AreBefore (f i) (flat_map f is)
kept_before f p c i is a b j k m n =
    let low = (c.only i j.1 (last_in (f i) j (c.apart i a.0) m)).0.1 in
    let r = (cut-only f p c is k.0 (first_in (flat_map f is) k b n)).0 in
    let start = r.2.0 in
    let apart : (i.1 +ℤ pos 1) <ℤ r.0.0 = Each-among (λ (q : ℤ × ℤ). (i.1 +ℤ pos 1) <ℤ q.0) is a.1 r.0 r.1 in
    omega (arith, ints)

pub cut-apart : (f : ℤ × ℤ → List (ℤ × ℤ)) (p : ℤ → Bool) → IsCut f p → (is : List (ℤ × ℤ)) → AreApart is → AreApart (flat_map f is)
cut-apart f p c [] a = tt
cut-apart f p c (i ∷ is) a = let b = cut-apart f p c is a.2 in apart-append (f i) (flat_map f is) (c.apart i a.0) b (kept_before f p c i is a b)

-- what is kept of maximal intervals are maximal intervals
pub cut-maximal : (f : ℤ × ℤ → List (ℤ × ℤ)) (p : ℤ → Bool) → IsCut f p → (is : List (ℤ × ℤ)) → AreMaximal is → AreMaximal (flat_map f is)
cut-maximal f p c is m =
    let a = cut-apart f p c is m.apart in
    let small = λ (v : ℤ) (r : LiesInOne (flat_map f is) v). small_in is m.small v (cut-only f p c is v r).0 in
    record {
      apart = a;
      small = Each-from_among HasSmallEnds (flat_map f is) (λ j n. (small j.0 (first_in (flat_map f is) j a n), small j.1 (last_in (flat_map f is) j a n)));
    }

-- and it expands to what passes the test
pub cut-expand : (f : ℤ × ℤ → List (ℤ × ℤ)) (p : ℤ → Bool) → IsCut f p → (is : List (ℤ × ℤ)) → AreApart is → expand (flat_map f is) ≡ filter p (expand is)
cut-expand f p c is a = expand-filter p is (flat_map f is) a (cut-apart f p c is a) (cut-only f p c is) (cut-all f p c is)

-- ---- the lesser and the greater

pub lesser : (x m : ℤ) → (int_min x m ≤ℤ x) × (int_min x m ≤ℤ m) × ((int_min x m ≡ x) ⊎ (int_min x m ≡ m))
lesser x m = elim (cases_Bool (int_lt m x)) [
  | inl e ↦ let c : int_min x m ≡ m = cond-true (int_lt m x) m x e in (omega (arith, ints), omega (arith, ints), inr c)
  | inr e ↦ let c : int_min x m ≡ x = cond-false (int_lt m x) m x e in (omega (arith, ints), omega (arith, ints), inl c)
]

pub greater : (x m : ℤ) → (x ≤ℤ int_max x m) × (m ≤ℤ int_max x m) × ((int_max x m ≡ x) ⊎ (int_max x m ≡ m))
greater x m = elim (cases_Bool (int_lt m x)) [
  | inl e ↦ let c : int_max x m ≡ x = cond-true (int_lt m x) x m e in (omega (arith, ints), omega (arith, ints), inl c)
  | inr e ↦ let c : int_max x m ≡ m = cond-false (int_lt m x) x m e in (omega (arith, ints), omega (arith, ints), inr c)
]

pub under_both : (v x m : ℤ) → v ≤ℤ x → v ≤ℤ m → v ≤ℤ int_min x m
under_both v x m h g = elim (lesser x m).2 [ inl e ↦ subst (λ (y : ℤ). v ≤ℤ y) (sym e) h | inr e ↦ subst (λ (y : ℤ). v ≤ℤ y) (sym e) g ]

pub over_both : (v x m : ℤ) → x ≤ℤ v → m ≤ℤ v → int_max x m ≤ℤ v
over_both v x m h g = elim (greater x m).2 [ inl e ↦ subst (λ (y : ℤ). y ≤ℤ v) (sym e) h | inr e ↦ subst (λ (y : ℤ). y ≤ℤ v) (sym e) g ]

pub le_trans : (x y z : ℤ) → x ≤ℤ y → y ≤ℤ z → x ≤ℤ z
le_trans x y z h g = omega (arith, ints)

pub from_max : (x m v : ℤ) → int_max x m ≤ℤ v → (x ≤ℤ v) × (m ≤ℤ v)
from_max x m v h = let g = greater x m in (le_trans x (int_max x m) v g.0 h, le_trans m (int_max x m) v g.1 h)

pub from_min : (x m v : ℤ) → v ≤ℤ int_min x m → (v ≤ℤ x) × (v ≤ℤ m)
from_min x m v h = let g = lesser x m in (le_trans v (int_min x m) x h g.0, le_trans v (int_min x m) m h g.1)

-- ---- what an atom keeps

cut_ge : (x : ℤ) → IsCut (met_of Ge x) (λ v. compares Ge v x)
cut_ge x = record {
  apart = λ i h. interval-apart (int_max i.0 x) i.1;
  only = λ i v r. let b = interval-only (int_max i.0 x) i.1 v r in let m = from_max i.0 x v b.0 in ((m.0, b.1), test-from_le x v m.1);
  all = λ i v b t. interval-all (int_max i.0 x) i.1 v (over_both v i.0 x b.0 (le-from_test x v t), b.1);
}

cut_le : (x : ℤ) → IsCut (met_of Le x) (λ v. compares Le v x)
cut_le x = record {
  apart = λ i h. interval-apart i.0 (int_min i.1 x);
  only = λ i v r. let b = interval-only i.0 (int_min i.1 x) v r in let m = from_min i.1 x v b.1 in ((b.0, m.0), test-from_le v x m.1);
  all = λ i v b t. interval-all i.0 (int_min i.1 x) v (b.0, under_both v i.1 x b.1 (le-from_test v x t));
}

cut_eq : (x : ℤ) → IsCut (met_of Eq x) (λ v. compares Eq v x)
cut_eq x = record {
  apart = λ i h. interval-apart (int_max i.0 x) (int_min i.1 x);
  only = λ i v r.
      let b = interval-only (int_max i.0 x) (int_min i.1 x) v r in
      let m = from_max i.0 x v b.0 in
      let n = from_min i.1 x v b.1 in
      ((m.0, n.0), and_from (int_le v x) (int_le x v) (test-from_le v x n.1) (test-from_le x v m.1));
  all = λ i v b t.
      let s = and_parts (int_le v x) (int_le x v) t in
      interval-all (int_max i.0 x) (int_min i.1 x) v (over_both v i.0 x b.0 (le-from_test x v s.1), under_both v i.1 x b.1 (le-from_test v x s.0));
}

other_below : (v x : ℤ) → v ≤ℤ (x -ℤ pos 1) → v ≡ x → ⊥
other_below v x h e = absurd (omega (arith, ints))

other_above : (v x : ℤ) → (x +ℤ pos 1) ≤ℤ v → v ≡ x → ⊥
other_above v x h e = absurd (omega (arith, ints))

around_apart : (x : ℤ) (i : ℤ × ℤ) → AreBefore (before x i) (after x i)
around_apart x i j k m n =
    let b = interval-only i.0 (int_min i.1 (x -ℤ pos 1)) j.1 (last_in (before x i) j (interval-apart i.0 (int_min i.1 (x -ℤ pos 1))) m) in
    let a = interval-only (int_max i.0 (x +ℤ pos 1)) i.1 k.0 (first_in (after x i) k (interval-apart (int_max i.0 (x +ℤ pos 1)) i.1) n) in
    let low = (from_min i.1 (x -ℤ pos 1) j.1 b.1).1 in
    let high = (from_max i.0 (x +ℤ pos 1) k.0 a.0).1 in
    omega (arith, ints)

around_only : (x : ℤ) (i : ℤ × ℤ) (v : ℤ) → LiesInOne (before x i ++ after x i) v → LiesBetween i v × (compares Ne v x ≡ true)
around_only x i v r = elim (lies_cases (before x i) (after x i) v r) [
  | inl h ↦
      let b = interval-only i.0 (int_min i.1 (x -ℤ pos 1)) v h in
      let m = from_min i.1 (x -ℤ pos 1) v b.1 in
      ((b.0, m.0), (meets-ne 0 x v).1 (other_below v x m.1))
  | inr h ↦
      let b = interval-only (int_max i.0 (x +ℤ pos 1)) i.1 v h in
      let m = from_max i.0 (x +ℤ pos 1) v b.0 in
      ((m.0, b.1), (meets-ne 0 x v).1 (other_above v x m.1))
]

less_by : (v x : ℤ) → v <ℤ x → v ≤ℤ (x -ℤ pos 1)
less_by v x h = omega (arith, ints)

more_by : (v x : ℤ) → x <ℤ v → (x +ℤ pos 1) ≤ℤ v
more_by v x h = omega (arith, ints)

around_all : (x : ℤ) (i : ℤ × ℤ) (v : ℤ) → LiesBetween i v → compares Ne v x ≡ true → LiesInOne (before x i ++ after x i) v
around_all x i v b t = elim (order_cases v x) [
  | inl e ↦ absurd ((meets-ne 0 x v).0 t e)
  | inr o ↦ elim o [
    | inl l ↦ lies_left (before x i) (after x i) v (interval-all i.0 (int_min i.1 (x -ℤ pos 1)) v (b.0, under_both v i.1 (x -ℤ pos 1) b.1 (less_by v x l)))
    | inr l ↦ lies_right (before x i) (after x i) v (interval-all (int_max i.0 (x +ℤ pos 1)) i.1 v (over_both v i.0 (x +ℤ pos 1) b.0 (more_by v x l), b.1))
  ]
]

cut_ne : (x : ℤ) → IsCut (met_of Ne x) (λ v. compares Ne v x)
cut_ne x = record {
  apart = λ i h. apart-append (before x i) (after x i) (interval-apart i.0 (int_min i.1 (x -ℤ pos 1))) (interval-apart (int_max i.0 (x +ℤ pos 1)) i.1) (around_apart x i);
  only = around_only x;
  all = around_all x;
}

cut_op : (o : Op) (x : ℤ) → IsCut (met_of o x) (λ v. compares o v x)
cut_op Ge x = cut_ge x
cut_op Le x = cut_le x
cut_op Eq x = cut_eq x
cut_op Ne x = cut_ne x

-- what meets an atom is a cut
pub met_is_cut : (a : Atomic) → IsCut (met_of a.op a.value) (meets a)
met_is_cut a = cut_op a.op a.value

-- maximal intervals of which an atom keeps maximal intervals
pub met-maximal : (a : Atomic) (is : List (ℤ × ℤ)) → AreMaximal is → AreMaximal (met a is)
met-maximal a is m = cut-maximal (met_of a.op a.value) (meets a) (met_is_cut a) is m

-- which expand to the numbers that meet it
pub met-expand : (a : Atomic) (is : List (ℤ × ℤ)) → AreApart is → expand (met a is) ≡ filter (meets a) (expand is)
met-expand a is p = cut-expand (met_of a.op a.value) (meets a) (met_is_cut a) is p

-- ---- what fails one of the atoms

failing_only : (x : ℕ) (is : List (ℤ × ℤ)) (a : Atomic) (v : ℤ) → LiesInOne (failing_on x is a) v → LiesInOne is v × (((a.var == x) && not (meets a v)) ≡ true)
failing_only x is a v r = by (a.var == x) refl r
  where
    by : (b : Bool) → (a.var == x) ≡ b → LiesInOne (if b then met (negated a) is else []) v → LiesInOne is v × (((a.var == x) && not (meets a v)) ≡ true)
    by true e r =
        let s = cut-only (met_of (negated a).op (negated a).value) (meets (negated a)) (met_is_cut (negated a)) is v r in
        (s.0, and_from (a.var == x) (not (meets a v)) e (not_from_false (meets a v) (not-from_meets a v s.1)))
    by false e r = absurd r.1

failing_all : (x : ℕ) (is : List (ℤ × ℤ)) (a : Atomic) (v : ℤ) → LiesInOne is v → ((a.var == x) && not (meets a v)) ≡ true → LiesInOne (failing_on x is a) v
failing_all x is a v r t =
    let s = and_parts (a.var == x) (not (meets a v)) t in
    let m = cut-all (met_of (negated a).op (negated a).value) (meets (negated a)) (met_is_cut (negated a)) is v r (meets-from_not a v (not-true (meets a v) s.1)) in
    subst (λ (b : Bool). LiesInOne (if b then met (negated a) is else []) v) (sym s.0) m

pub fails-only : (x : ℕ) (is : List (ℤ × ℤ)) (atoms : List Atomic) (v : ℤ) → LiesInOne (flat_map (failing_on x is) atoms) v → LiesInOne is v × (fails_one x atoms v ≡ true)
fails-only x is [] v r = absurd r.1
fails-only x is (a ∷ atoms) v r = elim (lies_cases (failing_on x is a) (flat_map (failing_on x is) atoms) v r) [
  | inl h ↦ let s = failing_only x is a v h in (s.0, list_any-at (λ (b : Atomic). (b.var == x) && not (meets b v)) (a ∷ atoms) a (inl refl) s.1)
  | inr h ↦
      let s = fails-only x is atoms v h in
      let t = list_any-some (λ (b : Atomic). (b.var == x) && not (meets b v)) atoms s.1 in
      (s.0, list_any-at (λ (b : Atomic). (b.var == x) && not (meets b v)) (a ∷ atoms) t.0 (inr t.1) t.2)
]

fails_at : (x : ℕ) (is : List (ℤ × ℤ)) (atoms : List Atomic) (v : ℤ) (a : Atomic) → Among a atoms → LiesInOne is v → ((a.var == x) && not (meets a v)) ≡ true → LiesInOne (flat_map (failing_on x is) atoms) v
fails_at x is [] v a m r t = absurd m
fails_at x is (b ∷ atoms) v a (inl e) r t = lies_left (failing_on x is b) (flat_map (failing_on x is) atoms) v (subst (λ (c : Atomic). LiesInOne (failing_on x is c) v) e (failing_all x is a v r t))
fails_at x is (b ∷ atoms) v a (inr m) r t = lies_right (failing_on x is b) (flat_map (failing_on x is) atoms) v (fails_at x is atoms v a m r t)

pub fails-all : (x : ℕ) (is : List (ℤ × ℤ)) (atoms : List Atomic) (v : ℤ) → LiesInOne is v → fails_one x atoms v ≡ true → LiesInOne (flat_map (failing_on x is) atoms) v
fails-all x is atoms v r t = let s = list_any-some (λ (b : Atomic). (b.var == x) && not (meets b v)) atoms t in fails_at x is atoms v s.0 s.1 r s.2

failing_small : (x : ℕ) (is : List (ℤ × ℤ)) (a : Atomic) → AreMaximal is → Each HasSmallEnds (failing_on x is a)
failing_small x is a m = by (a.var == x)
  where
    by : (b : Bool) → Each HasSmallEnds (if b then met (negated a) is else [])
    by true = (met-maximal (negated a) is m).small
    by false = tt

-- what fails the atoms has small ends
pub fails-small : (x : ℕ) (is : List (ℤ × ℤ)) (atoms : List Atomic) → AreMaximal is → Each HasSmallEnds (flat_map (failing_on x is) atoms)
fails-small x is [] m = tt
fails-small x is (a ∷ atoms) m = Each-append HasSmallEnds (failing_on x is a) (flat_map (failing_on x is) atoms) (failing_small x is a m) (fails-small x is atoms m)

-- the union of what fails the atoms expands to the numbers that fail one
pub fails-expand : (x : ℕ) (is js ks : List (ℤ × ℤ)) (atoms : List Atomic) → AreMaximal is → js ≡ flat_map (failing_on x is) atoms → AreMaximal ks → HaveSame js ks → expand ks ≡ filter (fails_one x atoms) (expand is)
fails-expand x is js ks atoms m e n h =
    expand-filter (fails_one x atoms) is ks m.apart n.apart
    (λ v r. fails-only x is atoms v (subst (λ (zs : List (ℤ × ℤ)). LiesInOne zs v) e (h.only v r)))
    (λ v r t. h.all v (subst (λ (zs : List (ℤ × ℤ)). LiesInOne zs v) (sym e) (fails-all x is atoms v r t)))

-- ---- one interval more in a loop

-- one interval more
pub flat_more : {A B : Type 0} (f : A → List B) (xs : List A) (i : ℕ) (d : A) (first old now : List B) → i < length xs → old ≡ first ++ flat_map f (take i xs) → now ≡ old ++ f (get_or xs i d) → now ≡ first ++ flat_map f (take (i + 1) xs)
flat_more f xs i d first old now h k n =
    n ∙ ap (λ ys. ys ++ f (get_or xs i d)) k
    ∙ append_assoc first (flat_map f (take i xs)) (f (get_or xs i d))
    ∙ ap (λ ys. first ++ ys) (last_more (f (get_or xs i d)) (flat_map f (take i xs)) ∙ sym (flat_map-append f (take i xs) (get_or xs i d ∷ [])) ∙ ap (flat_map f) (sym (take_more xs i d h)))
  where
    last_more : {B : Type 0} (ys zs : List B) → zs ++ ys ≡ zs ++ (ys ++ [])
    last_more ys zs = ap (λ ws. zs ++ ws) (sym (append-nil ys))

pub same_interval : (a b c d : ℤ) → a ≡ c → b ≡ d → interval a b ≡ interval c d
same_interval a b c d e f = ap (λ (x : ℤ). interval x b) e ∙ ap (λ (y : ℤ). interval c y) f

-- the part before a value, and then the part after it
pub around_step : (v w : ℤ) (i : ℤ × ℤ) (old mid now : List (ℤ × ℤ)) → w ≡ v → mid ≡ old ++ before w i → now ≡ mid ++ after w i → now ≡ old ++ (before v i ++ after v i)
around_step v w i old mid now e f g =
    g ∙ ap (λ ys. ys ++ after w i) f ∙ append_assoc old (before w i) (after w i) ∙ ap (λ (x : ℤ). old ++ (before x i ++ after x i)) e
