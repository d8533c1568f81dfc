-- Laws of intervals: those of ascending values hold exactly these values, and no two of them touch.
use Rattle.std.proofs.Common.{◌≡◌, Bool, true, false, cond, ◌⊎◌, List, [], ◌∷◌, ℤ, pos, ◌+ℤ◌, ◌≤ℤ◌, ◌<ℤ◌, refl, sym, subst, inl, inr, arith}
use Rattle.std.proofs.lemmas.Int.{ints}
use Rattle.dp_base.specs.Lists.{Among, Each}
use Rattle.dp_base.proofs.Lists.{Each-among, Each-from_among, Each-weaker}
use Rattle.dp_domain.specs.Sets.{IsAscending, Collects, LiesBetween, LiesInOne, AreApart, is_next, with_value, intervals_of}
use Rattle.dp_domain.proofs.AtomLaws.{le-from_test, lt-from_test, order_cases}

-- an interval of a list of intervals apart has a number
pub AreApart-among : (is : List (ℤ × ℤ)) → AreApart is → (j : ℤ × ℤ) → Among j is → j.0 ≤ℤ j.1
AreApart-among [] p j m = absurd m
AreApart-among (i ∷ is) p j (inl e) = subst (λ (q : ℤ × ℤ). q.0 ≤ℤ q.1) (sym e) p.0
AreApart-among (i ∷ is) p j (inr m) = AreApart-among is p.2 j m

starts_later : (x : ℤ) (xs : List ℤ) (is : List (ℤ × ℤ)) → Each (λ y. x <ℤ y) xs → Collects xs (LiesInOne is) → AreApart is → Each (λ j. x <ℤ j.0) is
starts_later x xs is a c p = Each-from_among (λ (j : ℤ × ℤ). x <ℤ j.0) is (λ j m.
    Each-among (λ y. x <ℤ y) xs a j.0 (c.all j.0 (j, m, (omega (arith, ints), AreApart-among is p j m))))

-- ---- no two touch

apart_step : (x : ℤ) (i : ℤ × ℤ) (is : List (ℤ × ℤ)) (b : Bool) → is_next x i.0 ≡ b → x <ℤ i.0 → AreApart (i ∷ is) → AreApart (cond b ((x, i.1) ∷ is) ((x, x) ∷ i ∷ is))
apart_step x i is true e h p = (let q = p.0 in omega (arith, ints), p.1, p.2)
apart_step x i is false e h p =
    let l : (x +ℤ pos 1) <ℤ i.0 = lt-from_test i.0 (x +ℤ pos 1) e in
    let q = p.0 in
    (omega (arith, ints), (l, Each-weaker (λ (j : ℤ × ℤ). (i.1 +ℤ pos 1) <ℤ j.0) (λ (j : ℤ × ℤ). (x +ℤ pos 1) <ℤ j.0) (λ j k. omega (arith, ints)) is p.1), p)

apart_front : (x : ℤ) (is : List (ℤ × ℤ)) → Each (λ j. x <ℤ j.0) is → AreApart is → AreApart (with_value x is)
apart_front x [] s p = (omega (arith, ints), tt, tt)
apart_front x (i ∷ is) s p = apart_step x i is (is_next x i.0) refl s.0 p

-- ---- they hold the values

-- the number is the value at the front, or lies in one of the intervals
abbrev Holds : ℤ → List (ℤ × ℤ) → ℤ → Type 0
Holds x is v = (v ≡ x) ⊎ LiesInOne is v

in_first : (x v : ℤ) (i ends : ℤ × ℤ) (is : List (ℤ × ℤ)) → x <ℤ i.0 → Among ends (i ∷ is) → LiesBetween ends v → LiesInOne ((x, i.1) ∷ is) v
in_first x v i ends is h (inl e) b =
    let k : LiesBetween i v = subst (λ (q : ℤ × ℤ). LiesBetween q v) e b in
    let k0 = k.0 in
    ((x, i.1), inl refl, (omega (arith, ints), k.1))
in_first x v i ends is h (inr m) b = (ends, inr m, b)

into_step : (x v : ℤ) (i : ℤ × ℤ) (is : List (ℤ × ℤ)) (b : Bool) → x <ℤ i.0 → i.0 ≤ℤ i.1 → Holds x (i ∷ is) v → LiesInOne (cond b ((x, i.1) ∷ is) ((x, x) ∷ i ∷ is)) v
into_step x v i is true h p (inl e) = ((x, i.1), inl refl, (omega (arith, ints), omega (arith, ints)))
into_step x v i is true h p (inr r) = in_first x v i r.0 is h r.1 r.2
into_step x v i is false h p (inl e) = ((x, x), inl refl, (omega (arith, ints), omega (arith, ints)))
into_step x v i is false h p (inr r) = (r.0, inr r.1, r.2)

into_front : (x v : ℤ) (is : List (ℤ × ℤ)) → Each (λ j. x <ℤ j.0) is → AreApart is → Holds x is v → LiesInOne (with_value x is) v
into_front x v [] s p (inl e) = ((x, x), inl refl, (omega (arith, ints), omega (arith, ints)))
into_front x v [] s p (inr r) = absurd r.1
into_front x v (i ∷ is) s p h = into_step x v i is (is_next x i.0) s.0 p.0 h

from_joined : (x v : ℤ) (i ends : ℤ × ℤ) (is : List (ℤ × ℤ)) → i.0 ≤ℤ (x +ℤ pos 1) → Among ends ((x, i.1) ∷ is) → LiesBetween ends v → Holds x (i ∷ is) v
from_joined x v i ends is h (inl e) b =
    let k : LiesBetween (x, i.1) v = subst (λ (q : ℤ × ℤ). LiesBetween q v) e b in
    let k0 = k.0 in
    elim (order_cases v x) [
      | inl f ↦ inl f
      | inr f ↦ elim f [ inl l ↦ absurd (omega (arith, ints)) | inr l ↦ inr (i, inl refl, (omega (arith, ints), k.1)) ]
    ]
from_joined x v i ends is h (inr m) b = inr (ends, inr m, b)

from_single : (x v : ℤ) (ends : ℤ × ℤ) (is : List (ℤ × ℤ)) → Among ends ((x, x) ∷ is) → LiesBetween ends v → Holds x is v
from_single x v ends is (inl e) b =
    let k : LiesBetween (x, x) v = subst (λ (q : ℤ × ℤ). LiesBetween q v) e b in
    let k0 = k.0 in
    let k1 = k.1 in
    inl (omega (arith, ints))
from_single x v ends is (inr m) b = inr (ends, m, b)

from_step : (x v : ℤ) (i : ℤ × ℤ) (is : List (ℤ × ℤ)) (b : Bool) → is_next x i.0 ≡ b → LiesInOne (cond b ((x, i.1) ∷ is) ((x, x) ∷ i ∷ is)) v → Holds x (i ∷ is) v
from_step x v i is true e r = from_joined x v i r.0 is (le-from_test i.0 (x +ℤ pos 1) e) r.1 r.2
from_step x v i is false e r = from_single x v r.0 (i ∷ is) r.1 r.2

from_front : (x v : ℤ) (is : List (ℤ × ℤ)) → LiesInOne (with_value x is) v → Holds x is v
from_front x v [] r = from_single x v r.0 [] r.1 r.2
from_front x v (i ∷ is) r = from_step x v i is (is_next x i.0) refl r

push_holds : (x v : ℤ) (xs : List ℤ) (is : List (ℤ × ℤ)) → Collects xs (LiesInOne is) → Among v (x ∷ xs) → Holds x is v
push_holds x v xs is c (inl e) = inl e
push_holds x v xs is c (inr m) = inr (c.only v m)

holds_among : (x v : ℤ) (xs : List ℤ) (is : List (ℤ × ℤ)) → Collects xs (LiesInOne is) → Holds x is v → Among v (x ∷ xs)
holds_among x v xs is c (inl e) = inl e
holds_among x v xs is c (inr r) = inr (c.all v r)

intervals_hold : (xs : List ℤ) → IsAscending xs → Collects xs (LiesInOne (intervals_of xs)) × AreApart (intervals_of xs)
intervals_hold [] a = (record { only = λ v h. absurd h; all = λ v r. absurd r.1 }, tt)
intervals_hold (x ∷ xs) a =
    let r = intervals_hold xs a.1 in
    let is = intervals_of xs in
    let s = starts_later x xs is a.0 r.0 r.1 in (
      record { only = λ v h. into_front x v is s r.1 (push_holds x v xs is r.0 h); all = λ v h. holds_among x v xs is r.0 (from_front x v is h) },
      apart_front x is s r.1,
    )

-- the values are exactly the numbers of their intervals
pub intervals_of-numbers : (xs : List ℤ) → IsAscending xs → Collects xs (LiesInOne (intervals_of xs))
intervals_of-numbers xs a = (intervals_hold xs a).0

-- the intervals are not empty, and no two touch
pub intervals_of-apart : (xs : List ℤ) → IsAscending xs → AreApart (intervals_of xs)
intervals_of-apart xs a = (intervals_hold xs a).1
