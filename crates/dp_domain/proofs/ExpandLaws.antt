-- Laws of the expansion of intervals: which numbers it has, their order, its inverse, its ends.
use Rattle.std.proofs.Common.{◌≡◌, ℕ, zero, suc, ◌-◌, Bool, true, false, ◌⊎◌, List, [], ◌∷◌, ◌++◌, length, ℤ, pos, negsuc, ◌+ℤ◌, ◌-ℤ◌, ◌≤ℤ◌, ◌<ℤ◌, Some, None, slice_get, refl, sym, ◌∙◌, ap, subst, inl, inr, arith}
use Rattle.std.specs.Prelude.{option_map, ◌==◌}
use Rattle.std.specs.List.{filter}
use Rattle.std.proofs.lemmas.Int.{ints}
use Rattle.std.proofs.lemmas.Bool.{cond-false, cond-true, ne_eqb}
use Rattle.dp_base.specs.Lists.{Among, Each}
use Rattle.dp_base.proofs.Lists.{Among-append_cases, Among-append_left, Among-append_right, Among-filter_all, Among-filter_only, Each-among, Each-append, Each-from_among}
use Rattle.dp_domain.specs.Sets.{AreApart, AreMaximal, Collects, HasSmallEnds, IsAscending, IsDomain, IsSmall, LiesBetween, LiesInOne, count_of, expand, greatest, intervals_of, is_next, least, numbers_between, numbers_from, with_value}
use Rattle.dp_domain.specs.States.{is_nil}
use Rattle.dp_domain.proofs.AtomLaws.{order_cases, test-from_le, test-from_lt}
use Rattle.dp_domain.proofs.SetLaws.{IsAscending-filter, ascending-same, greatest-is, least-is}
use Rattle.dp_domain.proofs.StateLaws.{is_nil-among}

-- ---- so many numbers

from_only : (a : ℤ) (n : ℕ) (v : ℤ) → Among v (numbers_from a n) → (a ≤ℤ v) × (v <ℤ (a +ℤ pos n))
from_only a zero v h = absurd h
from_only a (suc n) v (inl e) = (omega (arith, ints), omega (arith, ints))
from_only a (suc n) v (inr h) =
    let r = from_only (a +ℤ pos 1) n v h in
    let low = r.0 in
    let high = r.1 in
    (omega (arith, ints), omega (arith, ints))

from_all : (a : ℤ) (n : ℕ) (v : ℤ) → a ≤ℤ v → v <ℤ (a +ℤ pos n) → Among v (numbers_from a n)
from_all a zero v h k = absurd (omega (arith, ints))
from_all a (suc n) v h k = elim (order_cases v a) [
  | inl e ↦ inl e
  | inr f ↦ elim f [ inl l ↦ absurd (omega (arith, ints)) | inr l ↦ inr (from_all (a +ℤ pos 1) n v (omega (arith, ints)) (omega (arith, ints))) ]
]

from_ascending : (a : ℤ) (n : ℕ) → IsAscending (numbers_from a n)
from_ascending a zero = tt
from_ascending a (suc n) = (
  Each-from_among (λ y. a <ℤ y) (numbers_from (a +ℤ pos 1) n) (λ v h. let low = (from_only (a +ℤ pos 1) n v h).0 in omega (arith, ints)),
  from_ascending (a +ℤ pos 1) n,
)

-- one number more at the end
pub from_push : (a : ℤ) (n : ℕ) → numbers_from a (suc n) ≡ numbers_from a n ++ (a +ℤ pos n) ∷ []
from_push a zero = let e : a ≡ a +ℤ pos zero = omega (arith, ints) in ap (λ (v : ℤ). v ∷ []) e
from_push a (suc n) =
    let e : (a +ℤ pos 1) +ℤ pos n ≡ a +ℤ pos (suc n) = omega (arith, ints) in
    ap (λ ys. a ∷ ys) (from_push (a +ℤ pos 1) n ∙ ap (λ (v : ℤ). numbers_from (a +ℤ pos 1) n ++ v ∷ []) e)

-- ---- counts

-- a number that is not negative is its count
pub count_is : (z : ℤ) → pos 0 ≤ℤ z → pos (count_of z) ≡ z
count_is (pos n) h = refl
count_is (negsuc n) h = absurd (omega (arith, ints))

pos_none : (n : ℕ) → pos n ≤ℤ pos 0 → n ≡ 0
pos_none n h = omega (arith, ints)

-- a number of at most 0 counts nothing
pub count_none : (z : ℤ) → z ≤ℤ pos 0 → count_of z ≡ 0
count_none (pos n) h = pos_none n h
count_none (negsuc n) h = refl

one_more : (m n : ℕ) → pos m ≡ pos n +ℤ pos 1 → m ≡ suc n
one_more m n e = omega (arith, ints)

-- one number more counts one more
pub count_more : (z y : ℤ) → pos 0 ≤ℤ z → y ≡ z +ℤ pos 1 → count_of y ≡ suc (count_of z)
count_more z y h e = one_more (count_of y) (count_of z) (count_is y (omega (arith, ints)) ∙ e ∙ ap (λ (w : ℤ). w +ℤ pos 1) (sym (count_is z h)))

-- ---- the numbers of an interval

count_cases : (z : ℤ) → (pos (count_of z) ≡ z) ⊎ ((z <ℤ pos 0) × (pos (count_of z) ≡ pos 0))
count_cases (pos n) = inl refl
count_cases (negsuc n) = inr (omega (arith, ints), refl)

up_to_last : (a b v : ℤ) (n : ℕ) → (pos n ≡ (b +ℤ pos 1) -ℤ a) ⊎ ((((b +ℤ pos 1) -ℤ a) <ℤ pos 0) × (pos n ≡ pos 0)) → a ≤ℤ v → v <ℤ (a +ℤ pos n) → v ≤ℤ b
up_to_last a b v n (inl e) h k = omega (arith, ints)
up_to_last a b v n (inr e) h k = let z = e.1 in absurd (omega (arith, ints))

before_end : (a b v : ℤ) (n : ℕ) → (pos n ≡ (b +ℤ pos 1) -ℤ a) ⊎ ((((b +ℤ pos 1) -ℤ a) <ℤ pos 0) × (pos n ≡ pos 0)) → a ≤ℤ v → v ≤ℤ b → v <ℤ (a +ℤ pos n)
before_end a b v n (inl e) h k = omega (arith, ints)
before_end a b v n (inr e) h k = let z = e.0 in absurd (omega (arith, ints))

between_only : (ends : ℤ × ℤ) (v : ℤ) → Among v (numbers_between ends) → LiesBetween ends v
unfolding numbers_between
between_only ends v h =
    let n = count_of ((ends.1 +ℤ pos 1) -ℤ ends.0) in
    let r = from_only ends.0 n v h in
    (r.0, up_to_last ends.0 ends.1 v n (count_cases ((ends.1 +ℤ pos 1) -ℤ ends.0)) r.0 r.1)

between_all : (ends : ℤ × ℤ) (v : ℤ) → LiesBetween ends v → Among v (numbers_between ends)
unfolding numbers_between
between_all ends v h =
    let n = count_of ((ends.1 +ℤ pos 1) -ℤ ends.0) in
    from_all ends.0 n v h.0 (before_end ends.0 ends.1 v n (count_cases ((ends.1 +ℤ pos 1) -ℤ ends.0)) h.0 h.1)

between_ascending : (ends : ℤ × ℤ) → IsAscending (numbers_between ends)
unfolding numbers_between
between_ascending ends = from_ascending ends.0 (count_of ((ends.1 +ℤ pos 1) -ℤ ends.0))

-- ---- the numbers of several intervals

-- a number of the expansion lies in an interval
pub expand-only : (is : List (ℤ × ℤ)) (v : ℤ) → Among v (expand is) → LiesInOne is v
unfolding expand
expand-only [] v h = absurd h
expand-only (i ∷ is) v h = elim (Among-append_cases v (numbers_between i) (expand is) h) [
  | inl k ↦ (i, inl refl, between_only i v k)
  | inr k ↦ let r = expand-only is v k in (r.0, inr r.1, r.2)
]

-- a number in an interval is one of the expansion
pub expand-all : (is : List (ℤ × ℤ)) (v : ℤ) → LiesInOne is v → Among v (expand is)
unfolding expand
expand-all [] v r = absurd r.1
expand-all (i ∷ is) v (ends, inl e, b) = Among-append_left v (numbers_between i) (expand is) (between_all i v (subst (λ (q : ℤ × ℤ). LiesBetween q v) e b))
expand-all (i ∷ is) v (ends, inr m, b) = Among-append_right v (numbers_between i) (expand is) (expand-all is v (ends, m, b))

-- ---- order

ascending_append : (xs ys : List ℤ) → IsAscending xs → IsAscending ys → ((x y : ℤ) → Among x xs → Among y ys → x <ℤ y) → IsAscending (xs ++ ys)
ascending_append [] ys a b f = b
ascending_append (x ∷ xs) ys a b f = (
  Each-append (λ y. x <ℤ y) xs ys a.0 (Each-from_among (λ y. x <ℤ y) ys (λ y h. f x y (inl refl) h)),
  ascending_append xs ys a.1 b (λ u y h k. f u y (inr h) k),
)

-- what lies in an interval is less than what lies in later ones
pub lies_later : (i : ℤ × ℤ) (is : List (ℤ × ℤ)) → Each (λ j. (i.1 +ℤ pos 1) <ℤ j.0) is → (x y : ℤ) → LiesBetween i x → LiesInOne is y → x <ℤ y
lies_later i is e x y h (ends, m, b) =
    let high = h.1 in
    let low = b.0 in
    let apart : (i.1 +ℤ pos 1) <ℤ ends.0 = Each-among (λ (j : ℤ × ℤ). (i.1 +ℤ pos 1) <ℤ j.0) is e ends m in
    omega (arith, ints)

-- the expansion of intervals that are apart ascends
pub expand-ascending : (is : List (ℤ × ℤ)) → AreApart is → IsAscending (expand is)
unfolding expand
expand-ascending [] p = tt
expand-ascending (i ∷ is) p =
    ascending_append (numbers_between i) (expand is) (between_ascending i) (expand-ascending is p.2)
    (λ x y h k. lies_later i is p.1 x y (between_only i x h) (expand-only is y k))

-- a number in an interval with small ends is small
pub small_in : (is : List (ℤ × ℤ)) → Each HasSmallEnds is → (v : ℤ) → LiesInOne is v → IsSmall v
small_in is s v (ends, m, b) =
    let e : HasSmallEnds ends = Each-among HasSmallEnds is s ends m in
    let low = e.0.0 in
    let high = e.1.1 in
    let above = b.0 in
    let below = b.1 in
    (omega (arith, ints), omega (arith, ints))

-- the expansion of maximal intervals is a domain
pub expand-domain : (is : List (ℤ × ℤ)) → AreMaximal is → IsDomain (expand is)
expand-domain is m = record {
  ascending = expand-ascending is m.apart;
  small = Each-from_among IsSmall (expand is) (λ v h. small_in is m.small v (expand-only is v h));
}

-- an ascending list of the numbers in the intervals is their expansion
pub expand-same : (is : List (ℤ × ℤ)) (xs : List ℤ) → AreApart is → IsAscending xs → ((v : ℤ) → LiesInOne is v → Among v xs) → ((v : ℤ) → Among v xs → LiesInOne is v) → expand is ≡ xs
expand-same is xs p a f g = ascending-same (expand is) xs (expand-ascending is p) a (λ v h. f v (expand-only is v h)) (λ v h. expand-all is v (g v h))

-- intervals of the numbers that pass a test expand to the filter
pub expand-filter : (p : ℤ → Bool) (is js : List (ℤ × ℤ)) → AreApart is → AreApart js → ((v : ℤ) → LiesInOne js v → LiesInOne is v × (p v ≡ true)) → ((v : ℤ) → LiesInOne is v → p v ≡ true → LiesInOne js v) → expand js ≡ filter p (expand is)
expand-filter p is js a b only all =
    expand-same js (filter p (expand is)) b (IsAscending-filter p (expand is) (expand-ascending is a))
    (λ v r. let s = only v r in Among-filter_all p (expand is) v (expand-all is v s.0) s.1)
    (λ v h. let s = Among-filter_only p (expand is) v h in all v (expand-only is v s.0) s.1)

-- the expansion has exactly the numbers in the intervals
pub expand-numbers : (is : List (ℤ × ℤ)) → Collects (expand is) (LiesInOne is)
expand-numbers is = record { only = expand-only is; all = expand-all is }

-- ---- the inverse

opens : (a : ℤ) (is : List (ℤ × ℤ)) → Each (λ j. (a +ℤ pos 1) <ℤ j.0) is → with_value a is ≡ (a, a) ∷ is
opens a [] h = refl
opens a (j ∷ js) h = cond-false (is_next a j.0) ((a, j.1) ∷ js) ((a, a) ∷ j ∷ js) (test-from_lt j.0 (a +ℤ pos 1) h.0)

joins : (a b : ℤ) (is : List (ℤ × ℤ)) → with_value a ((a +ℤ pos 1, b) ∷ is) ≡ (a, b) ∷ is
joins a b is = cond-true (is_next a (a +ℤ pos 1)) ((a, b) ∷ is) ((a, a) ∷ (a +ℤ pos 1, b) ∷ is) (test-from_le (a +ℤ pos 1) (a +ℤ pos 1) (omega (arith, ints)))

shifted : (a b : ℤ) (is : List (ℤ × ℤ)) → a ≡ b → Each (λ j. (a +ℤ pos 1) <ℤ j.0) is → Each (λ j. (b +ℤ pos 1) <ℤ j.0) is
shifted a b is e h = subst (λ (c : ℤ). Each (λ j. (c +ℤ pos 1) <ℤ j.0) is) e h

ended : (a b c : ℤ) (is : List (ℤ × ℤ)) → b ≡ c → (a, b) ∷ is ≡ (a, c) ∷ is
ended a b c is e = ap (λ (d : ℤ). (a, d) ∷ is) e

run_intervals : (a : ℤ) (n : ℕ) (xs : List ℤ) (is : List (ℤ × ℤ)) → intervals_of xs ≡ is → Each (λ j. ((a +ℤ pos n) +ℤ pos 1) <ℤ j.0) is → intervals_of (numbers_from a (suc n) ++ xs) ≡ (a, a +ℤ pos n) ∷ is
run_intervals a zero xs is e h =
    ap (with_value a) e ∙ opens a is (shifted (a +ℤ pos zero) a is (omega (arith, ints)) h) ∙ ended a a (a +ℤ pos zero) is (omega (arith, ints))
run_intervals a (suc n) xs is e h =
    let k : a +ℤ pos (suc n) ≡ (a +ℤ pos 1) +ℤ pos n = omega (arith, ints) in
    ap (with_value a) (run_intervals (a +ℤ pos 1) n xs is e (shifted (a +ℤ pos (suc n)) ((a +ℤ pos 1) +ℤ pos n) is k h))
    ∙ joins a ((a +ℤ pos 1) +ℤ pos n) is ∙ ended a ((a +ℤ pos 1) +ℤ pos n) (a +ℤ pos (suc n)) is (sym k)

last_is : (a b : ℤ) (n : ℕ) → pos n ≡ b -ℤ a → a +ℤ pos n ≡ b
last_is a b n e = omega (arith, ints)

not_less : (a b : ℤ) → a ≤ℤ b → pos 0 ≤ℤ (b -ℤ a)
not_less a b h = omega (arith, ints)

one_on : (a b : ℤ) → (b +ℤ pos 1) -ℤ a ≡ (b -ℤ a) +ℤ pos 1
one_on a b = omega (arith, ints)

-- intervals that are apart are those of their expansion
pub intervals_of-expand : (is : List (ℤ × ℤ)) → AreApart is → intervals_of (expand is) ≡ is
unfolding expand numbers_between
intervals_of-expand [] p = refl
intervals_of-expand (i ∷ is) p =
    let n = count_of (i.1 -ℤ i.0) in
    let e : count_of ((i.1 +ℤ pos 1) -ℤ i.0) ≡ suc n = count_more (i.1 -ℤ i.0) ((i.1 +ℤ pos 1) -ℤ i.0) (not_less i.0 i.1 p.0) (one_on i.0 i.1) in
    let l : i.0 +ℤ pos n ≡ i.1 = last_is i.0 i.1 n (count_is (i.1 -ℤ i.0) (not_less i.0 i.1 p.0)) in
    ap (λ (k : ℕ). intervals_of (numbers_from i.0 k ++ expand is)) e
    ∙ run_intervals i.0 n (expand is) is (intervals_of-expand is p.2) (shifted i.1 (i.0 +ℤ pos n) is (sym l) p.1)
    ∙ ended i.0 (i.0 +ℤ pos n) i.1 is l

-- ---- ends

pub first_bound : (i : ℤ × ℤ) (is : List (ℤ × ℤ)) → AreApart (i ∷ is) → (v : ℤ) → LiesInOne (i ∷ is) v → i.0 ≤ℤ v
first_bound i is p v (ends, inl e, b) = subst (λ (q : ℤ × ℤ). q.0 ≤ℤ v) e b.0
first_bound i is p v (ends, inr m, b) =
    let some = p.0 in
    let l = lies_later i is p.1 i.1 v (p.0, omega (arith, ints)) (ends, m, b) in
    omega (arith, ints)

-- the least number of the expansion begins the first interval
pub least-expand : (is : List (ℤ × ℤ)) → AreApart is → least (expand is) ≡ option_map (λ (i : ℤ × ℤ). i.0) (slice_get is 0)
unfolding expand
least-expand [] p = refl
least-expand (i ∷ is) p =
    least-is (expand (i ∷ is)) i.0 (expand-all (i ∷ is) i.0 (i, inl refl, (omega (arith, ints), p.0)))
    (λ v h. first_bound i is p v (expand-only (i ∷ is) v h))

suc_front : (n : ℕ) → suc (suc n - 1) ≡ suc (suc n) - 1
suc_front n = omega arith

-- the last interval
pub record IsLast (is : List (ℤ × ℤ)) (j : ℤ × ℤ) : Type 0 where
  pub place : slice_get is (length is - 1) ≡ Some j
  pub among : Among j is
  pub some : j.0 ≤ℤ j.1
  pub bound : (v : ℤ) → LiesInOne is v → v ≤ℤ j.1

bound_one : (i : ℤ × ℤ) (v : ℤ) → LiesInOne (i ∷ []) v → v ≤ℤ i.1
bound_one i v (ends, inl e, b) = subst (λ (q : ℤ × ℤ). v ≤ℤ q.1) e b.1
bound_one i v (ends, inr none, b) = absurd none

bound_more : (i j : ℤ × ℤ) (is : List (ℤ × ℤ)) → Each (λ k. (i.1 +ℤ pos 1) <ℤ k.0) is → IsLast is j → (v : ℤ) → LiesInOne (i ∷ is) v → v ≤ℤ j.1
bound_more i j is e l v (ends, inl f, b) =
    let c : LiesBetween i v = subst (λ (q : ℤ × ℤ). LiesBetween q v) f b in
    let some = l.some in
    let h = lies_later i is e v j.1 c (j, l.among, (l.some, omega (arith, ints))) in
    omega (arith, ints)
bound_more i j is e l v (ends, inr m, b) = l.bound v (ends, m, b)

pub last_of : (i : ℤ × ℤ) (is : List (ℤ × ℤ)) → AreApart (i ∷ is) → (j : ℤ × ℤ) × IsLast (i ∷ is) j
last_of i [] p = (i, record { place = refl; among = inl refl; some = p.0; bound = bound_one i })
last_of i (k ∷ ks) p =
    let r = last_of k ks p.2 in (
      r.0,
      record {
        place = sym (ap (λ (m : ℕ). slice_get (i ∷ k ∷ ks) m) (suc_front (length ks))) ∙ r.1.place;
        among = inr r.1.among;
        some = r.1.some;
        bound = bound_more i r.0 (k ∷ ks) p.1 r.1;
      },
    )

-- the greatest number of the expansion ends the last interval
pub greatest-expand : (is : List (ℤ × ℤ)) → AreApart is → greatest (expand is) ≡ option_map (λ (i : ℤ × ℤ). i.1) (slice_get is (length is - 1))
unfolding expand
greatest-expand [] p = refl
greatest-expand (i ∷ is) p =
    let r = last_of i is p in
    greatest-is (expand (i ∷ is)) r.0.1 (expand-all (i ∷ is) r.0.1 (r.0, r.1.among, (r.1.some, omega (arith, ints))))
    (λ v h. r.1.bound v (expand-only (i ∷ is) v h))
    ∙ sym (ap (λ o. option_map (λ (q : ℤ × ℤ). q.1) o) r.1.place)

not_none : (n m : ℕ) → n ≡ suc m → (n == 0) ≡ false
not_none n m e = ne_eqb n 0 (λ z. absurd (omega arith))

-- there is no number exactly where there is no interval
pub is_nil-expand : (is : List (ℤ × ℤ)) (n : ℕ) → AreApart is → n ≡ length is → (n == 0) ≡ is_nil (expand is)
unfolding expand
is_nil-expand [] n p e = ap (λ (m : ℕ). m == 0) e
is_nil-expand (i ∷ is) n p e = not_none n (length is) e ∙ sym (is_nil-among (expand (i ∷ is)) i.0 (expand-all (i ∷ is) i.0 (i, inl refl, (omega (arith, ints), p.0))))

-- the least number as the code finds it, where there is one
pub least_some : (is js : List (ℤ × ℤ)) (xs : List ℤ) (p : ℤ × ℤ) (v : ℤ) → AreApart is → expand is ≡ xs → js ≡ is → Some p ≡ slice_get js 0 → v ≡ p.0 → Some v ≡ least xs
least_some is js xs p v a e f g h =
    ap Some h ∙ ap (option_map (λ (i : ℤ × ℤ). i.0)) (g ∙ ap (λ (zs : List (ℤ × ℤ)). slice_get zs 0) f) ∙ sym (least-expand is a) ∙ ap least e

-- and where there is none
pub least_none : (is js : List (ℤ × ℤ)) (xs : List ℤ) → AreApart is → expand is ≡ xs → js ≡ is → None ≡ slice_get js 0 → None ≡ least xs
least_none is js xs a e f g = ap (option_map (λ (i : ℤ × ℤ). i.0)) (g ∙ ap (λ (zs : List (ℤ × ℤ)). slice_get zs 0) f) ∙ sym (least-expand is a) ∙ ap least e

-- the greatest number as the code finds it, where there is one
pub greatest_some : (is js : List (ℤ × ℤ)) (xs : List ℤ) (p : ℤ × ℤ) (v : ℤ) → AreApart is → expand is ≡ xs → js ≡ is → Some p ≡ slice_get js (length js - 1) → v ≡ p.1 → Some v ≡ greatest xs
greatest_some is js xs p v a e f g h =
    ap Some h ∙ ap (option_map (λ (i : ℤ × ℤ). i.1)) (g ∙ ap (λ (zs : List (ℤ × ℤ)). slice_get zs (length zs - 1)) f) ∙ sym (greatest-expand is a) ∙ ap greatest e

-- and where there is none
pub greatest_none : (is js : List (ℤ × ℤ)) (xs : List ℤ) → AreApart is → expand is ≡ xs → js ≡ is → None ≡ slice_get js (length js - 1) → None ≡ greatest xs
greatest_none is js xs a e f g =
    ap (option_map (λ (i : ℤ × ℤ). i.1)) (g ∙ ap (λ (zs : List (ℤ × ℤ)). slice_get zs (length zs - 1)) f) ∙ sym (greatest-expand is a) ∙ ap greatest e
