-- Finite sets of integers, as their values in ascending order.
use Rattle.std.specs.Prelude.{◌≡◌, ℕ, zero, suc, ◌^◌, Option, Some, None, Bool, ◌&&◌, if◌then◌else◌, List, [], ◌∷◌, ◌++◌, ℤ, pos, neg_ℤ, negsuc, ◌+ℤ◌, ◌-ℤ◌, ◌≤ℤ◌, ◌<ℤ◌, int_le}
use Rattle.std.specs.Int.{int_min, int_max}
use Rattle.std.specs.List.{flat_map, list_any}
use Rattle.dp_base.specs.Lists.{Among, Each}

-- each value is less than all that follow it
abbrev pub IsAscending : List ℤ → Type 0
IsAscending [] = Unit {0}
IsAscending (x ∷ xs) = Each (λ y. x <ℤ y) xs × IsAscending xs

-- within ±10^9, as every value of a domain is
abbrev pub IsSmall : ℤ → Type 0
IsSmall v = (neg_ℤ (pos (10 ^ 9)) ≤ℤ v) × (v ≤ℤ pos (10 ^ 9))

-- a domain: values in ascending order, each within ±10^9
pub record IsDomain (xs : List ℤ) : Type 0 where
  pub ascending : IsAscending xs
  pub small : Each IsSmall xs

-- the values are those with the property, and no others
pub record Collects (xs : List ℤ) (P : ℤ → Type 0) : Type 0 where
  pub only : (v : ℤ) → Among v xs → P v
  pub all : (v : ℤ) → P v → Among v xs

-- the values are followed by a domain of the numbers with the property, and by nothing else
abbrev pub IsFollowed : List ℤ → List ℤ → (ℤ → Type 0) → Type 0
IsFollowed before now P = (xs : List ℤ) × (now ≡ before ++ xs) × IsDomain xs × Collects xs P

-- the number lies between the ends of the interval, ends included
abbrev pub LiesBetween : ℤ × ℤ → ℤ → Type 0
LiesBetween ends v = (ends.0 ≤ℤ v) × (v ≤ℤ ends.1)

-- the number lies in one of the intervals
abbrev pub LiesInOne : List (ℤ × ℤ) → ℤ → Type 0
LiesInOne intervals v = (ends : ℤ × ℤ) × Among ends intervals × LiesBetween ends v

-- the least of x and the others
abbrev pub least_from : ℤ → List ℤ → ℤ
least_from x [] = x
least_from x (y ∷ ys) = int_min x (least_from y ys)

-- the least of the values; none of no values
abbrev pub least : List ℤ → Option ℤ
least [] = None
least (x ∷ xs) = Some (least_from x xs)

-- the greatest of x and the others
abbrev pub greatest_from : ℤ → List ℤ → ℤ
greatest_from x [] = x
greatest_from x (y ∷ ys) = int_max x (greatest_from y ys)

-- the greatest of the values; none of no values
abbrev pub greatest : List ℤ → Option ℤ
greatest [] = None
greatest (x ∷ xs) = Some (greatest_from x xs)

-- the least value of a domain and its greatest
pub record AreBounds (xs : List ℤ) (first last : ℤ) : Type 0 where
  pub domain : IsDomain xs
  pub least : least xs ≡ Some first
  pub greatest : greatest xs ≡ Some last

-- whether the value comes right after the end of the interval
abbrev pub is_next : ℤ → ℤ → Bool
is_next end v = int_le v (end +ℤ pos 1)

-- x goes to the front of the intervals of greater values: it opens one, or reaches the first
abbrev pub with_value : ℤ → List (ℤ × ℤ) → List (ℤ × ℤ)
with_value x [] = (x, x) ∷ []
with_value x (i ∷ is) = if is_next x i.0 then (x, i.1) ∷ is else (x, x) ∷ i ∷ is

-- the maximal intervals of ascending values
abbrev pub intervals_of : List ℤ → List (ℤ × ℤ)
intervals_of [] = []
intervals_of (x ∷ xs) = with_value x (intervals_of xs)

-- each interval has a number, and one number or more lies between it and each that follows it
abbrev pub AreApart : List (ℤ × ℤ) → Type 0
AreApart [] = Unit {0}
AreApart (i ∷ is) = (i.0 ≤ℤ i.1) × Each (λ j. (i.1 +ℤ pos 1) <ℤ j.0) is × AreApart is

-- both ends are within ±10^9
abbrev pub HasSmallEnds : ℤ × ℤ → Type 0
HasSmallEnds ends = IsSmall ends.0 × IsSmall ends.1

-- the maximal intervals of a domain
pub record AreMaximal (intervals : List (ℤ × ℤ)) : Type 0 where
  pub apart : AreApart intervals
  pub small : Each HasSmallEnds intervals

-- a number as a count; none below 0
abbrev pub count_of : ℤ → ℕ
count_of (pos n) = n
count_of (negsuc n) = zero

-- so many numbers from v on, in ascending order
abbrev pub numbers_from : ℤ → ℕ → List ℤ
numbers_from v zero = []
numbers_from v (suc n) = v ∷ numbers_from (v +ℤ pos 1) n

-- the numbers from the first to the last, in ascending order
unfoldable pub numbers_between : ℤ × ℤ → List ℤ
numbers_between ends = numbers_from ends.0 (count_of ((ends.1 +ℤ pos 1) -ℤ ends.0))

-- the numbers of the intervals, one interval after another; of maximal intervals it is the inverse of `intervals_of`
unfoldable pub expand : List (ℤ × ℤ) → List ℤ
expand intervals = flat_map numbers_between intervals

-- whether the number is one of these
abbrev pub is_among : ℤ → List ℤ → Bool
is_among v xs = list_any (λ w. int_le v w && int_le w v) xs

-- whether some number is in both
abbrev pub share : List ℤ → List ℤ → Bool
share xs ys = list_any (λ v. is_among v ys) xs
