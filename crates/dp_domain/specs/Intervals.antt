-- Steps on intervals: what an atom keeps of them, what they have in common, the gaps between them, their union.
use Rattle.std.specs.Prelude.{ℕ, ◌^◌, Bool, ◌&&◌, ◌==◌, ◌⊎◌, if◌then◌else◌, List, [], ◌∷◌, ◌++◌, ℤ, pos, neg_ℤ, ◌+ℤ◌, ◌-ℤ◌, ◌≤ℤ◌, ◌<ℤ◌, int_le}
use Rattle.std.specs.Int.{int_max, int_min}
use Rattle.std.specs.List.{flat_map}
use Rattle.dp_base.specs.Lists.{Each}
use Rattle.dp_domain.specs.declared.atom.Op.{Op}
use Rattle.dp_domain.specs.declared.atom.Op.TheVariants.{Ge, Le, Eq, Ne}
use Rattle.dp_domain.specs.Atoms.{Atomic, negated}
use Rattle.dp_domain.specs.Sets.{AreMaximal, LiesBetween, LiesInOne}

-- the interval from the first number to the last, if it has a number
abbrev pub interval : ℤ → ℤ → List (ℤ × ℤ)
interval first last = if int_le first last then (first, last) ∷ [] else []

-- what of an interval is less than v
abbrev pub before : ℤ → ℤ × ℤ → List (ℤ × ℤ)
before v i = interval i.0 (int_min i.1 (v -ℤ pos 1))

-- what of an interval is greater than v
abbrev pub after : ℤ → ℤ × ℤ → List (ℤ × ℤ)
after v i = interval (int_max i.0 (v +ℤ pos 1)) i.1

-- what of an interval stands in this relation to v
abbrev pub met_of : Op → ℤ → ℤ × ℤ → List (ℤ × ℤ)
met_of Ge v i = interval (int_max i.0 v) i.1
met_of Le v i = interval i.0 (int_min i.1 v)
met_of Eq v i = interval (int_max i.0 v) (int_min i.1 v)
met_of Ne v i = before v i ++ after v i

-- what of the intervals meets the atom
abbrev pub met : Atomic → List (ℤ × ℤ) → List (ℤ × ℤ)
met a is = flat_map (met_of a.op a.value) is

-- what of the intervals fails the atom, where it is on the variable
abbrev pub failing_on : ℕ → List (ℤ × ℤ) → Atomic → List (ℤ × ℤ)
failing_on x is a = if a.var == x then met (negated a) is else []

-- whether two intervals have a number in common
abbrev pub reaches : ℤ × ℤ → ℤ × ℤ → Bool
reaches i j = int_le i.0 j.1 && int_le j.0 i.1

-- what two intervals have in common
abbrev pub overlap : ℤ × ℤ → ℤ × ℤ → List (ℤ × ℤ)
overlap i j = interval (int_max i.0 j.0) (int_min i.1 j.1)

-- what the intervals have in common with the others
abbrev pub common : List (ℤ × ℤ) → List (ℤ × ℤ) → List (ℤ × ℤ)
common is js = flat_map (λ i. flat_map (overlap i) js) is

-- the gaps before each of the intervals, from a number on
abbrev pub gaps_from : ℤ → List (ℤ × ℤ) → List (ℤ × ℤ)
gaps_from next [] = []
gaps_from next (i ∷ is) = interval next (i.0 -ℤ pos 1) ++ gaps_from (i.1 +ℤ pos 1) is

-- the least number that sets have
abbrev pub lowest : ℤ
lowest = neg_ℤ (pos (10 ^ 9))

-- the number after the last of the intervals; the number `next` where there is none
abbrev pub behind : ℤ → List (ℤ × ℤ) → ℤ
behind next [] = next
behind next (i ∷ is) = behind (i.1 +ℤ pos 1) is

-- what lies in none of the intervals, from the least number that sets have to beyond the greatest
abbrev pub outside : List (ℤ × ℤ) → List (ℤ × ℤ)
outside is = gaps_from lowest is ++ interval (behind lowest is) (pos (10 ^ 9) +ℤ pos 1)

-- the interval has a number, and one or more lie between the end and it
abbrev pub Follows : ℤ → ℤ × ℤ → Type 0
Follows end i = ((end +ℤ pos 1) <ℤ i.0) × (i.0 ≤ℤ i.1)

-- the intervals have the numbers of the others, and no more
pub record HaveSame (is js : List (ℤ × ℤ)) : Type 0 where
  pub only : (v : ℤ) → LiesInOne js v → LiesInOne is v
  pub all : (v : ℤ) → LiesInOne is v → LiesInOne js v

-- maximal intervals, none of which begins after the number
pub record AreBegun (next : ℤ) (is : List (ℤ × ℤ)) : Type 0 where
  pub maximal : AreMaximal is
  pub begun : Each (λ i. i.0 ≤ℤ next) is

-- the intervals have got the numbers of one more
pub record HaveMore (old now : List (ℤ × ℤ)) (ends : ℤ × ℤ) : Type 0 where
  pub only : (v : ℤ) → LiesInOne now v → LiesInOne old v ⊎ LiesBetween ends v
  pub all : (v : ℤ) → LiesInOne old v ⊎ LiesBetween ends v → LiesInOne now v

-- the intervals were joined by one that begins no earlier
pub record Joins (old now : List (ℤ × ℤ)) (ends : ℤ × ℤ) : Type 0 where
  pub begun : AreBegun ends.0 now
  pub more : HaveMore old now ends
