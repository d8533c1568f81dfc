-- Tight intervals: as many spans lie within as there are numbers, so no further position has a number there.
use Rattle.std.specs.Prelude.{◌≡◌, ℕ, ◌&&◌, if◌then◌else◌, Option, None, Some, option_map, List, [], ◌∷◌, filter, ℤ, pos, neg_ℤ, ◌+ℤ◌, ◌-ℤ◌, ◌≤ℤ◌, int_le, int_lt}
use Rattle.std.specs.Option.{option_and_then}
use Rattle.std.specs.List.{filter_map}
use Rattle.dp_base.specs.Lists.{Among}
use Rattle.dp_domain.specs.Atoms.{Atomic}
use Rattle.dp_domain.specs.Sets.{least, greatest, least_from, greatest_from}
use Rattle.dp_domain.specs.States.{Domains, values}
use Rattle.dp_domain.specs.Turns.{at_least, at_most, or_else, other_than}
use Rattle.dp_rule_alldiff.specs.AllDifferent.{is_between}
use Rattle.dp_rule_alldiff.specs.Spans.{count_inside}

-- as many of the spans lie from a to b as there are numbers, of which there is one
pub record IsTight (spans : List (ℤ × ℤ)) (a b : ℤ) : Type 0 where
  pub some : a ≤ℤ b
  pub full : ((b -ℤ a) +ℤ pos 1) ≡ pos (count_inside spans a b)

-- the longest tight interval from a ends with this number; none is there where none is tight
abbrev pub IsReach : List (ℤ × ℤ) → ℤ → Option ℤ → Type 0
IsReach spans a None = (b : ℤ) → IsTight spans a b → ⊥
IsReach spans a (Some c) = IsTight spans a c × ((b : ℤ) → IsTight spans a b → b ≤ℤ c)

-- the interval to the end, if there is one
abbrev pub interval_to : ℤ → Option ℤ → List (ℤ × ℤ)
interval_to a None = []
interval_to a (Some c) = (a, c) ∷ []

-- tight intervals, and each tight interval begins one of them
pub record AreLongest (spans intervals : List (ℤ × ℤ)) : Type 0 where
  pub only : (i : ℤ × ℤ) → Among i intervals → IsTight spans i.0 i.1
  pub all : (a b : ℤ) → IsTight spans a b → (c : ℤ) × Among (a, c) intervals × (b ≤ℤ c)

-- the number that stands in its place where the order of all numbers is reversed
abbrev pub opposite : ℤ → ℤ
opposite v = neg_ℤ (pos 1) -ℤ v

-- the interval where the order is reversed
abbrev pub mirror : ℤ × ℤ → ℤ × ℤ
mirror ends = (opposite ends.1, opposite ends.0)

-- the lesser of two numbers, where they are there
abbrev pub lesser : Option ℤ → Option ℤ → Option ℤ
lesser None b = b
lesser (Some a) None = Some a
lesser (Some a) (Some b) = if int_le a b then Some a else Some b

-- the first number of an interval that begins above `lower` and holds `upper`
abbrev pub start_over : ℤ → ℤ → ℤ × ℤ → Option ℤ
start_over lower upper i = if int_lt lower i.0 && (int_le i.0 upper && int_le upper i.1) then Some i.0 else None

-- the least value in an interval that begins above `lower`
abbrev pub value_in : List ℤ → ℤ → ℤ × ℤ → Option ℤ
value_in vs lower i = if int_lt lower i.0 then least (filter (is_between i.0 i.1) vs) else None

-- the least value after all tight intervals that hold the least value and not the greatest
abbrev pub lower_in : List (ℤ × ℤ) → List ℤ → ℤ → ℤ → Option ℤ
lower_in to vs lower upper = option_and_then (λ m. least (filter (int_le (opposite m +ℤ pos 1)) vs)) (least (filter_map (start_over (opposite upper) (opposite lower)) to))

-- the greatest value before all tight intervals that hold the greatest value and not the least
abbrev pub upper_in : List (ℤ × ℤ) → List ℤ → ℤ → ℤ → Option ℤ
upper_in from vs lower upper = option_and_then (λ m. greatest (filter (λ v. int_le v (m -ℤ pos 1)) vs)) (least (filter_map (start_over lower upper) from))

-- the least value in a tight interval that begins above the least
abbrev pub hole_in : List (ℤ × ℤ) → List ℤ → ℤ → Option ℤ
hole_in from vs lower = least (filter_map (value_in vs lower) from)

-- what tight intervals, and mirrored ones, give on a variable of these values
abbrev pub tight_on : List (ℤ × ℤ) → List (ℤ × ℤ) → List ℤ → ℕ → Option Atomic
tight_on from to [] x = None
tight_on from to (v ∷ vs) x =
    or_else (option_map (at_least x) (lower_in to (v ∷ vs) (least_from v vs) (greatest_from v vs)))
    (or_else (option_map (at_most x) (upper_in from (v ∷ vs) (least_from v vs) (greatest_from v vs)))
    (option_map (other_than x) (hole_in from (v ∷ vs) (least_from v vs))))

-- what they give on the first variable that they give something on
abbrev pub tight_given : List (ℤ × ℤ) → List (ℤ × ℤ) → Domains → List ℕ → Option Atomic
tight_given from to d [] = None
tight_given from to d (x ∷ xs) = or_else (tight_on from to (values d x) x) (tight_given from to d xs)
