-- Parts of the constraints on whole arrays: an entry at an index, terms that differ, tasks that share a capacity.
use Rattle.std.specs.Prelude.{List, [], ◌∷◌, map, ℤ}
use Rattle.dp_domain.specs.declared.term.Term.{Term}
use Rattle.dp_parts.specs.declared.part.Part.{Part}
use Rattle.dp_parts.specs.declared.part.Part.TheVariants.{Element, AllDiff, Cumulative}
use Rattle.dp_rule_cumulative.specs.Schedules.{Given, given, schedule_of}
use Rattle.dp_lower.specs.Sums.{number_in}

-- the entry of the array at the index, counted from 1, is the value
abbrev pub selected : Term → List Term → Term → List Part
selected index array value = Element (record { index = index; array = array; value = value }) ∷ []

-- the terms at all positions differ
abbrev pub all_different : List Term → List Part
all_different terms = AllDiff terms ∷ []

-- the numbers that the terms are
abbrev pub numbers_in : List Term → List ℤ
numbers_in terms = map number_in terms

-- what a schedule is made of: starts, and durations, uses and a capacity that are numbers
abbrev pub given_of : List Term → List Term → List Term → Term → Given
given_of starts durations uses capacity = given starts (numbers_in durations) (numbers_in uses) (number_in capacity)

-- the tasks that run at a time use at most the capacity together
abbrev pub scheduled_by : Given → List Part
scheduled_by g = Cumulative (schedule_of g) ∷ []

-- so do those of these terms
abbrev pub scheduled : List Term → List Term → List Term → Term → List Part
scheduled starts durations uses capacity = scheduled_by (given_of starts durations uses capacity)
