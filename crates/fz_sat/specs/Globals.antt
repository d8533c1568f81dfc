-- The constraints on whole lists of numbers: weighted sums, entries of an array, numbers that differ, tasks that share a
-- capacity. After the FlatZinc builtins and the global constraints of the MiniZinc handbook.
use Rattle.std.specs.Prelude.{◌≡◌, ℕ, suc, zero, ◌+◌, Bool, true, false, not, ◌&&◌, Option, Some, None, List, [], ◌∷◌, map, filter, slice_get, ℤ, pos, negsuc, ◌+ℤ◌, ◌*ℤ◌, ◌≤ℤ◌, int_le, int_lt}
use Rattle.std.specs.List.{list_all, zip}
use Rattle.std.specs.Option.{option_map_or}
use Rattle.std.specs.Ordering.{int_eq}
use Rattle.dp_base.specs.Lists.{Among}
use Rattle.dp_domain.specs.Sets.{is_among}

-- ---- sums

-- the sum of the numbers
abbrev pub total : List ℤ → ℤ
total [] = pos 0
total (v ∷ vs) = v +ℤ total vs

-- the sum of the numbers, each times its coefficient
abbrev pub weighted_sum : List ℤ → List ℤ → ℤ
weighted_sum coefficients numbers = total (map (λ p. p.0 *ℤ p.1) (zip coefficients numbers))

-- ---- entries of an array

-- the entry of the array at the index, counted from 1, is the value
abbrev pub IsEntryAt : List ℤ → ℤ → ℤ → Type 0
IsEntryAt array index value = (place : ℕ) × (index ≡ pos (place + 1)) × (slice_get array place ≡ Some value)

-- the entry at the index, counted from 1, if there is one
abbrev pub entry_at : {A : Type 0} → List A → ℤ → Option A
entry_at array (pos zero) = None
entry_at array (pos (suc place)) = slice_get array place
entry_at array (negsuc n) = None

-- the same as a test
abbrev pub is_entry_at : List ℤ → ℤ → ℤ → Bool
is_entry_at array index value = option_map_or (λ entry. int_eq entry value) (entry_at array index) false

-- ---- numbers that differ

-- the numbers at all positions differ
abbrev pub AreDistinct : List ℤ → Type 0
AreDistinct [] = Unit {0}
AreDistinct (v ∷ vs) = (¬ (Among v vs)) × AreDistinct vs

-- the same as a test
abbrev pub are_distinct : List ℤ → Bool
are_distinct [] = true
are_distinct (v ∷ vs) = not (is_among v vs) && are_distinct vs

-- ---- tasks that share a capacity

-- a task: its start, its duration, and its use
pub record Task : Type 0 where
  pub start : ℤ
  pub duration : ℤ
  pub usage : ℤ

abbrev pub task_of : ℤ × (ℤ × ℤ) → Task
task_of k = record { start = k.0; duration = k.1.0; usage = k.1.1 }

-- the tasks of these starts, durations and uses
abbrev pub tasks_of : List ℤ → List ℤ → List ℤ → List Task
tasks_of starts durations uses = map task_of (zip starts (zip durations uses))

-- the time at which the task no longer runs
abbrev pub end_of : Task → ℤ
end_of k = k.start +ℤ k.duration

-- whether the task runs at the time
abbrev pub runs_at : ℤ → Task → Bool
runs_at t k = int_le k.start t && int_lt t (end_of k)

-- what the tasks that run at the time use together
abbrev pub usage_at : ℤ → List Task → ℤ
usage_at t tasks = total (map (λ k. k.usage) (filter (runs_at t) tasks))

-- at every time the tasks that run use at most the capacity together
abbrev pub KeepsCapacity : List Task → ℤ → Type 0
KeepsCapacity tasks capacity = (t : ℤ) → usage_at t tasks ≤ℤ capacity

-- whether they do so at the time
abbrev pub keeps_at : List Task → ℤ → ℤ → Bool
keeps_at tasks capacity t = int_le (usage_at t tasks) capacity

-- whether they do so where the task starts and where it ends
abbrev pub keeps_around : List Task → ℤ → Task → Bool
keeps_around tasks capacity k = keeps_at tasks capacity k.start && keeps_at tasks capacity (end_of k)

-- the same as a test: where no task runs, and wherever one starts or ends
abbrev pub keeps_capacity : List Task → ℤ → Bool
keeps_capacity tasks capacity = int_le (pos 0) capacity && list_all (keeps_around tasks capacity) tasks
