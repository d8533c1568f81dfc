-- Profiles: how much tasks use wherever they start.
use Rattle.std.specs.Prelude.{◌≡◌, ℕ, ◌+◌, ◌^◌, ◌==◌, nat_lt, Bool, true, false, ◌&&◌, ◌⊎◌, is_some, Option, Some, None, option_map, unwrap_or, List, [], ◌∷◌, map, ℤ, pos, neg_ℤ, ◌+ℤ◌, ◌-ℤ◌, ◌≤ℤ◌, int_le}
use Rattle.std.specs.Int.{int_max, int_min}
use Rattle.std.specs.List.{filter, list_any, sum_by}
use Rattle.dp_base.specs.Lists.{Among}
use Rattle.dp_domain.specs.Atoms.{Atomic}
use Rattle.dp_domain.specs.Sets.{greatest, least}
use Rattle.dp_domain.specs.States.{Domains, values}
use Rattle.dp_domain.specs.Turns.{at_least, at_most, or_else}
use Rattle.dp_domain.specs.declared.term.Term.{Term}
use Rattle.dp_domain.specs.declared.term.Term.TheVariants.{Var, Const}
use Rattle.dp_rule_cumulative.specs.Schedules.{earliest_end, latest_start}
use Rattle.dp_rule_cumulative.specs.declared.profile.Edges.{Edges}
use Rattle.dp_rule_cumulative.specs.declared.profile.Part.{Part}
use Rattle.dp_rule_cumulative.specs.declared.demand.Demand.{Demand}
use Rattle.dp_rule_cumulative.specs.declared.task.Task.{Task}

-- within ±2^n
abbrev pub IsTime : ℕ → ℤ → Type 0
IsTime n t = (neg_ℤ (pos (2 ^ n)) ≤ℤ t) × (t ≤ℤ pos (2 ^ n))

-- whether the time lies between these, both included
abbrev pub is_within : ℤ → ℤ → ℤ → Bool
is_within first last t = int_le first t && int_le t last

-- the times at which the task runs wherever it starts, if there are any, and how much it uses
abbrev pub part_of : Domains → Task → Part
part_of d k = record { from = latest_start d k; last = earliest_end d k -ℤ pos 1; usage = k.usage }

-- whether there is such a time
abbrev pub has_time : Part → Bool
has_time p = int_le p.from p.last

-- the parts of the tasks that must run at some time
abbrev pub parts_of : Domains → List Task → List Part
parts_of d tasks = filter has_time (map (part_of d) tasks)

-- whether the time is of the part
abbrev pub holds_at : ℤ → Part → Bool
holds_at t p = is_within p.from p.last t

-- how much the parts use together at the time
abbrev pub used_at : ℤ → List Part → ℕ
used_at t parts = sum_by (λ p. p.usage) (filter (holds_at t) parts)

-- how much the parts use together at the first time and at the last of one of them
abbrev pub edges_of : List Part → Part → Edges
edges_of parts p = record { start = p.from; at_start = used_at p.from parts; last = p.last; at_last = used_at p.last parts }

-- whether more than the capacity is used at the first time of one of them
abbrev pub is_exceeded : ℕ → List Part → Bool
is_exceeded capacity parts = list_any (λ p. nat_lt capacity (used_at p.from parts)) parts

-- ---- where a task does not fit

-- whether the time is one of the demand's, and so much is used then that there is no room for the demand
abbrev pub lacks_room : Demand → ℤ → ℕ → Bool
lacks_room w t used = is_within w.from w.last t && nat_lt w.capacity (used + w.usage)

-- whether there is no room for the demand beside the parts
abbrev pub conflicts : Demand → List Part → ℤ → Bool
conflicts w parts t = lacks_room w t (used_at t parts)

-- the last time that passes the test, and none exactly where none passes
abbrev pub IsLast : (ℤ → Bool) → Option ℤ → Type 0
IsLast test None = (t : ℤ) → test t ≡ false
IsLast test (Some t) = (test t ≡ true) × ((s : ℤ) → test s ≡ true → s ≤ℤ t)

-- the first time that passes the test, and none exactly where none passes
abbrev pub IsEarliest : (ℤ → Bool) → Option ℤ → Type 0
IsEarliest test None = (t : ℤ) → test t ≡ false
IsEarliest test (Some t) = (test t ≡ true) × ((s : ℤ) → test s ≡ true → t ≤ℤ s)

-- the last times of the edges at which there is no room for the demand
abbrev pub ends_in : Demand → List Edges → List ℤ
ends_in w edges = map (λ e. e.last) (filter (λ e. lacks_room w e.last e.at_last) edges)

-- the first times of the edges at which there is no room for the demand
abbrev pub starts_in : Demand → List Edges → List ℤ
starts_in w edges = map (λ e. e.start) (filter (λ e. lacks_room w e.start e.at_start) edges)

-- ---- what is given on the start of a task

-- the first start of these; 0 where there is none
abbrev pub first_start : List ℤ → ℤ
first_start xs = unwrap_or (least xs) (pos 0)

-- the last start of these; 0 where there is none
abbrev pub last_start : List ℤ → ℤ
last_start xs = unwrap_or (greatest xs) (pos 0)

-- what the task demands at the times at which it runs if it starts as early as it may, before those at which it must run
abbrev pub early_demand : ℤ → ℤ → ℕ → Task → Demand
early_demand first last capacity k = record { from = first; last = int_min (first +ℤ pos k.duration) last -ℤ pos 1; usage = k.usage; capacity = capacity }

-- what the task demands at the times at which it runs if it starts as late as it may, after those at which it must run
abbrev pub late_demand : ℤ → ℤ → ℕ → Task → Demand
late_demand first last capacity k = record { from = int_max (first +ℤ pos k.duration) last; last = (last +ℤ pos k.duration) -ℤ pos 1; usage = k.usage; capacity = capacity }

-- at least the least value after the time
abbrev pub bound_after : ℕ → List ℤ → Option ℤ → Option Atomic
bound_after x xs None = None
bound_after x xs (Some t) = option_map (at_least x) (least (filter (int_le (t +ℤ pos 1)) xs))

-- at most the greatest value from which a task of this duration ends before the time, or at it
abbrev pub bound_before : ℕ → List ℤ → ℕ → Option ℤ → Option Atomic
bound_before x xs n None = None
bound_before x xs n (Some t) = option_map (at_most x) (greatest (filter (λ v. int_le v (t -ℤ pos n)) xs))

-- the task starts after the last time at which it does not fit, of those at which it runs if it starts early
abbrev pub IsLowerBound : ℕ → List Part → List ℤ → Task → ℕ → Option Atomic → Type 0
IsLowerBound capacity parts xs k x atom =
    (t : Option ℤ) × IsLast (conflicts (early_demand (first_start xs) (last_start xs) capacity k) parts) t × (atom ≡ bound_after x xs t)

-- the task ends before the first time at which it does not fit, of those at which it runs if it starts late
abbrev pub IsUpperBound : ℕ → List Part → List ℤ → Task → ℕ → Option Atomic → Type 0
IsUpperBound capacity parts xs k x atom =
    (t : Option ℤ) × IsEarliest (conflicts (late_demand (first_start xs) (last_start xs) capacity k) parts) t × (atom ≡ bound_before x xs k.duration t)

-- such a lower bound, or such an upper bound where there is no lower
abbrev pub IsBound : ℕ → List Part → List ℤ → Task → ℕ → Option Atomic → Type 0
IsBound capacity parts xs k x atom =
    (IsLowerBound capacity parts xs k x atom × (is_some atom ≡ true)) ⊎ (IsLowerBound capacity parts xs k x None × IsUpperBound capacity parts xs k x atom)

-- ---- what is given on the first of the starts

-- each variable stands there once
abbrev pub AreDistinct : List ℕ → Type 0
AreDistinct [] = Unit {0}
AreDistinct (x ∷ xs) = (¬ (Among x xs)) × AreDistinct xs

-- whether the variable is less than that of the atom, where there is one
abbrev pub is_before : ℕ → Option Atomic → Bool
is_before x None = true
is_before x (Some a) = nat_lt x a.var

-- the bound on the variable, where it comes before the atom and there is a bound; else the atom
abbrev pub TakesOn : ℕ → List Part → Domains → Task → ℕ → Bool → Option Atomic → Option Atomic → Type 0
TakesOn capacity parts d k x true first next = (o : Option Atomic) × IsBound capacity parts (values d x) k x o × (next ≡ or_else o first)
TakesOn capacity parts d k x false first next = next ≡ first

-- the bound on the start of the task, where it comes before the atom; else the atom
abbrev pub TakesBound : ℕ → List Part → Domains → Task → Term → Option Atomic → Option Atomic → Type 0
TakesBound capacity parts d k (Var x) first next = TakesOn capacity parts d k x (is_before x first) first next
TakesBound capacity parts d k (Const v) first next = next ≡ first

-- whether the start is the variable
abbrev pub is_start : ℕ → Term → Bool
is_start x (Var y) = y == x
is_start x (Const v) = false
