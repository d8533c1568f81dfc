-- The time-table of a schedule: at no time is more used than there is.
use Rattle.std.specs.Prelude.{◌≡◌, ℕ, ◌<◌, ◌≤◌, nat_lt, Bool, true, false, ◌&&◌, ◌||◌, ◌⊎◌, List, ℤ}
use Rattle.std.specs.List.{list_any}
use Rattle.dp_domain.specs.Faces.{Face}
use Rattle.dp_domain.specs.States.{Domains, is_dead}
use Rattle.dp_rule_cumulative.specs.Schedules.{Schedule, latest_start, must_run, runs_at, scope_of, usage_of}
use Rattle.dp_rule_cumulative.specs.declared.task.Task.{Task}

-- at each time the tasks that run use at most the capacity
abbrev pub MeetsCumulative : Schedule → (ℕ → ℤ) → Type 0
MeetsCumulative q s = (t : ℤ) → usage_of (runs_at s t) q.tasks ≤ q.capacity

-- a variable has no value, or at some time the tasks that must run use more than the capacity
abbrev pub ClashesCumulative : Schedule → Domains → Type 0
ClashesCumulative q d = (is_dead d ≡ true) ⊎ ((t : ℤ) × (q.capacity < usage_of (must_run d t) q.tasks))

-- whether the tasks that must run at the time use more than the capacity
abbrev pub is_overloaded : ℕ → List Task → Domains → ℤ → Bool
is_overloaded capacity tasks d t = nat_lt capacity (usage_of (must_run d t) tasks)

-- whether the task must run from its latest start on, and they do then
abbrev pub starts_overload : ℕ → List Task → Domains → Task → Bool
starts_overload capacity tasks d k = must_run d (latest_start d k) k && is_overloaded capacity tasks d (latest_start d k)

-- whether some task is such
abbrev pub has_overload : ℕ → List Task → Domains → Bool
has_overload capacity tasks d = list_any (starts_overload capacity tasks d) tasks

-- the clash as a test: of all times the latest starts alone are tried
abbrev pub test_cumulative : Schedule → Domains → Bool
test_cumulative q d = is_dead d || has_overload q.capacity q.tasks d

-- its variables and its test; it takes out no single values
abbrev pub face_cumulative : Schedule → Face
face_cumulative q = record { scope = scope_of q; test = test_cumulative q; point = λ x v. false }
