-- Schedules: tasks that share a capacity, and how much they use at a time.
use Rattle.std.specs.Prelude.{ℕ, Bool, ◌&&◌, unsigned_abs, unwrap_or, List, map, ℤ, pos, ◌+ℤ◌, int_le, int_lt}
use Rattle.std.specs.List.{filter, sum_by, zip}
use Rattle.dp_domain.specs.Sets.{greatest, least}
use Rattle.dp_domain.specs.States.{Domains}
use Rattle.dp_domain.specs.Terms.{term_at, term_scope, term_values}
use Rattle.dp_domain.specs.declared.term.Term.{Term}
use Rattle.dp_rule_cumulative.specs.declared.task.Task.{Task}

-- tasks, and how much they may use together at any time
pub record Schedule : Type 0 where
  pub tasks : List Task
  pub capacity : ℕ

-- these tasks and this capacity
abbrev pub schedule : List Task → ℕ → Schedule
schedule tasks capacity = record { tasks = tasks; capacity = capacity }

-- the starts of the tasks
abbrev pub starts : List Task → List Term
starts tasks = map (λ k. k.start) tasks

-- the variables of the schedule, each once, in order of declaration
abbrev pub scope_of : Schedule → List ℕ
scope_of q = term_scope (starts q.tasks)

-- how much the tasks that pass the test use together
abbrev pub usage_of : (Task → Bool) → List Task → ℕ
usage_of test tasks = sum_by (λ k. k.usage) (filter test tasks)

-- whether the time has come to the start and not to the end
abbrev pub is_during : ℤ → ℤ → ℤ → Bool
is_during start end t = int_le start t && int_lt t end

-- whether the task runs at the time, at an assignment
abbrev pub runs_at : (ℕ → ℤ) → ℤ → Task → Bool
runs_at s t k = is_during (term_at s k.start) (term_at s k.start +ℤ pos k.duration) t

-- the latest start of the task at a state; 0 where it has none
abbrev pub latest_start : Domains → Task → ℤ
latest_start d k = unwrap_or (greatest (term_values d k.start)) (pos 0)

-- the earliest start of the task at a state; 0 where it has none
abbrev pub earliest_start : Domains → Task → ℤ
earliest_start d k = unwrap_or (least (term_values d k.start)) (pos 0)

-- the earliest end of the task at a state
abbrev pub earliest_end : Domains → Task → ℤ
earliest_end d k = earliest_start d k +ℤ pos k.duration

-- whether the task runs at the time wherever it starts: from its latest start until its earliest end
abbrev pub must_run : Domains → ℤ → Task → Bool
must_run d t k = is_during (latest_start d k) (earliest_end d k) t

-- ---- what a schedule is made of

-- the starts, durations and uses of the tasks, in one order, and the capacity
pub record Given : Type 0 where
  pub starts : List Term
  pub durations : List ℤ
  pub uses : List ℤ
  pub capacity : ℤ

-- these four
abbrev pub given : List Term → List ℤ → List ℤ → ℤ → Given
given starts durations uses capacity = record { starts = starts; durations = durations; uses = uses; capacity = capacity }

-- the task of a start, a duration and a use that are not negative
abbrev pub task_of : Term × (ℤ × ℤ) → Task
task_of k = record { start = k.0; duration = unsigned_abs k.1.0; usage = unsigned_abs k.1.1 }

-- the schedule of what is given, task by task
abbrev pub schedule_of : Given → Schedule
schedule_of g = record { tasks = map task_of (zip g.starts (zip g.durations g.uses)); capacity = unsigned_abs g.capacity }
