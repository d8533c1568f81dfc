-- The tasks of a constraint, by the elements that give them.
use Rattle.std.specs.Prelude.{ℕ, ◌<◌, List, length, get_or, map, false, if◌then◌else◌, ℤ, pos}
use Rattle.std.specs.List.{zip}
use Rattle.fz_model.specs.declared.model.Basic.{Basic}
use Rattle.fz_model.specs.declared.model.Basic.TheVariants as basic
use Rattle.fz_model.specs.declared.model.Item.{Item}
use Rattle.fz_sat.specs.Globals.{Task, runs_at}
use Rattle.fz_sat.specs.Satisfies.{value_of}

-- the element at the place
abbrev pub element_at : List Basic → ℕ → Basic
element_at elements place = get_or elements place (basic.Bool false)

-- the task whose start, duration and use these elements give
abbrev pub task_at : List Item → (ℕ → ℤ) → Basic × (Basic × Basic) → Task
task_at items s e = record { start = value_of items s e.0; duration = value_of items s e.1.0; usage = value_of items s e.1.1 }

-- what the task uses at the time
abbrev pub used_by : ℤ → Task → ℤ
used_by t k = if runs_at t k then k.usage else pos 0

-- the elements that give the task at the place
abbrev pub triple_at : List Basic → List Basic → List Basic → ℕ → Basic × (Basic × Basic)
triple_at starts durations uses place = (element_at starts place, (element_at durations place, element_at uses place))

-- there is a task at the place
pub record HasTask (starts durations uses : List Basic) (place : ℕ) : Type 0 where
  pub start : place < length starts
  pub duration : place < length durations
  pub usage : place < length uses

-- the tasks of these starts, durations and uses
abbrev pub element_tasks : List Item → (ℕ → ℤ) → List Basic → List Basic → List Basic → List Task
element_tasks items s starts durations uses = map (task_at items s) (zip starts (zip durations uses))
