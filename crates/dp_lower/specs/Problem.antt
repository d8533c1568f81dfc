-- The problem of a model: names, initial domains, the parts of each constraint, and the goal.
use Rattle.std.specs.Prelude.{ℕ, ◌==◌, Bool, true, false, not, ◌&&◌, ◌||◌, List, [], filter, map, ℤ}
use Rattle.std.specs.List.{list_all, list_any, range_with_len}
use Rattle.std.specs.Option.{option_map_or}
use Rattle.std.specs.Ordering.{int_eq}
use Rattle.dp_domain.specs.declared.term.Term.{Term}
use Rattle.dp_domain.specs.declared.term.Term.TheVariants.{Var, Const}
use Rattle.dp_parts.specs.declared.goal.Goal.{Goal}
use Rattle.dp_parts.specs.declared.goal.Goal.TheVariants as asked
use Rattle.dp_parts.specs.declared.part.Part.{Part}
use Rattle.dp_parts.specs.Problems.{Csp}
use Rattle.fz_model.specs.Models.{Plan, count_variables}
use Rattle.fz_model.specs.Table.{constraint_of}
use Rattle.fz_model.specs.declared.model.Basic.TheVariants as basic
use Rattle.fz_model.specs.declared.model.Constraint.{Constraint}
use Rattle.fz_model.specs.declared.model.Item.{Item}
use Rattle.fz_model.specs.declared.model.Item.TheVariants as item
use Rattle.fz_model.specs.declared.model.ModelGoal.{ModelGoal}
use Rattle.fz_model.specs.declared.model.ModelGoal.TheVariants as goal
use Rattle.fz_sat.specs.Args.{term_of}
use Rattle.fz_sat.specs.Satisfies.{is_of_type}
use Rattle.fz_facts.specs.Declared.{names_of, own_places}
use Rattle.dp_lower.specs.Recipe.{args_in, recipe}
use Rattle.dp_lower.specs.Small.{small_numbers}

-- ---- initial domains

-- whether the term is this variable
abbrev pub is_variable : ℕ → Term → Bool
is_variable x (Var y) = y == x
is_variable x (Const v) = false

-- whether a variable that is defined as the term may be v; where the term is a variable, that one's items say it
abbrev pub fits : ℤ → Term → Bool
fits v (Const w) = int_eq v w
fits v (Var y) = true

-- whether the item lets the variable be v: its declared type and its definition, the type of an alias, or the type of an array
-- among whose elements it is
abbrev pub allows : List Item → ℕ → ℤ → Item → Bool
allows items x v (item.Var name kind output value var) =
    not (var == x) || (is_of_type kind v && option_map_or (λ b. fits v (term_of items b)) value true)
allows items x v (item.Vars name kind output elements) = not (list_any (λ b. is_variable x (term_of items b)) elements) || is_of_type kind v
allows items x v _ = true

-- whether every item lets the variable be v
abbrev pub may_be : List Item → ℕ → ℤ → Bool
may_be items x v = list_all (allows items x v) items

-- what the variable may be at first
abbrev pub domain_of : List Item → ℕ → List ℤ
domain_of items x = filter (may_be items x) small_numbers

-- what each variable may be at first
abbrev pub domains_of : List Item → List (List ℤ)
domains_of items = map (domain_of items) (range_with_len 0 (count_variables items))

-- ---- constraints and the goal

-- the parts of a constraint
abbrev pub parts_of : List Item → Constraint → List Part
parts_of items c = option_map_or (λ kind. recipe kind (args_in items c.args)) (constraint_of c.name) []

-- the variable that is named, 0 where none is
abbrev pub variable_in : Term → ℕ
variable_in (Var x) = x
variable_in (Const v) = 0

-- what is asked for, by the variable
abbrev pub goal_in : List Item → ModelGoal → Goal
goal_in items goal.Satisfy = asked.Satisfy
goal_in items (goal.Minimize place) = asked.Minimize (variable_in (term_of items (basic.Item place)))
goal_in items (goal.Maximize place) = asked.Maximize (variable_in (term_of items (basic.Item place)))

-- ---- the whole

-- the problem of a model
abbrev pub problem_of : Plan → Csp
problem_of m = record {
  names = names_of m.items;
  own = own_places m.items 0 m.items;
  initial = domains_of m.items;
  parts = map (parts_of m.items) m.constraints;
  goal = goal_in m.items m.goal;
}
