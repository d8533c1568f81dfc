-- Which assignments satisfy a model, and the value of its objective. After the FlatZinc chapter of the MiniZinc handbook.
use Rattle.std.specs.Prelude.{ℕ, Bool, true, ◌&&◌, IsTrue, MatchOption, Option, Some, None, List, get_or, ℤ, pos, int_le}
use Rattle.std.specs.List.{list_all}
use Rattle.std.specs.Option.{option_map_or}
use Rattle.std.specs.Ordering.{int_eq}
use Rattle.dp_base.specs.Lists.{Each}
use Rattle.dp_domain.specs.Sets.{is_among}
use Rattle.dp_domain.specs.Terms.{term_at}
use Rattle.fz_model.specs.Models.{Plan}
use Rattle.fz_model.specs.Table.{constraint_of}
use Rattle.fz_model.specs.declared.model.Basic.{Basic}
use Rattle.fz_model.specs.declared.model.Basic.TheVariants as basic
use Rattle.fz_model.specs.declared.model.Constraint.{Constraint}
use Rattle.fz_model.specs.declared.model.Item.{Item}
use Rattle.fz_model.specs.declared.model.Item.TheVariants as item
use Rattle.fz_model.specs.declared.model.ModelGoal.{ModelGoal}
use Rattle.fz_model.specs.declared.model.ModelGoal.TheVariants as goal
use Rattle.fz_model.specs.declared.model.VarType.{VarType}
use Rattle.fz_model.specs.declared.model.VarType.TheVariants as type
use Rattle.fz_sat.specs.Args.{term_of}
use Rattle.fz_sat.specs.Meaning.{Meaning, given}

-- the numbers of an assignment as a function of the variable; 0 beyond their end
abbrev pub valuation : List ℤ → ℕ → ℤ
valuation values x = get_or values x (pos 0)

-- the value of a literal or a name
abbrev pub value_of : List Item → (ℕ → ℤ) → Basic → ℤ
value_of items s b = term_at s (term_of items b)

-- whether the number is of the type
abbrev pub is_of_type : VarType → ℤ → Bool
is_of_type type.Bool v = int_le (pos 0) v && int_le v (pos 1)
is_of_type type.Int v = true
is_of_type (type.Range first last) v = int_le first v && int_le v last
is_of_type (type.List numbers) v = is_among v numbers

-- whether the assignment keeps a declaration: a variable's value is of its type and is what it is defined as, and each
-- element of an array of variables is of the array's type; a parameter asks nothing
abbrev pub is_kept : List Item → (ℕ → ℤ) → Item → Bool
is_kept items s (item.Var name kind output value var) =
    is_of_type kind (s var) && option_map_or (λ b. int_eq (s var) (value_of items s b)) value true
is_kept items s (item.Vars name kind output elements) = list_all (λ b. is_of_type kind (value_of items s b)) elements
is_kept items s _ = true

-- the assignment meets the constraint; a name that the table lacks has no meaning, and nothing meets it
abbrev pub IsMet : List Item → (ℕ → ℤ) → Constraint → Type 0
IsMet items s c = MatchOption (constraint_of c.name) ⊥ (λ kind. Meaning kind (given items c.args s))

-- the assignment keeps each declaration and meets each constraint
pub record Satisfies (m : Plan) (s : ℕ → ℤ) : Type 0 where
  pub kept : Each (λ i. IsTrue (is_kept m.items s i)) m.items
  pub met : Each (IsMet m.items s) m.constraints

-- the value of the variable that a goal names
abbrev pub goal_value : List Item → (ℕ → ℤ) → ModelGoal → Option ℤ
goal_value items s goal.Satisfy = None
goal_value items s (goal.Minimize place) = Some (value_of items s (basic.Item place))
goal_value items s (goal.Maximize place) = Some (value_of items s (basic.Item place))

-- the value of the model's objective; none where the model has none
abbrev pub objective_of : Plan → (ℕ → ℤ) → Option ℤ
objective_of m s = goal_value m.items s m.goal
