-- The canonical spelling of models, which is this project's own form of FlatZinc: one item a line.
use Rattle.std.specs.Prelude.{ℕ, ◌+◌, Bool, true, false, List, [], ◌∷◌, ◌++◌, length, slice_get, codes, Option, Some, None, ℤ, pos, negsuc}
use Rattle.std.specs.Fmt.{decimal}
use Rattle.std.specs.List.{flat_map}
use Rattle.std.specs.Option.{option_map_or}
use Rattle.fz_model.specs.Models.{Plan, name_of_item}
use Rattle.fz_model.specs.declared.model.Basic.{Basic}
use Rattle.fz_model.specs.declared.model.Basic.TheVariants as basic
use Rattle.fz_model.specs.declared.model.Constraint.{Constraint}
use Rattle.fz_model.specs.declared.model.Expr.{Expr}
use Rattle.fz_model.specs.declared.model.Expr.TheVariants as expr
use Rattle.fz_model.specs.declared.model.Item.{Item}
use Rattle.fz_model.specs.declared.model.Item.TheVariants as item
use Rattle.fz_model.specs.declared.model.ModelGoal.{ModelGoal}
use Rattle.fz_model.specs.declared.model.ModelGoal.TheVariants as goal
use Rattle.fz_model.specs.declared.model.SetText.{SetText}
use Rattle.fz_model.specs.declared.model.SetText.TheVariants as set
use Rattle.fz_model.specs.declared.model.VarType.{VarType}
use Rattle.fz_model.specs.declared.model.VarType.TheVariants as type

-- ---- literals, names and lists

-- decimal digits without leading zeros, behind a minus for a number below 0
abbrev pub integer_text : ℤ → List ℕ
integer_text (pos n) = decimal n
integer_text (negsuc n) = codes "-" ++ decimal (n + 1)

abbrev pub truth_text : Bool → List ℕ
truth_text true = codes "true"
truth_text false = codes "false"

-- the name of the item at this place
abbrev pub name_text : List Item → ℕ → List ℕ
name_text items place = option_map_or name_of_item (slice_get items place) []

abbrev pub basic_text : List Item → Basic → List ℕ
basic_text items (basic.Bool value) = truth_text value
basic_text items (basic.Int value) = integer_text value
basic_text items (basic.Item place) = name_text items place

-- further texts of a list, a comma in front of each
abbrev pub further_text : {A : Type 0} → (A → List ℕ) → List A → List ℕ
further_text text xs = flat_map (λ x. codes "," ++ text x) xs

-- the texts of a list, a comma between any two
abbrev pub list_text : {A : Type 0} → (A → List ℕ) → List A → List ℕ
list_text text [] = []
list_text text (x ∷ xs) = text x ++ further_text text xs

abbrev pub range_text : ℤ → ℤ → List ℕ
range_text first last = integer_text first ++ codes ".." ++ integer_text last

abbrev pub numbers_text : List ℤ → List ℕ
numbers_text numbers = codes "{" ++ list_text integer_text numbers ++ codes "}"

abbrev pub elements_text : List Item → List Basic → List ℕ
elements_text items elements = codes "[" ++ list_text (basic_text items) elements ++ codes "]"

-- a set in the form in which it was written
abbrev pub set_text : SetText → List ℕ
set_text (set.Range first last) = range_text first last
set_text (set.List numbers) = numbers_text numbers

-- ---- items

abbrev pub type_text : VarType → List ℕ
type_text type.Bool = codes "bool"
type_text type.Int = codes "int"
type_text (type.Range first last) = range_text first last
type_text (type.List numbers) = numbers_text numbers

-- what stands in front of the type of an array of so many elements
abbrev pub size_text : ℕ → List ℕ
size_text count = codes "array [1.." ++ decimal count ++ codes "] of "

-- 'bool' or 'int'
abbrev pub kind_text : Bool → List ℕ
kind_text true = codes "bool"
kind_text false = codes "int"

-- how a variable is marked for printing
abbrev pub mark_text : Bool → List ℕ
mark_text true = codes " :: output_var"
mark_text false = []

-- ranges in square brackets
abbrev pub sizes_text : List (ℤ × ℤ) → List ℕ
sizes_text ranges = codes "[" ++ list_text (λ r. range_text r.0 r.1) ranges ++ codes "]"

-- how an array is marked for printing
abbrev pub ranges_text : Option (List (ℤ × ℤ)) → List ℕ
ranges_text None = []
ranges_text (Some ranges) = codes " :: output_array(" ++ sizes_text ranges ++ codes ")"

abbrev pub definition_text : List Item → Option Basic → List ℕ
definition_text items None = []
definition_text items (Some value) = codes " = " ++ basic_text items value

-- an item of a model's items, without the line's end
abbrev pub item_text : List Item → Item → List ℕ
item_text items (item.Int name value) = codes "int: " ++ name ++ codes " = " ++ integer_text value
item_text items (item.Bool name value) = codes "bool: " ++ name ++ codes " = " ++ truth_text value
item_text items (item.Set name set) = codes "set of int: " ++ name ++ codes " = " ++ set_text set
item_text items (item.Consts name bools elements) =
    size_text (length elements) ++ kind_text bools ++ codes ": " ++ name ++ codes " = " ++ elements_text items elements
item_text items (item.Var name kind output value var) =
    codes "var " ++ type_text kind ++ codes ": " ++ name ++ mark_text output ++ definition_text items value
item_text items (item.Vars name kind output elements) =
    size_text (length elements) ++ codes "var " ++ type_text kind ++ codes ": " ++ name ++ ranges_text output ++ codes " = " ++ elements_text items elements

-- ---- constraints and the goal

abbrev pub expr_text : List Item → Expr → List ℕ
expr_text items (expr.Basic value) = basic_text items value
expr_text items (expr.Set set) = set_text set
expr_text items (expr.Array elements) = elements_text items elements

abbrev pub arguments_text : List Item → List Expr → List ℕ
arguments_text items args = codes "(" ++ list_text (expr_text items) args ++ codes ")"

abbrev pub constraint_text : List Item → Constraint → List ℕ
constraint_text items c = codes "constraint " ++ c.name ++ arguments_text items c.args

abbrev pub goal_text : List Item → ModelGoal → List ℕ
goal_text items goal.Satisfy = codes "solve satisfy"
goal_text items (goal.Minimize place) = codes "solve minimize " ++ name_text items place
goal_text items (goal.Maximize place) = codes "solve maximize " ++ name_text items place

-- ---- the whole

-- what ends each item: `;` and LF
abbrev pub line_end : List ℕ
line_end = 59 ∷ 10 ∷ []

abbrev pub items_text : List Item → List Item → List ℕ
items_text all items = flat_map (λ i. item_text all i ++ line_end) items

abbrev pub constraints_text : List Item → List Constraint → List ℕ
constraints_text all constraints = flat_map (λ c. constraint_text all c ++ line_end) constraints

-- the canonical spelling: each item on a line of its own, in order, then each constraint, then the goal
abbrev pub printed : Plan → List ℕ
printed m = items_text m.items m.items ++ constraints_text m.items m.constraints ++ goal_text m.items m.goal ++ line_end
