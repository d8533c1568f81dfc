-- Models as plain data, and the model that the words of a text stand for.
use Rattle.std.specs.Prelude.{◌≡◌, ℕ, Bool, false, is_none, unwrap_or, ◌⊎◌, List, [], ◌∷◌, ◌++◌, length, map, filter, find, slice_get, bytes_eq, codes, Option, Some, None, Result, Ok, Err, ℤ}
use Rattle.std.specs.List.{list_any, position}
use Rattle.std.specs.Option.{option_map_or}
use Rattle.std.proofs.Common.{inl, inr}
use Rattle.dp_base.specs.Lists.{Each}
use Rattle.dp_grammar.specs.Brackets.{spell_inside}
use Rattle.dp_grammar.specs.Grammar.{Cause}
use Rattle.dp_grammar.specs.Whole.{whole}
use Rattle.fz_model.specs.Annotations.{Balanced, Annotation, Annotated}
use Rattle.fz_model.specs.Arrays.{is_bools, output_ranges}
use Rattle.fz_model.specs.Constraints.{ArgWords, ConstraintWords, arg_basic}
use Rattle.fz_model.specs.Context.{BasicText, Truth, Whole, Name}
use Rattle.fz_model.specs.Items.{IntText, SetWords, TypeWords}
use Rattle.fz_model.specs.declared.fault.Fault.{Fault}
use Rattle.fz_model.specs.ModelText.{ArrayWords, GoalWords, ItemWords, ModelWords, VariableWords, closing, model}
use Rattle.fz_model.specs.Words.{IsSpelled, Round, Word, bracketing}
use Rattle.fz_model.specs.declared.model.Basic.{Basic}
use Rattle.fz_model.specs.declared.model.Basic.TheVariants as basic
use Rattle.fz_model.specs.declared.model.Constraint.{Constraint}
use Rattle.fz_model.specs.declared.model.Expr.{Expr}
use Rattle.fz_model.specs.declared.model.Expr.TheVariants as expr
use Rattle.fz_model.specs.declared.model.Item.{Item}
use Rattle.fz_model.specs.declared.model.Item.TheVariants as item
use Rattle.fz_model.specs.declared.model.ModelGoal.{ModelGoal}
use Rattle.fz_model.specs.declared.model.ModelGoal.TheVariants as goal
use Rattle.fz_model.specs.declared.model.SetText.{SetText}
use Rattle.fz_model.specs.declared.model.SetText.TheVariants as set
use Rattle.fz_model.specs.declared.model.VarType.{VarType}
use Rattle.fz_model.specs.declared.model.VarType.TheVariants as type

-- what is declared, what is required, and what is asked for
pub record Plan : Type 0 where
  pub items : List Item
  pub constraints : List Constraint
  pub goal : ModelGoal

-- ---- names

abbrev pub name_of_item : Item → List ℕ
name_of_item (item.Int name value) = name
name_of_item (item.Bool name value) = name
name_of_item (item.Set name set) = name
name_of_item (item.Consts name bools elements) = name
name_of_item (item.Var name kind output value var) = name
name_of_item (item.Vars name kind output elements) = name

-- the place of the item of this name
abbrev pub place_of : List Item → List ℕ → ℕ
place_of items name = unwrap_or (position (bytes_eq name) (map name_of_item items)) 0

-- ---- literals and names where a value is wanted

abbrev pub basic_of_text : List Item → BasicText → Basic
basic_of_text items (Truth value) = basic.Bool value
basic_of_text items (Whole value dotted) = basic.Int value
basic_of_text items (Name bytes) = basic.Item (place_of items bytes)

abbrev pub elements_of : List Item → List BasicText → List Basic
elements_of items texts = map (basic_of_text items) texts

abbrev pub set_of : SetWords → SetText
set_of (inl numbers) = set.List (map (λ n. n.0) numbers)
set_of (inr bounds) = set.Range bounds.0.0 bounds.1.0

abbrev pub set_type_of : SetWords → VarType
set_type_of (inl numbers) = type.List (map (λ n. n.0) numbers)
set_type_of (inr bounds) = type.Range bounds.0.0 bounds.1.0

abbrev pub type_of : TypeWords → VarType
type_of (inl bool) = type.Bool
type_of (inr (inl int)) = type.Int
type_of (inr (inr set)) = set_type_of set

-- ---- annotations that count

abbrev pub notes_of : {C : Type 0} → Annotated C → List Annotation
notes_of (inl p) = p.0 ++ p.1.0 ∷ []
notes_of (inr c) = []

abbrev pub is_noted : List ℕ → List Annotation → Bool
is_noted name notes = list_any (λ note. bytes_eq note.name name) notes

abbrev pub ranges_read : Result (List (IntText × IntText)) (Cause Fault × List Word) → Option (List (ℤ × ℤ))
ranges_read (Ok ranges) = Some (map (λ r. (r.0.0, r.1.0)) ranges)
ranges_read (Err refusal) = None

abbrev pub ranges_of : Option Balanced → Option (List (ℤ × ℤ))
ranges_of None = None
ranges_of (Some args) = ranges_read (whole output_ranges (spell_inside bracketing (Round ∷ []) args))

-- the ranges of the first `output_array`
abbrev pub output_of : List Annotation → Option (List (ℤ × ℤ))
output_of notes = option_map_or (λ note. ranges_of note.args) (find (λ note. bytes_eq note.name (codes "output_array")) notes) None

-- ---- variables

-- the variable of an item, if it is one
abbrev pub variable_of_item : Option Item → Option ℕ
variable_of_item (Some (item.Var name kind output value var)) = Some var
variable_of_item _ = None

-- the variable that a definition names; then the item is an alias
abbrev pub named_variable : List Item → Option Basic → Option ℕ
named_variable items (Some (basic.Item place)) = variable_of_item (slice_get items place)
named_variable items _ = None

abbrev pub is_own : List Item → Item → Bool
is_own items (item.Var name kind output value var) = is_none (named_variable items value)
is_own items _ = false

-- how many variables these items declare, aliases not among them
abbrev pub count_variables : List Item → ℕ
count_variables items = length (filter (is_own items) items)

-- the number of a variable behind these items: that of the variable it names, or the next
abbrev pub number_of : List Item → Option Basic → ℕ
number_of items value = unwrap_or (named_variable items value) (count_variables items)

-- ---- items

abbrev pub definition_of : List Item → BasicText ⊎ Unit {0} → Option Basic
definition_of items (inl text) = Some (basic_of_text items text)
definition_of items (inr none) = None

abbrev pub variable_item_of : List Item → VariableWords → Item
variable_item_of items v =
    let value = definition_of items (closing v.1.1) in
    item.Var v.1.0 (type_of v.0) (is_noted (codes "output_var") (notes_of v.1.1)) value (number_of items value)

abbrev pub array_item_of : List Item → ArrayWords → Item
array_item_of items (size, inl a) = item.Vars a.1.0 (type_of a.0) (output_of (notes_of a.1.1)) (elements_of items (closing a.1.1))
array_item_of items (size, inr a) = item.Consts a.1.0 (is_bools a.0) (elements_of items (closing a.1.1))

-- an item behind these; a predicate declares nothing
abbrev pub item_of : List Item → ItemWords → List Item
item_of items (inl predicate) = []
item_of items (inr (inl i)) = item.Int i.0 (closing i.1).0 ∷ []
item_of items (inr (inr (inl b))) = item.Bool b.0 (closing b.1) ∷ []
item_of items (inr (inr (inr (inl s)))) = item.Set s.0 (set_of (closing s.1)) ∷ []
item_of items (inr (inr (inr (inr (inl a))))) = array_item_of items a ∷ []
item_of items (inr (inr (inr (inr (inr v))))) = variable_item_of items v ∷ []

-- these items and those of the words behind them
abbrev pub items_behind : List Item → List ItemWords → List Item
items_behind items [] = items
items_behind items (w ∷ words) = items_behind (items ++ item_of items w) words

abbrev pub items_of : List ItemWords → List Item
items_of words = items_behind [] words

-- ---- constraints and the goal

abbrev pub expr_of : List Item → ArgWords → Expr
expr_of items (inl numbers) = expr.Set (set.List (map (λ n. n.0) numbers))
expr_of items (inr (inl elements)) = expr.Array (elements_of items elements)
expr_of items (inr (inr (inl bounds))) = expr.Set (set.Range bounds.0 bounds.1.0)
expr_of items (inr (inr (inr text))) = expr.Basic (basic_of_text items (arg_basic text))

abbrev pub constraint_of_words : List Item → ConstraintWords → Constraint
constraint_of_words items c = record { name = c.0; args = map (expr_of items) c.1.0 }

abbrev pub goal_of : List Item → GoalWords → ModelGoal
goal_of items (inl satisfy) = goal.Satisfy
goal_of items (inr (inl minimize, name)) = goal.Minimize (place_of items name)
goal_of items (inr (inr maximize, name)) = goal.Maximize (place_of items name)

-- ---- the whole

-- the model that the words of a text stand for
abbrev pub model_of : ModelWords → Plan
model_of w =
    let items = items_of w.0 in
    record { items = items; constraints = map (constraint_of_words items) w.1.0; goal = goal_of items (closing w.1.1) }

-- words that tokens stand for spell the model, and pass each test
pub record IsModel (m : Plan) : Type 0 where
  pub words : ModelWords
  pub spelled : Each IsSpelled (model.spell words)
  pub passes : model.fault words ≡ None
  pub means : model_of words ≡ m
