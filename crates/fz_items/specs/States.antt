-- What the items so far declare, as the code keeps it.
use Rattle.std.specs.Prelude.{◌≡◌, ℕ, ◌+◌, ◌≤◌, ◌<◌, Bool, true, false, List, [], ◌∷◌, ◌++◌, length, map, Option, Some, None, ℤ, if◌then◌else◌, ◌⊎◌, is_none, unwrap_or}
use Rattle.std.proofs.Common.{inl, inr}
use Rattle.fz_model.specs.Context.{Context, BasicText, with_elements}
use Rattle.fz_model.specs.Items.{IntText, SetWords, is_bool_type, set_elements, type_elements}
use Rattle.fz_model.specs.Limits.{max_elements, max_variables}
use Rattle.fz_model.specs.ModelText.{ItemWords, after_item, array_of, declares}
use Rattle.fz_model.specs.Models.{count_variables, item_of, name_of_item, named_variable, number_of, set_of, type_of}
use Rattle.fz_model.specs.declared.meant.Meant.{Meant}
use Rattle.fz_model.specs.declared.meant.Meant.TheVariants.{IntConst, BoolConst, SetConst, IntVar, BoolVar}
use Rattle.fz_model.specs.declared.model.Basic.{Basic}
use Rattle.fz_model.specs.declared.model.Basic.TheVariants as basic
use Rattle.fz_model.specs.declared.model.Item.{Item}
use Rattle.fz_model.specs.declared.model.Item.TheVariants as item
use Rattle.fz_names.specs.Counts.{with_variable}
use Rattle.fz_items.specs.Arrays.{Shape, Shown}
use Rattle.fz_items.specs.Places.{basic_in, names_in}
use Rattle.fz_items.specs.Variables.{Variable}
use Rattle.fz_model.specs.Items as grammar

-- the names with what they stand for, and the items
pub record State : Type 0 where
  pub context : Context
  pub items : List Item

-- ---- what always holds

-- a definition names one of so many items, if it names one
abbrev pub IsPlacedValue : ℕ → Option Basic → Type 0
IsPlacedValue count (Some (basic.Item place)) = place < count
IsPlacedValue count _ = Unit {0}

-- what defines this item names one of so many items
abbrev pub IsPlacedIn : ℕ → Item → Type 0
IsPlacedIn count (item.Var name kind output value var) = IsPlacedValue count value
IsPlacedIn count _ = Unit {0}

abbrev pub ArePlaced : ℕ → List Item → Type 0
ArePlaced count [] = Unit {0}
ArePlaced count (i ∷ items) = IsPlacedIn count i × ArePlaced count items

abbrev pub IsNoVariable : Item → Type 0
IsNoVariable (item.Var name kind output value var) = ⊥
IsNoVariable _ = Unit {0}

-- the items have the names, few enough are counted, and these variables are their own
pub record IsKept (context : Context) (items : List Item) (own : ℕ) : Type 0 where
  pub named : names_in context ≡ map name_of_item items
  pub elements : context.elements ≤ max_elements
  pub variables : context.variables ≤ max_variables
  pub counted : own ≡ count_variables items
  pub placed : ArePlaced (length items) items

-- ---- numbers of variables

-- the number of a variable behind these items, of which so many are variables of their own
abbrev pub number_behind : List Item → ℕ → Option Basic → ℕ
number_behind items own value = unwrap_or (named_variable items value) own

-- how many are variables of their own, with one more of this definition
abbrev pub own_behind : List Item → ℕ → Option Basic → ℕ
own_behind items own value = if is_none (named_variable items value) then own + 1 else own

-- ---- items

-- an item more, of this name
abbrev pub with_item : State → List ℕ → Meant → Item → State
with_item s bytes meant i = record { context = declares s.context bytes meant; items = s.items ++ i ∷ [] }

-- with so many elements more
abbrev pub with_count : State → ℕ → State
with_count s count = record s { context = with_elements s.context count }

-- behind an item
abbrev pub effect : State → ItemWords → State
effect s i = record { context = after_item s.context i; items = s.items ++ item_of s.items i }

abbrev pub int_effect : State → List ℕ × IntText → State
int_effect s p = with_item s p.0 (IntConst p.1.0) (item.Int p.0 p.1.0)

-- the definition, with the place of what it names
abbrev pub definition_in : List (List ℕ) → BasicText ⊎ Unit {0} → Option Basic
definition_in names (inl text) = Some (basic_in names text)
definition_in names (inr none) = None

-- a variable behind these items, of which so many are variables of their own
abbrev pub variable_behind : Context → List Item → ℕ → Variable → Item
variable_behind context items own v =
    let value = definition_in (names_in context) v.1.1.1 in
    item.Var v.1.0 (type_of v.0) v.1.1.0 value (number_behind items own value)

abbrev pub variable_of : State → Variable → Item
variable_of s v =
    let value = definition_in (names_in s.context) v.1.1.1 in
    item.Var v.1.0 (type_of v.0) v.1.1.0 value (number_of s.items value)

abbrev pub variable_effect : State → Variable → State
variable_effect s v = record {
  context = with_variable (with_elements (declares s.context v.1.0 (if is_bool_type v.0 then BoolVar else IntVar)) (type_elements v.0));
  items = s.items ++ variable_of s v ∷ [];
}

abbrev pub bool_effect : State → List ℕ × Bool → State
bool_effect s p = with_item s p.0 (BoolConst p.1) (item.Bool p.0 p.1)

abbrev pub set_effect : State → List ℕ × SetWords → State
set_effect s p = with_count (with_item s p.0 SetConst (item.Set p.0 (set_of p.1))) (set_elements p.1)

abbrev pub consts_kept : Context → Bool → List ℕ → List BasicText → Item
consts_kept context bools bytes elements = item.Consts bytes bools (map (basic_in (names_in context)) elements)

abbrev pub consts_effect : State → Bool × (List ℕ × List BasicText) → State
consts_effect s p = with_count (with_item s p.1.0 (array_of s.context p.0 true p.1.1) (consts_kept s.context p.0 p.1.0 p.1.1)) (length p.1.1)

abbrev pub bounds_of : IntText × IntText → ℤ × ℤ
bounds_of r = (r.0.0, r.1.0)

abbrev pub shown_ranges : Shown → Option (List (ℤ × ℤ))
shown_ranges (Some (Some ranges)) = Some (map bounds_of ranges)
shown_ranges _ = None

abbrev pub vars_kept : Context → grammar.TypeWords → Shape → Item
vars_kept context type v = item.Vars v.0 (type_of type) (shown_ranges v.1.0) (map (basic_in (names_in context)) v.1.1)

abbrev pub vars_effect : State → grammar.TypeWords → Shape → State
vars_effect s type v = with_count (with_item s v.0 (array_of s.context (is_bool_type type) false v.1.1) (vars_kept s.context type v)) (length v.1.1)
