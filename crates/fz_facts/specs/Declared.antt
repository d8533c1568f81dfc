-- What the items of a model declare: the names of variables, their numbers, and which are Boolean.
use Rattle.std.specs.Prelude.{ℕ, ◌+◌, ◌==◌, Bool, true, false, ◌&&◌, if◌then◌else◌, Option, Some, None, is_none, List, [], ◌∷◌}
use Rattle.std.specs.List.{filter_map, list_any}
use Rattle.fz_model.specs.Models.{named_variable}
use Rattle.fz_model.specs.declared.model.Item.{Item}
use Rattle.fz_model.specs.declared.model.Item.TheVariants as item
use Rattle.fz_model.specs.declared.model.VarType.{VarType}
use Rattle.fz_model.specs.declared.model.VarType.TheVariants as type

-- the name of a variable or an alias, with the variable's number
abbrev pub name_of : Item → Option (List ℕ × ℕ)
name_of (item.Var name kind output value var) = Some (name, var)
name_of _ = None

-- the names of all variables and aliases, in order of declaration
abbrev pub names_of : List Item → List (List ℕ × ℕ)
names_of items = filter_map name_of items

-- of these items, of a model's items, the places of the variables' own names among the names, counted on from n
abbrev pub own_places : List Item → ℕ → List Item → List ℕ
own_places items n [] = []
own_places items n (item.Var name kind output value var ∷ rest) =
    if is_none (named_variable items value) then n ∷ own_places items (n + 1) rest else own_places items (n + 1) rest
own_places items n (_ ∷ rest) = own_places items n rest

-- whether it is the type of Booleans
abbrev pub is_bool_type : VarType → Bool
is_bool_type type.Bool = true
is_bool_type _ = false

-- whether the item declares the variable as Boolean
abbrev pub declares_bool : ℕ → Item → Bool
declares_bool x (item.Var name kind output value var) = (var == x) && is_bool_type kind
declares_bool x _ = false

-- whether the variable is Boolean
abbrev pub is_boolean : List Item → ℕ → Bool
is_boolean items x = list_any (declares_bool x) items
