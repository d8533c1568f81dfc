-- How the sets of variables are cut.
use Rattle.std.specs.Prelude.{◌≡◌, ℕ, ◌<◌, Bool, true, not, ◌&&◌, ◌||◌, if◌then◌else◌, is_none, List, [], ◌∷◌, filter, length, ℤ}
use Rattle.std.specs.List.{list_any}
use Rattle.std.specs.Option.{option_map_or}
use Rattle.dp_domain.specs.Sets.{IsSmall}
use Rattle.dp_domain.specs.States.{Domains, values}
use Rattle.dp_domain.specs.declared.term.Term.{Term}
use Rattle.dp_domain.specs.declared.term.Term.TheVariants.{Var, Const}
use Rattle.fz_model.specs.Models.{named_variable}
use Rattle.fz_model.specs.declared.model.Basic.{Basic}
use Rattle.fz_model.specs.declared.model.Item.{Item}
use Rattle.fz_model.specs.declared.model.Item.TheVariants as item
use Rattle.fz_model.specs.declared.model.VarType.{VarType}
use Rattle.fz_sat.specs.Args.{term_of}
use Rattle.fz_sat.specs.Satisfies.{is_of_type}
use Rattle.dp_lower.specs.Problem.{fits, is_variable}
use Rattle.dp_lower.specs.Small.{small_numbers}

-- each variable keeps the values that pass its test
pub record IsCutBy (test : ℕ → ℤ → Bool) (old new : Domains) : Type 0 where
  pub count : length new ≡ length old
  pub each : (x : ℕ) → x < length old → values new x ≡ filter (test x) (values old x)

-- whether the variable is none of the elements, or the number is of the type
abbrev pub typed_in : List Item → List Basic → VarType → ℕ → ℤ → Bool
typed_in items elements kind x v = not (list_any (λ b. is_variable x (term_of items b)) elements) || is_of_type kind v

-- a number within ±10^9, or a variable
abbrev pub IsSmallOrVar : Term → Type 0
IsSmallOrVar (Const v) = IsSmall v
IsSmallOrVar (Var x) = Unit {0}

-- the number of a variable's item has the property
abbrev pub IsWithVar : (ℕ → Type 0) → Item → Type 0
IsWithVar P (item.Var name kind output value var) = P var
IsWithVar P _ = Unit {0}

-- of these items, of a model's items, what each that declares a variable of its own lets it be
abbrev pub own_sets : List Item → List Item → List (List ℤ)
own_sets items [] = []
own_sets items (item.Var name kind output value var ∷ rest) =
    if is_none (named_variable items value) then filter (λ v. is_of_type kind v && option_map_or (λ b. fits v (term_of items b)) value true) small_numbers ∷ own_sets items rest
    else own_sets items rest
own_sets items (_ ∷ rest) = own_sets items rest
