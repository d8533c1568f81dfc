-- What a name of a model means, in terms of the item that it names.
use Rattle.std.proofs.Common.{◌≡◌, ℕ, ◌<◌, ◌≤◌, Bool, true, false, Option, Some, None, List, [], ◌∷◌, length, map, ℤ}
use Rattle.dp_base.specs.Lists.{Each}
use Rattle.dp_base.specs.Names.{is_name}
use Rattle.dp_domain.specs.declared.term.Term.{Term}
use Rattle.dp_domain.specs.declared.term.Term.TheVariants.{Var, Const}
use Rattle.fz_model.specs.Context.{Context}
use Rattle.fz_model.specs.Models.{count_variables, name_of_item, named_variable, variable_of_item}
use Rattle.fz_model.specs.declared.meant.Meant.{Meant}
use Rattle.fz_model.specs.declared.meant.Meant.TheVariants.{IntConst, BoolConst, SetConst, IntVar, BoolVar, IntArray, BoolArray}
use Rattle.fz_model.specs.declared.model.Basic.{Basic}
use Rattle.fz_model.specs.declared.model.Basic.TheVariants as basic
use Rattle.fz_model.specs.declared.model.Item.{Item}
use Rattle.fz_model.specs.declared.model.Item.TheVariants as item
use Rattle.fz_sat.specs.Args.{elements_of_basic, elements_of_item, number_of, term_of, term_of_item}
use Rattle.fz_facts.specs.Declared.{is_boolean, names_of}
use Rattle.fz_facts.specs.Facts.{AreApart, AreNumbered, IsDeclared}
use Rattle.fz_facts.proofs.Pairs.{Pairs}

-- a literal, or the place of one of the items
abbrev pub Stands : List Item → Basic → Type 0
Stands items (basic.Item place) = place < length items
Stands items _ = Unit {0}

-- one of the variables, Boolean or not
abbrev pub IsVarTerm : List Item → Bool → Term → Type 0
IsVarTerm items bools t = (x : ℕ) × (t ≡ Var x) × (x < count_variables items) × (is_boolean items x ≡ bools)

-- this integer, or else a variable that is not Boolean
abbrev pub IsIntOf : List Item → Option ℤ → Basic → Type 0
IsIntOf items (Some v) b = term_of items b ≡ Const v
IsIntOf items None b = IsVarTerm items false (term_of items b)

-- this Boolean, or else a Boolean variable
abbrev pub IsBoolOf : List Item → Option Bool → Basic → Type 0
IsBoolOf items (Some v) b = term_of items b ≡ Const (number_of v)
IsBoolOf items None b = IsVarTerm items true (term_of items b)

-- at most so many elements, each the one that is meant
pub record AreMeant {A : Type 0} (R : A → Basic → Type 0) (meant : List A) (elements : List Basic) : Type 0 where
  pub few : length elements ≤ 2000000
  pub each : Pairs R meant elements

-- what is meant is this term, which is the variable or none, or these elements
abbrev pub Shows : List Item → Meant → Term → Option ℕ → List Basic → Type 0
Shows items (IntConst v) t n elements = (t ≡ Const v) × (n ≡ None)
Shows items (BoolConst v) t n elements = (t ≡ Const (number_of v)) × (n ≡ None)
Shows items SetConst t n elements = Unit {0}
Shows items IntVar t n elements = (x : ℕ) × (t ≡ Var x) × (x < count_variables items) × (is_boolean items x ≡ false) × (n ≡ Some x)
Shows items BoolVar t n elements = (x : ℕ) × (t ≡ Var x) × (x < count_variables items) × (is_boolean items x ≡ true) × (n ≡ Some x)
Shows items (IntArray parameter meant) t n elements = AreMeant (IsIntOf items) meant elements
Shows items (BoolArray parameter meant) t n elements = AreMeant (IsBoolOf items) meant elements

-- the item is what is meant
abbrev pub Means : List Item → Meant → Item → Type 0
Means items m i = Shows items m (term_of_item i) (variable_of_item (Some i)) (elements_of_item i)

-- the literal or name is what is meant
abbrev pub Stated : List Item → Meant → Basic → Type 0
Stated items m b = Shows items m (term_of items b) (named_variable items (Some b)) (elements_of_basic items b)

-- ---- all items

-- the literals and names that define an item
abbrev pub basics_of : Item → List Basic
basics_of (item.Consts name bools elements) = elements
basics_of (item.Vars name kind output elements) = elements
basics_of (item.Var name kind output (Some value) var) = value ∷ []
basics_of _ = []

-- the name of a variable has the form of one
abbrev pub IsNamed : Item → Type 0
IsNamed (item.Var name kind output value var) = is_name name ≡ true
IsNamed _ = Unit {0}

-- the item is declared so, and is what is meant by its name
pub record IsFine (items : List Item) (e : List ℕ × Meant) (i : Item) : Type 0 where
  pub name : e.0 ≡ name_of_item i
  pub spelled : IsNamed i
  pub placed : Each (Stands items) (basics_of i)
  pub means : Means items e.1 i
  pub declared : IsDeclared items i

-- the items are what the context says of their words
pub record IsRight (c : Context) (items : List Item) : Type 0 where
  pub fine : Pairs (IsFine items) c.entries items
  pub unused : (x : ℕ) → count_variables items ≤ x → is_boolean items x ≡ false
  pub apart : AreApart (map (λ e. e.0) (names_of items))
  pub numbered : AreNumbered items 0 items
  pub counted : c.variables ≡ length (names_of items)
  pub few : length (names_of items) ≤ 200000
