-- The arguments of a constraint, as terms, lists of terms and sets. What is not of the kind asked for reads as 0, as no
-- elements or as no numbers, so that each argument has a reading.
use Rattle.std.specs.Prelude.{ℕ, Bool, true, false, ◌&&◌, List, [], map, slice_get, ℤ, pos, int_le}
use Rattle.std.specs.Option.{option_map_or}
use Rattle.dp_domain.specs.Sets.{is_among}
use Rattle.dp_domain.specs.declared.term.Term.{Term}
use Rattle.dp_domain.specs.declared.term.Term.TheVariants.{Var, Const}
use Rattle.fz_model.specs.declared.model.Basic.{Basic}
use Rattle.fz_model.specs.declared.model.Basic.TheVariants as basic
use Rattle.fz_model.specs.declared.model.Expr.{Expr}
use Rattle.fz_model.specs.declared.model.Expr.TheVariants as expr
use Rattle.fz_model.specs.declared.model.Item.{Item}
use Rattle.fz_model.specs.declared.model.Item.TheVariants as item
use Rattle.fz_model.specs.declared.model.SetText.{SetText}
use Rattle.fz_model.specs.declared.model.SetText.TheVariants as set

-- ---- one value

-- 1 for true, 0 for false
abbrev pub number_of : Bool → ℤ
number_of true = pos 1
number_of false = pos 0

-- the term that an item is
abbrev pub term_of_item : Item → Term
term_of_item (item.Int name value) = Const value
term_of_item (item.Bool name value) = Const (number_of value)
term_of_item (item.Var name kind output value var) = Var var
term_of_item _ = Const (pos 0)

-- the term of a literal or a name
abbrev pub term_of : List Item → Basic → Term
term_of items (basic.Bool value) = Const (number_of value)
term_of items (basic.Int value) = Const value
term_of items (basic.Item place) = option_map_or term_of_item (slice_get items place) (Const (pos 0))

abbrev pub term_of_expr : List Item → Expr → Term
term_of_expr items (expr.Basic b) = term_of items b
term_of_expr items _ = Const (pos 0)

-- argument k, counted from 0, as a term
abbrev pub arg_term : List Item → List Expr → ℕ → Term
arg_term items args k = option_map_or (term_of_expr items) (slice_get args k) (Const (pos 0))

-- ---- arrays

abbrev pub elements_of_item : Item → List Basic
elements_of_item (item.Consts name bools elements) = elements
elements_of_item (item.Vars name kind output elements) = elements
elements_of_item _ = []

abbrev pub elements_of_basic : List Item → Basic → List Basic
elements_of_basic items (basic.Item place) = option_map_or elements_of_item (slice_get items place) []
elements_of_basic items _ = []

abbrev pub elements_of_expr : List Item → Expr → List Basic
elements_of_expr items (expr.Array elements) = elements
elements_of_expr items (expr.Basic b) = elements_of_basic items b
elements_of_expr items (expr.Set s) = []

-- the elements of argument k
abbrev pub arg_elements : List Item → List Expr → ℕ → List Basic
arg_elements items args k = option_map_or (elements_of_expr items) (slice_get args k) []

abbrev pub terms_of : List Item → List Basic → List Term
terms_of items elements = map (term_of items) elements

-- argument k as a list of terms
abbrev pub arg_terms : List Item → List Expr → ℕ → List Term
arg_terms items args k = terms_of items (arg_elements items args k)

-- ---- sets

-- whether the number is in the set
abbrev pub is_in_set : SetText → ℤ → Bool
is_in_set (set.Range first last) v = int_le first v && int_le v last
is_in_set (set.List numbers) v = is_among v numbers

abbrev pub set_of_item : Item → SetText
set_of_item (item.Set name s) = s
set_of_item _ = set.List []

abbrev pub set_of_basic : List Item → Basic → SetText
set_of_basic items (basic.Item place) = option_map_or set_of_item (slice_get items place) (set.List [])
set_of_basic items _ = set.List []

abbrev pub set_of_expr : List Item → Expr → SetText
set_of_expr items (expr.Set s) = s
set_of_expr items (expr.Basic b) = set_of_basic items b
set_of_expr items (expr.Array elements) = set.List []

-- argument k as a set
abbrev pub arg_set : List Item → List Expr → ℕ → SetText
arg_set items args k = option_map_or (set_of_expr items) (slice_get args k) (set.List [])
