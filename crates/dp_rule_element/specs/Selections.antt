-- Selections: an index, an array, and a value that is the entry of the array at the index.
use Rattle.std.specs.Prelude.{◌≡◌, ℕ, ◌+◌, Bool, true, false, not, ◌&&◌, ◌||◌, ◌⊎◌, ◌==◌, Some, slice_get, List, ◌∷◌, ℤ, pos}
use Rattle.std.specs.List.{enumerate_from, list_any}
use Rattle.dp_base.specs.Lists.{Among}
use Rattle.dp_domain.specs.Faces.{Face}
use Rattle.dp_domain.specs.Sets.{is_among, share}
use Rattle.dp_domain.specs.States.{Domains, is_dead}
use Rattle.dp_domain.specs.Terms.{term_at, term_scope, term_values}
use Rattle.dp_domain.specs.declared.term.Term.{Term}
use Rattle.dp_domain.specs.declared.term.Term.TheVariants.{Var, Const}

-- an index, the entries of an array, and the value that the entry at the index is to have
pub record Selection : Type 0 where
  pub index : Term
  pub array : List Term
  pub value : Term

-- the terms of the constraint
abbrev pub terms_of : Selection → List Term
terms_of q = q.index ∷ q.value ∷ q.array

-- the variables of the constraint, each once, in order of declaration
abbrev pub scope_of : Selection → List ℕ
scope_of q = term_scope (terms_of q)

-- the term is entry i of the array, counted from 1
abbrev pub IsEntry : List Term → ℤ → Term → Type 0
IsEntry array i t = (place : ℕ) × (i ≡ pos (place + 1)) × (slice_get array place ≡ Some t)

-- the array has an entry at the index, and the entry equals the value
abbrev pub MeetsElement : Selection → (ℕ → ℤ) → Type 0
MeetsElement q s = (entry : Term) × IsEntry q.array (term_at s q.index) entry × (term_at s entry ≡ term_at s q.value)

-- no entry at a number that the index may be shares a number with the value
abbrev pub NoneSelectable : Selection → Domains → Type 0
NoneSelectable q d =
    (i : ℤ) (entry : Term) → Among i (term_values d q.index) → IsEntry q.array i entry → (v : ℤ) → Among v (term_values d entry) → ¬ (Among v (term_values d q.value))

-- a variable has no value, or no entry can be selected
abbrev pub ClashesElement : Selection → Domains → Type 0
ClashesElement q d = (is_dead d ≡ true) ⊎ NoneSelectable q d

-- the entries with their numbers, counted from 1
abbrev pub numbered : List Term → List (ℕ × Term)
numbered array = enumerate_from 1 array

-- whether the index may be the entry's number, and the entry shares a number with the value
abbrev pub is_selectable : Domains → Term → Term → ℕ × Term → Bool
is_selectable d index value e = is_among (pos e.0) (term_values d index) && share (term_values d e.1) (term_values d value)

-- whether some entry can be selected
abbrev pub any_selectable : Selection → Domains → Bool
any_selectable q d = list_any (is_selectable d q.index q.value) (numbered q.array)

-- whether it clashes, as a test
abbrev pub test_element : Selection → Domains → Bool
test_element q d = is_dead d || not (any_selectable q d)

-- whether the term is this variable
abbrev pub is_variable : Term → ℕ → Bool
is_variable (Var y) x = y == x
is_variable (Const v) x = false

-- its variables and its test; it may take out every value of the index, where that is a variable
abbrev pub face_element : Selection → Face
face_element q = record { scope = scope_of q; test = test_element q; point = λ x v. is_variable q.index x }
