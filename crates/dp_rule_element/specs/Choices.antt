-- What an element constraint gives: the entries that can be selected, and the numbers that they offer.
use Rattle.std.specs.Prelude.{◌≡◌, ℕ, Bool, true, false, not, ◌&&◌, if◌then◌else◌, Option, option_map, List, [], ◌∷◌, ◌++◌, ℤ, pos}
use Rattle.std.specs.List.{list_any}
use Rattle.dp_base.specs.Lists.{Among, Each}
use Rattle.dp_domain.specs.Atoms.{Atomic}
use Rattle.dp_domain.specs.Sets.{Collects, HasSmallEnds, IsDomain, IsSmall, LiesInOne, is_among}
use Rattle.dp_domain.specs.States.{Domains}
use Rattle.dp_domain.specs.Supports.{bound_by, hole_by}
use Rattle.dp_domain.specs.Terms.{term_values}
use Rattle.dp_domain.specs.Turns.{or_else}
use Rattle.dp_domain.specs.declared.found.Found.{Found}
use Rattle.dp_domain.specs.declared.found.Found.TheVariants.{Atom}
use Rattle.dp_domain.specs.declared.term.Term.{Term}
use Rattle.dp_domain.specs.declared.term.Term.TheVariants.{Var, Const}
use Rattle.dp_rule_element.specs.declared.choice.Choice.{Choice}
use Rattle.dp_rule_element.specs.declared.choice.Choice.TheVariants.{Nothing, Only, Free}
use Rattle.dp_rule_element.specs.Selections.{IsEntry, Selection, is_selectable, is_variable}

-- the selection of an index, entries and a value
abbrev pub selection : Term → List Term → Term → Selection
selection index array value = record { index = index; array = array; value = value }

-- the term is not the variable
abbrev pub IsOther : ℕ → Term → Type 0
IsOther x t = ¬ (t ≡ Var x)

-- whether the term is no variable, or one that is none of the others
abbrev pub is_apart : Term → List Term → Bool
is_apart (Var x) others = not (list_any (λ t. is_variable t x) others)
is_apart (Const v) others = true

-- whether neither the index nor the value is a variable that stands at another place too; an entry may stand again
abbrev pub stand_apart : Selection → Bool
stand_apart q = (is_apart q.index (q.value ∷ []) && is_apart q.index q.array) && is_apart q.value q.array

-- ---- the entries that can be selected

-- i is the number of an entry that can be selected
abbrev pub IsSelectable : Selection → Domains → ℤ → Type 0
IsSelectable q d i = (entry : Term) × (v : ℤ) × Among i (term_values d q.index) × IsEntry q.array i entry × Among v (term_values d entry) × Among v (term_values d q.value)

-- of numbered entries those that pass are: none; some, each of which is the variable; or, whatever the variable, another too
abbrev pub IsChoiceOf : (ℕ × Term → Bool) → List (ℕ × Term) → Choice → Type 0
IsChoiceOf p es Nothing = Each (λ e. p e ≡ false) es
IsChoiceOf p es (Only x) = (list_any p es ≡ true) × Each (λ e. p e ≡ true → e.1 ≡ Var x) es
IsChoiceOf p es Free = (x : ℕ) → (e : ℕ × Term) × Among e es × (p e ≡ true) × IsOther x e.1

-- the choice where one entry alone can be selected
abbrev pub choice_of : Term → Choice
choice_of (Var x) = Only x
choice_of (Const v) = Free

-- the choice with one entry more
abbrev pub joined : Choice → Term → Choice
joined Nothing t = choice_of t
joined (Only x) t = if is_variable t x then Only x else Free
joined Free t = Free

-- whether nothing can be selected
abbrev pub is_nothing : Choice → Bool
is_nothing Nothing = true
is_nothing (Only x) = false
is_nothing Free = false

-- whether, whatever the variable, another entry can be selected too
abbrev pub is_free : Choice → Bool
is_free Nothing = false
is_free (Only x) = false
is_free Free = true

-- whether the variable alone can be selected
abbrev pub is_only : Choice → ℕ → Bool
is_only Nothing x = false
is_only (Only y) x = is_variable (Var y) x
is_only Free x = false

-- ---- numbers

-- an entry that the index may select has the number
abbrev pub IsOffered : Domains → Term → List Term → ℤ → Type 0
IsOffered d index array v = (i : ℤ) × (entry : Term) × Among i (term_values d index) × IsEntry array i entry × Among v (term_values d entry)

-- small intervals with the property's small numbers, and with none that lacks it
pub record AreNumbers (intervals : List (ℤ × ℤ)) (P : ℤ → Type 0) : Type 0 where
  pub small : Each HasSmallEnds intervals
  pub only : (v : ℤ) → LiesInOne intervals v → P v
  pub all : (v : ℤ) → IsSmall v → P v → LiesInOne intervals v

-- the intervals are followed by such, and by nothing else
abbrev pub Gains : List (ℤ × ℤ) → List (ℤ × ℤ) → (ℤ → Type 0) → Type 0
Gains old now P = (more : List (ℤ × ℤ)) × (now ≡ old ++ more) × AreNumbers more P

-- one of the numbered entries has the property with the number
abbrev pub HasOne : (ℕ × Term → ℤ → Type 0) → List (ℕ × Term) → ℤ → Type 0
HasOne P es v = (e : ℕ × Term) × Among e es × P e v

-- the number is that of the entry, which can be selected
abbrev pub IsNumberOf : Domains → Term → Term → ℕ × Term → ℤ → Type 0
IsNumberOf d index value e v = (is_selectable d index value e ≡ true) × (v ≡ pos e.0)

-- the number is one of the entry, which the index may select
abbrev pub IsValueOf : Domains → Term → ℕ × Term → ℤ → Type 0
IsValueOf d index e v = (is_among (pos e.0) (term_values d index) ≡ true) × Among v (term_values d e.1)

-- ---- what is given

-- the atom is what is given by a domain of the numbers with the property
abbrev pub IsGivenBy : (List ℤ → Option Atomic) → (ℤ → Type 0) → Option Atomic → Type 0
IsGivenBy by P atom = (good : List ℤ) × IsDomain good × Collects good P × (atom ≡ by good)

-- what supported values give: a bound, else the least value that is not supported, taken out
abbrev pub atom_by : List ℤ → List ℤ → ℕ → Option Atomic
atom_by values good x = or_else (bound_by values good x) (hole_by values good x)

-- the atom that is given, as a turn
abbrev pub as_turn : Option Atomic → Option Found
as_turn given = option_map Atom given
