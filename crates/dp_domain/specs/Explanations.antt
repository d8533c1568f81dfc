-- Why a part clashes, or gives an atom: atoms of the state that suffice at the initial state.
use Rattle.std.specs.Prelude.{◌≡◌, ℕ, Bool, true, false, not, ◌&&◌, Option, Some, None, if◌then◌else◌, List, [], ◌∷◌, ◌++◌, map, filter, ℤ, int_lt, int_le}
use Rattle.std.specs.List.{flat_map, list_any}
use Rattle.dp_base.specs.Lists.{Among, Each}
use Rattle.dp_domain.specs.Atoms.{Atomic, negated}
use Rattle.dp_domain.specs.Sets.{least, greatest}
use Rattle.dp_domain.specs.States.{Domains, cut_all, entails, values}
use Rattle.dp_domain.specs.Faces.{Face, AgreesOn}
use Rattle.dp_domain.specs.Turns.{at_least, at_most, other_than}

-- whether both are there and the first is less than the second
abbrev pub is_less : Option ℤ → Option ℤ → Bool
is_less (Some v) (Some w) = int_lt v w
is_less (Some v) None = false
is_less None w = false

-- the bound as an atom, where it says more than the initial one
abbrev pub bound_atom : (ℤ → Atomic) → Bool → Option ℤ → List Atomic
bound_atom atom true (Some v) = atom v ∷ []
bound_atom atom true None = []
bound_atom atom false bound = []

-- whether the number is one of these
abbrev pub has : List ℤ → ℤ → Bool
has xs v = list_any (λ w. int_le w v && int_le v w) xs

-- whether the number lies strictly between the bounds, and is not one of the values
abbrev pub is_hole : List ℤ → ℤ → Bool
is_hole xs v = (is_less (least xs) (Some v) && is_less (Some v) (greatest xs)) && not (has xs v)

-- what the values of a variable say beyond its initial values: a lower bound, an upper bound, holes in ascending order
abbrev pub described : List ℤ → List ℤ → ℕ → List Atomic
described initial now x =
    bound_atom (at_least x) (is_less (least initial) (least now)) (least now)
    ++ bound_atom (at_most x) (is_less (greatest now) (greatest initial)) (greatest now)
    ++ map (other_than x) (filter (is_hole now) initial)

-- what the state says of the scope's variables beyond the initial state
abbrev pub description : Domains → Domains → List ℕ → List Atomic
description initial now scope = flat_map (λ x. described (values initial x) (values now x) x) scope

-- what a description is for: its atoms are of the scope and hold at the state, and the initial state cut by them gives the scope the state's values
pub record Describes (initial now : Domains) (scope : List ℕ) (atoms : List Atomic) : Type 0 where
  pub of_scope : Each (λ a. Among a.var scope) atoms
  pub entailed : Each (λ a. entails now a ≡ true) atoms
  pub enough : AgreesOn scope (cut_all initial atoms) now

-- the target fails, where there is one
abbrev pub failing : Option Atomic → List Atomic
failing None = []
failing (Some a) = negated a ∷ []

-- the state does not entail the target, where there is one
abbrev pub IsOpen : Domains → Option Atomic → Type 0
IsOpen d None = Unit {0}
IsOpen d (Some a) = entails d a ≡ false

-- whether the part clashes at the state with these atoms where the target fails
abbrev pub suffices : Face → Domains → Option Atomic → List Atomic → Bool
suffices f d target atoms = f.test (cut_all d (atoms ++ failing target))

-- each atom in turn is dropped where those kept and those to come suffice without it
abbrev pub needed : Face → Domains → Option Atomic → List Atomic → List Atomic → List Atomic
needed f initial target kept [] = kept
needed f initial target kept (a ∷ rest) =
    if suffices f initial target (kept ++ rest) then needed f initial target kept rest else needed f initial target (kept ++ a ∷ []) rest

-- the explanation of a clash at the state, or of a target that follows there
abbrev pub explanation : Face → Domains → Domains → Option Atomic → List Atomic
explanation f initial now target = needed f initial target [] (description initial now f.scope)

-- what an explanation is for: its atoms are of the scope and hold at the state, they suffice at the initial state, and no atom can be left out
pub record Explains (f : Face) (initial now : Domains) (target : Option Atomic) (atoms : List Atomic) : Type 0 where
  pub of_scope : Each (λ a. Among a.var f.scope) atoms
  pub entailed : Each (λ a. entails now a ≡ true) atoms
  pub enough : suffices f initial target atoms ≡ true
  pub minimal : (front back : List Atomic) (a : Atomic) → atoms ≡ front ++ a ∷ back → suffices f initial target (front ++ back) ≡ false
