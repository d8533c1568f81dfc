-- Restrictions: a variable that lies in a set where a condition holds.
use Rattle.std.specs.Prelude.{◌≡◌, ℕ, Bool, true, false, not, ◌&&◌, ◌||◌, ◌⊎◌, ◌==◌, if◌then◌else◌, Option, Some, None, option_map, List, [], ◌∷◌, filter, ℤ}
use Rattle.dp_base.specs.Lists.{Among}
use Rattle.dp_base.specs.Scopes.{in_order}
use Rattle.dp_domain.specs.Atoms.{Atomic, meets, negated}
use Rattle.dp_domain.specs.Conditions.{Fails, in_force, with_condition}
use Rattle.dp_domain.specs.declared.found.Found.{Found}
use Rattle.dp_domain.specs.declared.found.Found.TheVariants.{Atom, Clash}
use Rattle.dp_domain.specs.Faces.{Face}
use Rattle.dp_domain.specs.Sets.{is_among, share}
use Rattle.dp_domain.specs.States.{Domains, entails, is_dead, is_nil, values}
use Rattle.dp_domain.specs.Supports.{bound_by}

-- an atom that the constraint waits for, if any; a variable; and the numbers that it may be
pub record Restriction : Type 0 where
  pub condition : Option Atomic
  pub var : ℕ
  pub set : List ℤ

-- the variables of the constraint, each once, in order of declaration
abbrev pub scope_of : Restriction → List ℕ
scope_of q = in_order (with_condition q.condition (q.var ∷ []))

-- the condition fails, or the variable lies in the set
abbrev pub MeetsWithin : Restriction → (ℕ → ℤ) → Type 0
MeetsWithin q s = Fails s q.condition ⊎ Among (s q.var) q.set

-- a variable has no value, or the condition is absent or entailed and no value of the variable lies in the set
abbrev pub ClashesWithin : Restriction → Domains → Type 0
ClashesWithin q d =
    (is_dead d ≡ true) ⊎ ((in_force d q.condition ≡ true) × ((v : ℤ) → Among v (values d q.var) → ¬ (Among v q.set)))

-- the same as a test
abbrev pub test_within : Restriction → Domains → Bool
test_within q d = is_dead d || (in_force d q.condition && not (share (values d q.var) q.set))

-- its variables and its test; it takes out no single values
abbrev pub face_within : Restriction → Face
face_within q = record { scope = scope_of q; test = test_within q; point = λ x v. false }

-- ---- what it gives

-- the condition, where it is there and not entailed
abbrev pub open_condition : Domains → Option Atomic → Option Atomic
open_condition d None = None
open_condition d (Some a) = if entails d a then None else Some a

-- where the variable is to lie in the set: a clash where no value does, else the bound of those that do
abbrev pub turn_within : ℕ → List ℤ → List ℤ → Option Found
turn_within x set values =
    if is_nil (filter (λ v. is_among v set) values) then Some Clash else option_map Atom (bound_by values (filter (λ v. is_among v set) values) x)

-- where the condition is to fail: the bound of the values that fail it
abbrev pub turn_against : Atomic → List ℤ → Option Found
turn_against a values = option_map Atom (bound_by values (filter (meets (negated a)) values) a.var)

-- whether the value fails the condition
abbrev pub fails_condition : Option Atomic → ℤ → Bool
fails_condition None v = false
fails_condition (Some a) v = not (meets a v)

-- whether the variable meets the constraint by this value: it fails the condition, or lies in the set
abbrev pub escapes : Restriction → ℕ → ℤ → Bool
escapes q x v = if q.var == x then is_among v q.set else fails_condition q.condition v
