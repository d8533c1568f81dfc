-- What a part gives at a state: a clash, or the one atom that is its turn.
use Rattle.std.specs.Prelude.{◌≡◌, ℕ, ◌+◌, ◌<◌, ◌≤◌, ◌⊎◌, Bool, true, false, not, ◌&&◌, Option, Some, None, option_map, filter, if◌then◌else◌, List, [], ◌∷◌, length, get_or, ℤ, pos, ◌≤ℤ◌}
use Rattle.dp_base.specs.Lists.{Among}
use Rattle.dp_domain.specs.Atoms.{Atomic, negated}
use Rattle.dp_domain.specs.declared.atom.Op.{Op}
use Rattle.dp_domain.specs.declared.atom.Op.TheVariants.{Ge, Le, Eq, Ne}
use Rattle.dp_domain.specs.declared.found.Found.{Found}
use Rattle.dp_domain.specs.declared.found.Found.TheVariants.{Clash, Atom}
use Rattle.dp_domain.specs.Sets.{least, greatest}
use Rattle.dp_domain.specs.States.{Domains, cut, entails, is_dead, values}
use Rattle.dp_domain.specs.Faces.{Face}

-- [x >= v]
abbrev pub at_least : ℕ → ℤ → Atomic
at_least x v = record { var = x; op = Ge; value = v }

-- [x <= v]
abbrev pub at_most : ℕ → ℤ → Atomic
at_most x v = record { var = x; op = Le; value = v }

-- [x != v]
abbrev pub other_than : ℕ → ℤ → Atomic
other_than x v = record { var = x; op = Ne; value = v }

-- the atom is new: not entailed; and it follows: the part clashes where the atom fails
abbrev pub gives : Face → Domains → Atomic → Bool
gives f d a = not (entails d a) && f.test (cut d (negated a))

-- the first of two, where it is there
abbrev pub or_else : {A : Type 0} → Option A → Option A → Option A
or_else None b = b
or_else (Some a) b = Some a

-- the greatest new lower bound that follows, among the values
abbrev pub new_lower : Face → Domains → ℕ → Option Atomic
new_lower f d x = option_map (at_least x) (greatest (filter (λ v. gives f d (at_least x v)) (values d x)))

-- the least new upper bound that follows, among the values
abbrev pub new_upper : Face → Domains → ℕ → Option Atomic
new_upper f d x = option_map (at_most x) (least (filter (λ v. gives f d (at_most x v)) (values d x)))

-- the least value that is taken out, among the part's points
abbrev pub new_hole : Face → Domains → ℕ → Option Atomic
new_hole f d x = option_map (other_than x) (least (filter (λ v. f.point x v && gives f d (other_than x v)) (values d x)))

-- what the part gives on one variable: a lower bound, else an upper bound, else a hole
abbrev pub given_on : Face → Domains → ℕ → Option Atomic
given_on f d x = or_else (new_lower f d x) (or_else (new_upper f d x) (new_hole f d x))

-- what it gives on the first variable that it gives something on
abbrev pub given : Face → Domains → List ℕ → Option Atomic
given f d [] = None
given f d (x ∷ xs) = or_else (given_on f d x) (given f d xs)

-- the turn of one part at a nonempty state
abbrev pub turn_of : Face → Domains → Option Found
turn_of f d = if f.test d then Some Clash else option_map Atom (given f d f.scope)

-- all points of the variable that are newly taken out are among these numbers
abbrev pub HoldsHoles : Face → Domains → ℕ → List ℤ → Type 0
HoldsHoles f d x xs = (v : ℤ) → f.point x v ≡ true → gives f d (other_than x v) ≡ true → Among v xs

-- ---- the same in words of all integers

-- whether a part may give an atom of this comparison, where it is told whether the value is a point
abbrev pub is_permitted : Op → Bool → Bool
is_permitted Ge point = true
is_permitted Le point = true
is_permitted Eq point = false
is_permitted Ne point = point

-- a bound of a variable of the scope, or a point taken out; new; and it follows
pub record IsCandidate (f : Face) (d : Domains) (a : Atomic) : Type 0 where
  pub of_scope : Among a.var f.scope
  pub permitted : is_permitted a.op (f.point a.var a.value) ≡ true
  pub given : gives f d a ≡ true

-- on one variable the first comes before the second, or is it: a greater `>=`, then a lesser `<=`, then a lesser `!=`
abbrev pub Precedes : Op → ℤ → Op → ℤ → Type 0
Precedes Ge v Ge w = w ≤ℤ v
Precedes Ge v Le w = Unit {0}
Precedes Ge v Eq w = Unit {0}
Precedes Ge v Ne w = Unit {0}
Precedes Le v Ge w = ⊥
Precedes Le v Le w = v ≤ℤ w
Precedes Le v Eq w = Unit {0}
Precedes Le v Ne w = Unit {0}
Precedes Eq v o w = ⊥
Precedes Ne v Ge w = ⊥
Precedes Ne v Le w = ⊥
Precedes Ne v Eq w = Unit {0}
Precedes Ne v Ne w = v ≤ℤ w

-- a candidate on the least variable that has one, there before all others; its number is a value, and no set is left empty
pub record IsFirst (f : Face) (d : Domains) (a : Atomic) : Type 0 where
  pub candidate : IsCandidate f d a
  pub variable : (b : Atomic) → IsCandidate f d b → a.var ≤ b.var
  pub preferred : (b : Atomic) → IsCandidate f d b → b.var ≡ a.var → Precedes a.op a.value b.op b.value
  pub value : Among a.value (values d a.var)
  pub alive : is_dead (cut d a) ≡ false

-- Clash where the part clashes; else the first candidate, and none exactly where there is none
abbrev pub IsTurn : Face → Domains → Option Found → Type 0
IsTurn f d (Some Clash) = f.test d ≡ true
IsTurn f d (Some (Atom a)) = (f.test d ≡ false) × IsFirst f d a
IsTurn f d None = (f.test d ≡ false) × ((a : Atomic) → ¬ (IsCandidate f d a))
