-- Nogoods: atoms that no solution meets all together.
use Rattle.std.specs.Prelude.{◌≡◌, ℕ, Bool, true, false, not, ◌&&◌, ◌||◌, ◌⊎◌, ◌==◌, List, [], ◌∷◌, map, filter, ℤ, int_le}
use Rattle.std.specs.List.{list_any}
use Rattle.dp_base.specs.Lists.{Among}
use Rattle.dp_base.specs.Scopes.{in_order}
use Rattle.dp_domain.specs.Atoms.{Atomic, meets}
use Rattle.dp_domain.specs.declared.atom.Op.{Op}
use Rattle.dp_domain.specs.declared.atom.Op.TheVariants.{Ge, Le, Eq, Ne}
use Rattle.dp_domain.specs.Faces.{Face}
use Rattle.dp_domain.specs.States.{Domains, entails, entails_all, is_dead}

-- whether the comparisons are one
abbrev pub same_op : Op → Op → Bool
same_op Ge Ge = true
same_op Le Le = true
same_op Eq Eq = true
same_op Ne Ne = true
same_op o p = false

-- whether the atoms are one
abbrev pub same_atom : Atomic → Atomic → Bool
same_atom a b = (a.var == b.var) && (same_op a.op b.op && (int_le a.value b.value && int_le b.value a.value))

-- whether the atom is one of these
abbrev pub has_atom : List Atomic → Atomic → Bool
has_atom atoms a = list_any (λ b. same_atom b a) atoms

-- the atoms in order, each once, at the first of its places
abbrev pub each_once : List Atomic → List Atomic
each_once [] = []
each_once (a ∷ atoms) = a ∷ filter (λ b. not (same_atom a b)) (each_once atoms)

-- no atom stands twice
abbrev pub IsOnce : List Atomic → Type 0
IsOnce [] = Unit {0}
IsOnce (a ∷ atoms) = (¬ (Among a atoms)) × IsOnce atoms

-- the variables of the atoms
abbrev pub variables : List Atomic → List ℕ
variables atoms = map (λ a. a.var) atoms

-- the variables of the nogood, each once, in order of declaration
abbrev pub scope_of : List Atomic → List ℕ
scope_of atoms = in_order (variables atoms)

-- some atom fails
abbrev pub MeetsNogood : List Atomic → (ℕ → ℤ) → Type 0
MeetsNogood atoms s = (a : Atomic) × Among a atoms × (meets a (s a.var) ≡ false)

-- a variable has no value, or every atom is entailed
abbrev pub ClashesNogood : List Atomic → Domains → Type 0
ClashesNogood atoms d = (is_dead d ≡ true) ⊎ ((a : Atomic) → Among a atoms → entails d a ≡ true)

-- the same as a test
abbrev pub test_nogood : List Atomic → Domains → Bool
test_nogood atoms d = is_dead d || entails_all d atoms

-- whether [x == v] is one of the atoms
abbrev pub point_nogood : List Atomic → ℕ → ℤ → Bool
point_nogood atoms x v = has_atom atoms (record { var = x; op = Eq; value = v })

-- its variables and its test; it may take the value of an `==` out of that variable
abbrev pub face_nogood : List Atomic → Face
face_nogood atoms = record { scope = scope_of atoms; test = test_nogood atoms; point = point_nogood atoms }
