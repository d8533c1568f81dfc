-- States: what each variable may still be.
use Rattle.std.specs.Prelude.{◌≡◌, ℕ, ◌<◌, Bool, true, false, not, ◌&&◌, ◌==◌, List, [], ◌∷◌, length, get_or, slice_set, ℤ}
use Rattle.std.specs.Prelude.{filter}
use Rattle.std.specs.List.{count_by, list_any, list_all, sum_by}
use Rattle.dp_base.specs.Lists.{Among, Each}
use Rattle.dp_domain.specs.Atoms.{Atomic, meets}

-- for each variable, in order of declaration, the values that it may take, in ascending order
abbrev pub Domains : Type 0
Domains = List (List ℤ)

-- the values that the variable may take; none where there is no such variable
abbrev pub values : Domains → ℕ → List ℤ
values d x = get_or d x []

-- whether there is no value
abbrev pub is_nil : List ℤ → Bool
is_nil [] = true
is_nil (x ∷ xs) = false

-- whether some variable has no value left
abbrev pub is_dead : Domains → Bool
is_dead d = list_any is_nil d

-- how many variables have no value left
abbrev pub nil_count : Domains → ℕ
nil_count d = count_by is_nil d

-- whether each value of the atom's variable meets the atom
abbrev pub entails : Domains → Atomic → Bool
entails d a = list_all (meets a) (values d a.var)

-- whether each of the atoms is entailed
abbrev pub entails_all : Domains → List Atomic → Bool
entails_all d atoms = list_all (entails d) atoms

-- the state in which the atom's variable keeps the values that meet the atom
abbrev pub cut : Domains → Atomic → Domains
cut d a = slice_set d a.var (filter (meets a) (values d a.var))

-- the state cut by each of the atoms
abbrev pub cut_all : Domains → List Atomic → Domains
cut_all d [] = d
cut_all d (a ∷ atoms) = cut_all (cut d a) atoms

-- how many values there are in all
abbrev pub total : Domains → ℕ
total d = sum_by length d

-- each atom is on a variable of the state
abbrev pub AreOf : Domains → List Atomic → Type 0
AreOf d atoms = Each (λ a. a.var < length d) atoms

-- the assignment gives each variable one of its values
abbrev pub LiesIn : (ℕ → ℤ) → Domains → Type 0
LiesIn s d = (x : ℕ) → x < length d → Among (s x) (values d x)

-- e is d, or smaller: of the same variables, each with no other values than in d
pub record IsWithin (e d : Domains) : Type 0 where
  pub count : length e ≡ length d
  pub each : (x : ℕ) (v : ℤ) → Among v (values e x) → Among v (values d x)

-- whether the value, as the variable's, fails one of the atoms on it
abbrev pub fails_one : ℕ → List Atomic → ℤ → Bool
fails_one x atoms v = list_any (λ a. (a.var == x) && not (meets a v)) atoms

-- the state in which the variable keeps the values that fail one of the atoms on it
abbrev pub refuted : Domains → ℕ → List Atomic → Domains
refuted d x atoms = slice_set d x (filter (fails_one x atoms) (values d x))
