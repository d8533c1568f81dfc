-- Pairs of a variable and a value, and which of them atoms exclude.
use Rattle.std.specs.Prelude.{ℕ, Bool, not, ◌&&◌, ◌==◌, List, ℤ}
use Rattle.dp_domain.specs.Atoms.{Atomic, meets}
use Rattle.dp_domain.specs.Explanations.{has}
use Rattle.dp_domain.specs.States.{Domains, fails_one, values}

-- a collection of pairs, by its test
abbrev pub Pairs : Type 0
Pairs = ℕ → ℤ → Bool

-- whether the atom is on the variable, and the value does not meet it
abbrev pub excludes : Atomic → Pairs
excludes a x v = (a.var == x) && not (meets a v)

-- the pairs of the state that one of the atoms excludes
abbrev pub excluded : Domains → List Atomic → Pairs
excluded d atoms x v = has (values d x) v && fails_one x atoms v

-- the pairs of a set of values for each variable
abbrev pub pairs_of : Domains → Pairs
pairs_of sets x v = has (values sets x) v
