-- Atoms in a log: which are defined by lines of their own, and which literals stand for the others.
use Rattle.std.specs.Prelude.{ℕ, ◌+◌, ◌==◌, Bool, true, false, not, ◌&&◌, if◌then◌else◌, List, [], ◌∷◌, filter, ℤ, pos, neg_ℤ}
use Rattle.std.specs.List.{position_or_len}
use Rattle.std.specs.Ordering.{int_eq}
use Rattle.dp_domain.specs.Atoms.{Atomic, negated}
use Rattle.dp_domain.specs.declared.atom.Op.{Op}
use Rattle.dp_domain.specs.declared.atom.Op.TheVariants.{Ge, Le, Eq, Ne}

-- an atom with the name of its variable
pub record Named : Type 0 where
  pub name : List ℕ
  pub atom : Atomic

-- whether the atoms of this comparison have numbers of their own
abbrev pub is_defined : Op → Bool
is_defined Ge = true
is_defined Le = false
is_defined Eq = true
is_defined Ne = false

-- the atom with a number of its own: this one, or its negation
abbrev pub defined : Atomic → Atomic
defined a = if is_defined a.op then a else negated a

-- the same under the variable's name
abbrev pub named_defined : Named → Named
named_defined a = record { name = a.name; atom = defined a.atom }

-- a number for each comparison
abbrev pub rank : Op → ℕ
rank Ge = 0
rank Le = 1
rank Eq = 2
rank Ne = 3

-- whether it is the same atom
abbrev pub same : Atomic → Atomic → Bool
same a b = (a.var == b.var) && ((rank a.op == rank b.op) && int_eq a.value b.value)

-- the atoms, each once, in the order of their first places
abbrev pub firsts : List Named → List Named
firsts [] = []
firsts (a ∷ atoms) = a ∷ filter (λ b. not (same a.atom b.atom)) (firsts atoms)

-- a number, or its negative
abbrev pub signed_by : Bool → ℕ → ℤ
signed_by true n = pos n
signed_by false n = neg_ℤ (pos n)

-- the number of a defined atom: its place in the table, from 1
abbrev pub number_in : List Atomic → Atomic → ℕ
number_in table a = position_or_len (same a) table + 1

-- the literal of an atom: its number, or the negative of its negation's
abbrev pub literal_in : List Atomic → Atomic → ℤ
literal_in table a = signed_by (is_defined a.op) (number_in table (defined a))
