-- What the lines of a log have made known so far.
use Rattle.std.specs.Prelude.{ℕ, Option, Some, None, List, [], ◌∷◌, if◌then◌else◌, nat_eq, ℤ, pos, negsuc, ◌+◌, is_some}
use Rattle.std.specs.Map.{lookup}
use Rattle.std.specs.Option.{option_map}
use Rattle.dp_domain.specs.Atoms.{Atomic, negated}
use Rattle.dp_domain.specs.declared.verdict.Verdict.{Verdict}

-- the atoms that are defined, the denial of each step, and the conclusion
pub record Known : Type 0 where
  pub atoms : List (ℕ × Atomic)
  pub steps : List (ℕ × List Atomic)
  pub conclusion : Option Verdict

-- nothing is known before the first line
abbrev pub nothing : Known
nothing = record { atoms = []; steps = []; conclusion = None }

-- what stands under the number
abbrev pub found : {A : Type 0} → ℕ → List (ℕ × A) → Option A
found k entries = lookup (nat_eq k) entries

-- a literal's atom: a positive number stands for the atom of that number, a negative one for its negation
abbrev pub literal_atom : List (ℕ × Atomic) → ℤ → Option Atomic
literal_atom atoms (pos n) = found n atoms
literal_atom atoms (negsuc n) = option_map negated (found (n + 1) atoms)

-- an item before the others, where there is one
abbrev pub cons_some : {A : Type 0} → Option A → List A → List A
cons_some None xs = xs
cons_some (Some x) xs = x ∷ xs

-- the atoms of the literals, in their order; one that is not defined is left out
abbrev pub literal_atoms : List (ℕ × Atomic) → List ℤ → List Atomic
literal_atoms atoms [] = []
literal_atoms atoms (l ∷ literals) = cons_some (literal_atom atoms l) (literal_atoms atoms literals)

-- the first literal whose atom is not defined
abbrev pub first_undefined : List (ℕ × Atomic) → List ℤ → Option ℤ
first_undefined atoms [] = None
first_undefined atoms (l ∷ literals) = if is_some (literal_atom atoms l) then first_undefined atoms literals else Some l

-- the first hint that is no step so far
abbrev pub first_unknown : List (ℕ × List Atomic) → List ℕ → Option ℕ
first_unknown steps [] = None
first_unknown steps (h ∷ hints) = if is_some (found h steps) then first_unknown steps hints else Some h

-- the denials of the hints, in their order
abbrev pub denials : List (ℕ × List Atomic) → List ℕ → List (List Atomic)
denials steps [] = []
denials steps (h ∷ hints) = cons_some (found h steps) (denials steps hints)
