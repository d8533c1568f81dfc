-- Which atoms the literals of a log stand for.
use Rattle.std.specs.Prelude.{◌≡◌, ℕ, zero, suc, Option, Some, None, List, ◌++◌, slice_get, ℤ, pos, negsuc}
use Rattle.std.specs.List.{flat_map}
use Rattle.std.specs.Option.{option_map}
use Rattle.dp_base.specs.Lists.{Each}
use Rattle.dp_domain.specs.Atoms.{Atomic, negated}
use Rattle.dp_writer.specs.Atoms.{literal_in}
use Rattle.dp_writer.specs.Steps.{Step, atoms_in, atoms_of, table}

-- the defined atom with this number
abbrev pub atom_at : List Atomic → ℕ → Option Atomic
atom_at atoms zero = None
atom_at atoms (suc place) = slice_get atoms place

-- the atom of a literal: that of its number, or the negation of it for a negative
abbrev pub atom_of : List Atomic → ℤ → Option Atomic
atom_of atoms (pos n) = atom_at atoms n
atom_of atoms (negsuc n) = option_map negated (atom_at atoms (suc n))

-- each atom of the steps is that of its literal
abbrev pub AreRead : List Step → Type 0
AreRead steps = Each (λ a. atom_of (atoms_in (table steps)) (literal_in (atoms_in (table steps)) a.atom) ≡ Some a.atom) (flat_map atoms_of steps)

-- and its literal stays the same with later steps
abbrev pub Stay : List Step → List Step → Type 0
Stay steps later =
    Each (λ a. literal_in (atoms_in (table (steps ++ later))) a.atom ≡ literal_in (atoms_in (table steps)) a.atom) (flat_map atoms_of steps)
