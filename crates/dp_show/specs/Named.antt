-- The atoms that a log's lines define, by their names, and the literals that stand for them.
use Rattle.std.specs.Prelude.{ℕ, ◌+◌, Option, Some, None, is_some, List, [], ◌∷◌, if◌then◌else◌, nat_eq, ℤ, pos, negsuc}
use Rattle.std.specs.Map.{lookup}
use Rattle.std.specs.Option.{option_map}
use Rattle.dp_domain.specs.Atoms.{beyond, opposite}
use Rattle.dp_domain.specs.declared.atom.Op.{Op}
use Rattle.dp_lines.specs.Spelling.{atom_text}

-- an atomic constraint on the variable of a name
pub record Named : Type 0 where
  pub name : List ℕ
  pub op : Op
  pub value : ℤ

-- the atoms that are defined, by their numbers
abbrev pub Atoms : Type 0
Atoms = List (ℕ × Named)

-- the atom that holds exactly where this one fails
abbrev pub negated : Named → Named
negated a = record { name = a.name; op = opposite a.op; value = beyond a.op a.value }

-- the atom with this number
abbrev pub found : ℕ → Atoms → Option Named
found id atoms = lookup (nat_eq id) atoms

-- a literal's atom: a positive number stands for the atom of that number, a negative one for its negation
abbrev pub literal_atom : Atoms → ℤ → Option Named
literal_atom atoms (pos n) = found n atoms
literal_atom atoms (negsuc n) = option_map negated (found (n + 1) atoms)

-- the first literal whose atom is not defined
abbrev pub first_undefined : Atoms → List ℤ → Option ℤ
first_undefined atoms [] = None
first_undefined atoms (l ∷ literals) = if is_some (literal_atom atoms l) then first_undefined atoms literals else Some l

-- `[NAME OP VALUE]`; nothing where there is no atom
abbrev pub named_text : Option Named → List ℕ
named_text None = []
named_text (Some a) = atom_text a.name a.op a.value

-- a literal, as its atom is written
abbrev pub literal_text : Atoms → ℤ → List ℕ
literal_text atoms l = named_text (literal_atom atoms l)
