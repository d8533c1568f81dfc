-- The order of a log's lines, seen whole.
use Rattle.std.specs.Prelude.{◌≡◌, ℕ, ◌+◌, Bool, true, false, not, List, [], ◌∷◌, filter}
use Rattle.dp_domain.specs.Atoms.{Atomic}
use Rattle.dp_lines.specs.declared.line.Line.{Line}
use Rattle.dp_lines.specs.declared.line.Line.TheVariants.{Atom, Inference, Nogood, Delete, Conclude}
use Rattle.dp_writer.specs.Steps.{Step, atoms_in, counted, definitions, line_of, lines, table}

-- whether the line defines an atom
abbrev pub is_definition : Line → Bool
is_definition (Atom id name op value) = true
is_definition (Inference id premises consequent constraint label) = false
is_definition (Nogood id atoms hints) = false
is_definition (Delete id) = false
is_definition (Conclude claim) = false

-- the own lines of steps, with numbers from n + 1 on, and with the literals by these defined atoms
abbrev pub own_lines : List Atomic → ℕ → List Step → List Line
own_lines atoms n [] = []
own_lines atoms n (step ∷ steps) = line_of atoms (n + 1) step ∷ own_lines atoms (n + counted step) steps

-- of the lines of a log, those that define atoms are the lines of the whole table, numbered from 1, and
-- the others are the steps' own, numbered from 1, by the whole table
pub record IsInOrder (steps : List Step) : Type 0 where
  pub defined : filter is_definition (lines steps) ≡ definitions 0 (table steps)
  pub own : filter (λ line. not (is_definition line)) (lines steps) ≡ own_lines (atoms_in (table steps)) 0 steps
