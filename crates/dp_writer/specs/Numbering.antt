-- Numbering atoms one after another.
use Rattle.std.specs.Prelude.{◌≡◌, ℕ, ◌+◌, ◌≤◌, ◌^◌, if◌then◌else◌, Option, Some, None, List, [], ◌∷◌, ◌++◌, length, ℤ}
use Rattle.std.specs.List.{flat_map, list_any}
use Rattle.std.specs.Option.{option_to_list}
use Rattle.dp_base.specs.Lists.{Each}
use Rattle.dp_domain.specs.Atoms.{Atomic}
use Rattle.dp_lines.specs.Allowed.{IsAllowed}
use Rattle.dp_lines.specs.Spelling.{line_text}
use Rattle.dp_lines.specs.declared.line.Line.{Line}
use Rattle.dp_lines.specs.declared.line.Claim.{Claim}
use Rattle.dp_lines.specs.declared.line.Claim.TheVariants.{Unsat, Bound}
use Rattle.dp_writer.specs.Atoms.{Named, defined, named_defined, same, literal_in}
use Rattle.dp_writer.specs.Steps.{Step, atoms_of, definition, line_of}

-- the table with a defined atom, which goes last where it is new
abbrev pub with_atom : List Atomic → Atomic → List Atomic
with_atom table a = if list_any (same a) table then table else table ++ a ∷ []

-- the line of a defined atom, where it is new
abbrev pub line_if_new : List Atomic → Named → List Line
line_if_new table a = if list_any (same a.atom) table then [] else definition (length table + 1) a ∷ []

-- the table with the atoms, each in turn
abbrev pub with_atoms : List Atomic → List Named → List Atomic
with_atoms table [] = table
with_atoms table (a ∷ atoms) = with_atoms (with_atom table (defined a.atom)) atoms

-- the lines of the atoms that are new, each in turn
abbrev pub new_lines : List Atomic → List Named → List Line
new_lines table [] = []
new_lines table (a ∷ atoms) = line_if_new table (named_defined a) ++ new_lines (with_atom table (defined a.atom)) atoms

-- the literals of the atoms, each by the table of its turn
abbrev pub literals_by : List Atomic → List Named → List ℤ
literals_by table [] = []
literals_by table (a ∷ atoms) = literal_in table a.atom ∷ literals_by (with_atom table (defined a.atom)) atoms

-- what a claim says, by its literals
abbrev pub claim_literals : Claim → Option ℤ
claim_literals Unsat = None
claim_literals (Bound literal) = Some literal

-- the claim is that of the step
abbrev pub IsClaimLine : List Atomic → Step → Claim → Type 0
IsClaimLine table step claim = option_to_list (claim_literals claim) ≡ literals_by table (atoms_of step)

-- the lines of a step with this number: those of the atoms that are new, then its own
abbrev pub step_lines : List Atomic → ℕ → Step → List Line
step_lines table number step =
    new_lines table (atoms_of step) ++ line_of (with_atoms table (atoms_of step)) number step ∷ []

-- the atoms are in the table now, and the lines of those that were new are in the text
pub record Defines (atoms : List Named) (old new : List Atomic) (before after : List ℕ) : Type 0 where
  pub table : new ≡ with_atoms old atoms
  pub few : length new ≤ 10 ^ 18
  pub text : after ≡ before ++ flat_map line_text (new_lines old atoms)
  pub allowed : Each IsAllowed (new_lines old atoms)

-- the atoms of the step are in the table now, and the text is its lines
pub record Writes (number : ℕ) (step : Step) (old new : List Atomic) (text : List ℕ) : Type 0 where
  pub table : new ≡ with_atoms old (atoms_of step)
  pub few : length new ≤ 10 ^ 18
  pub spelled : text ≡ flat_map line_text (step_lines old number step)
  pub allowed : Each IsAllowed (step_lines old number step)
