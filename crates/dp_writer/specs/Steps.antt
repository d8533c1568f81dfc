-- The text of a log, as a function of its steps.
use Rattle.std.specs.Prelude.{ℕ, ◌+◌, Option, Some, None, List, [], ◌∷◌, ◌++◌, length, map, drop, ℤ}
use Rattle.std.specs.List.{flat_map}
use Rattle.std.specs.Option.{option_map, option_to_list}
use Rattle.dp_domain.specs.Atoms.{Atomic}
use Rattle.dp_lines.specs.Spelling.{line_text}
use Rattle.dp_lines.specs.declared.line.Line.{Line}
use Rattle.dp_lines.specs.declared.line.Line.TheVariants.{Atom as atom_line, Inference as inference_line, Nogood as nogood_line, Conclude as conclusion_line}
use Rattle.dp_lines.specs.declared.line.Claim.TheVariants.{Unsat, Bound}
use Rattle.dp_writer.specs.Atoms.{Named, named_defined, firsts, literal_in}

-- a step of a log: an inference from premises to a consequent, if any, with its constraint's number
-- and its label; a nogood, with its hints; the conclusion, which has a bound or none
pub data Step : Type 0 where
  Inference : List Named → Option Named → ℕ → List ℕ → Step
  Nogood : List Named → List ℕ → Step
  Conclusion : Option Named → Step

-- the atoms of a step, in the order of use
abbrev pub atoms_of : Step → List Named
atoms_of (Inference premises consequent constraint label) = premises ++ option_to_list consequent
atoms_of (Nogood atoms hints) = atoms
atoms_of (Conclusion bound) = option_to_list bound

-- the defined atoms that steps use, in the order of use
abbrev pub uses : List Step → List Named
uses steps = flat_map (λ step. map named_defined (atoms_of step)) steps

-- the defined atoms of steps, each once, in the order of first use: this is the order of their numbers
abbrev pub table : List Step → List Named
table steps = firsts (uses steps)

-- the same without names
abbrev pub atoms_in : List Named → List Atomic
atoms_in atoms = map (λ a. a.atom) atoms

-- 1 for a step that has a number: an inference or a nogood
abbrev pub counted : Step → ℕ
counted (Inference premises consequent constraint label) = 1
counted (Nogood atoms hints) = 1
counted (Conclusion bound) = 0

-- how many of the steps have numbers, which are 1, 2, 3 and so on
abbrev pub count_of : List Step → ℕ
count_of [] = 0
count_of (step ∷ steps) = counted step + count_of steps

-- the atoms that a step is the first to use, after earlier steps
abbrev pub new_atoms : List Step → Step → List Named
new_atoms earlier step = drop (length (table earlier)) (table (earlier ++ step ∷ []))

-- the line of a defined atom with this number
abbrev pub definition : ℕ → Named → Line
definition number a = atom_line number a.name a.atom.op a.atom.value

-- the lines of defined atoms, with numbers from n + 1 on
abbrev pub definitions : ℕ → List Named → List Line
definitions n [] = []
definitions n (a ∷ atoms) = definition (n + 1) a ∷ definitions (n + 1) atoms

-- the literals of atoms, where these defined atoms have their places as numbers
abbrev pub literals_in : List Atomic → List Named → List ℤ
literals_in known atoms = map (λ a. literal_in known a.atom) atoms

-- the line of a conclusion
abbrev pub line_of_bound : List Atomic → Option Named → Line
line_of_bound known None = conclusion_line Unsat
line_of_bound known (Some bound) = conclusion_line (Bound (literal_in known bound.atom))

-- the line of a step with this number, and with the literals by these defined atoms
abbrev pub line_of : List Atomic → ℕ → Step → Line
line_of known number (Inference premises consequent constraint label) =
    inference_line number (literals_in known premises) (option_map (λ a. literal_in known a.atom) consequent) (Some constraint) (Some label)
line_of known number (Nogood atoms hints) = nogood_line number (literals_in known atoms) hints
line_of known number (Conclusion bound) = line_of_bound known bound

-- the lines of a step after earlier steps: those of the atoms that it is the first to use, then its own
abbrev pub lines_of : List Step → Step → List Line
lines_of earlier step =
    definitions (length (table earlier)) (new_atoms earlier step)
    ++ line_of (atoms_in (table (earlier ++ step ∷ []))) (count_of earlier + 1) step ∷ []

-- the lines of steps after earlier steps
abbrev pub lines_after : List Step → List Step → List Line
lines_after earlier [] = []
lines_after earlier (step ∷ later) = lines_of earlier step ++ lines_after (earlier ++ step ∷ []) later

-- the lines of all the steps
abbrev pub lines : List Step → List Line
lines steps = lines_after [] steps

-- their text
abbrev pub text_of : List Step → List ℕ
text_of steps = flat_map line_text (lines steps)
