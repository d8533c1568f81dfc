-- How a line of a log is shown, and which lines are not.
use Rattle.std.specs.Prelude.{ℕ, Option, Some, None, is_none, List, [], ◌∷◌, ◌++◌, ℤ, codes}
use Rattle.std.specs.List.{flat_map}
use Rattle.std.specs.Fmt.{decimal}
use Rattle.dp_domain.specs.declared.atom.Op.{Op}
use Rattle.dp_lines.specs.Spelling.{field}
use Rattle.dp_lines.specs.declared.line.Line.{Line}
use Rattle.dp_lines.specs.declared.line.Line.TheVariants.{Atom, Inference, Nogood, Delete, Conclude}
use Rattle.dp_lines.specs.declared.line.Claim.{Claim}
use Rattle.dp_lines.specs.declared.line.Claim.TheVariants.{Unsat, Bound}
use Rattle.dp_checker.specs.Judged.{naming, unless, with_last}
use Rattle.dp_checker.specs.declared.refusal.Why.{Why}
use Rattle.dp_checker.specs.declared.refusal.Why.TheVariants.{AtomTwice, UnknownAtom}
use Rattle.dp_show.specs.Named.{Atoms, first_undefined, found, literal_text}

-- ---- the text of a line

-- a line of text, with its end
abbrev pub line : List ℕ → List ℕ
line text = text ++ 10 ∷ []

-- the atoms of the literals, joined by ` & `; `true` where there are none
abbrev pub conjunction : Atoms → List ℤ → List ℕ
conjunction atoms [] = codes "true"
conjunction atoms (l ∷ literals) = literal_text atoms l ++ flat_map (λ m. codes " & " ++ literal_text atoms m) literals

-- the consequent; `false` where there is none
abbrev pub consequence : Atoms → Option ℤ → List ℕ
consequence atoms None = codes "false"
consequence atoms (Some l) = literal_text atoms l

-- the constraint and the label in round brackets, with the blank before; nothing where there is neither
abbrev pub grounds : Option ℕ → Option (List ℕ) → List ℕ
grounds None None = []
grounds (Some k) None = codes " (c:" ++ decimal k ++ codes ")"
grounds None (Some label) = codes " (l:" ++ label ++ codes ")"
grounds (Some k) (Some label) = codes " (c:" ++ decimal k ++ codes " l:" ++ label ++ codes ")"

-- the hints; nothing where there are none
abbrev pub hints_text : List ℕ → List ℕ
hints_text [] = []
hints_text (h ∷ hints) = codes " by" ++ flat_map (λ k. field (decimal k)) (h ∷ hints)

-- what a conclusion claims
abbrev pub claim_text : Atoms → Claim → List ℕ
claim_text atoms Unsat = codes "UNSAT"
claim_text atoms (Bound l) = literal_text atoms l

-- the text of a line, where these atoms are defined; the line of an atom shows nothing
abbrev pub shown_line : Atoms → Line → List ℕ
shown_line atoms (Atom id name op value) = []
shown_line atoms (Inference id premises consequent constraint label) =
    line (decimal id ++ codes ": " ++ conjunction atoms premises ++ codes " -> " ++ consequence atoms consequent ++ grounds constraint label)
shown_line atoms (Nogood id literals hints) = line (decimal id ++ codes ": not (" ++ conjunction atoms literals ++ codes ")" ++ hints_text hints)
shown_line atoms (Delete id) = []
shown_line atoms (Conclude claim) = line (codes "conclusion: " ++ claim_text atoms claim)

-- ---- the tests of a line

-- the literals of a claim
abbrev pub claimed : Claim → List ℤ
claimed Unsat = []
claimed (Bound l) = l ∷ []

-- the literals of a line, in its order
abbrev pub literals : Line → List ℤ
literals (Atom id name op value) = []
literals (Inference id premises consequent constraint label) = with_last premises consequent
literals (Nogood id atoms hints) = atoms
literals (Delete id) = []
literals (Conclude claim) = claimed claim

-- why the line is refused, if it is: its number is an atom's already, or the atom of a literal is not defined
abbrev pub refusal : Atoms → Line → Option Why
refusal atoms (Atom id name op value) = unless (is_none (found id atoms)) AtomTwice
refusal atoms line = naming UnknownAtom (first_undefined atoms (literals line))

-- ---- the atoms behind a line

-- with one more atom
abbrev pub with_atom : Atoms → ℕ → List ℕ → Op → ℤ → Atoms
with_atom atoms id name op value = atoms ++ (id, record { name = name; op = op; value = value }) ∷ []

-- with the atom that the line defines, if it defines one
abbrev pub after : Atoms → Line → Atoms
after atoms (Atom id name op value) = with_atom atoms id name op value
after atoms (Inference id premises consequent constraint label) = atoms
after atoms (Nogood id literals hints) = atoms
after atoms (Delete id) = atoms
after atoms (Conclude claim) = atoms
