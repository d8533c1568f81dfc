-- What the lines of a scaffold say: its nogoods and its claim, or the first refused line with the test that refuses it.
use Rattle.std.specs.Prelude.{ℕ, ◌+◌, Bool, true, false, not, ◌&&◌, Option, Some, None, Result, Ok, Err, is_some, is_none, List, [], ◌∷◌, ◌++◌, length, ℤ, nat_eq, nat_le, nat_lt}
use Rattle.std.specs.List.{list_all, list_any}
use Rattle.dp_base.specs.Names.{named}
use Rattle.dp_domain.specs.Atoms.{Atomic}
use Rattle.dp_domain.specs.declared.atom.Op.{Op}
use Rattle.dp_domain.specs.declared.verdict.Verdict.{Verdict}
use Rattle.dp_domain.specs.declared.verdict.Verdict.TheVariants.{Unsat as NoSolution, Bound as NoBetter}
use Rattle.dp_lines.specs.declared.line.Line.{Line}
use Rattle.dp_lines.specs.declared.line.Line.TheVariants.{Atom, Inference, Nogood, Delete, Conclude}
use Rattle.dp_lines.specs.declared.line.Claim.{Claim}
use Rattle.dp_lines.specs.declared.line.Claim.TheVariants.{Unsat, Bound}
use Rattle.dp_parts.specs.Posed.{Posed}
use Rattle.dp_rule_clause.specs.Nogoods.{each_once}
use Rattle.dp_checker.specs.Judged.{has_goal, is_bound, or_else, with_last}
use Rattle.dp_checker.specs.Known.{first_undefined, found, literal_atom, literal_atoms}
use Rattle.std.specs.Option.{option_map}
use Rattle.dp_scaffold.specs.declared.refusal.GatherWhy.{GatherWhy}
use Rattle.dp_scaffold.specs.declared.refusal.GatherWhy.TheVariants.{AfterConclusion, UnknownVar, AtomTwice, UnknownAtom, StepTwice, NoGoal, WrongBound, NoConclusion, TooMany}
use Rattle.dp_scaffold.specs.declared.refusal.ScaffoldRefusal.{ScaffoldRefusal}
use Rattle.dp_scaffold.specs.Scaffolds.{Learned, nogood_of}

-- the atoms that are defined, the numbers of all steps, how many literals the lines of nogoods have together, the
-- nogoods with their lines and numbers, and the claim, whose nogood is then the last
pub record Gathered : Type 0 where
  pub atoms : List (ℕ × Atomic)
  pub steps : List ℕ
  pub literals : ℕ
  pub nogoods : List (List Atomic)
  pub lines : List ℕ
  pub ids : List ℕ
  pub claim : Option Verdict

-- nothing is said before the first line
abbrev pub nothing : Gathered
nothing = record { atoms = []; steps = []; literals = 0; nogoods = []; lines = []; ids = []; claim = None }

-- a test that refuses so where the fact does not hold
abbrev pub unless : Bool → GatherWhy → Option GatherWhy
unless true why = None
unless false why = Some why

-- the most nogoods of a scaffold, and the most literals of their lines together
abbrev pub most_nogoods : ℕ
most_nogoods = 1000000

abbrev pub most_literals : ℕ
most_literals = 20000000

-- whether there is room for one more nogood of so many literals
abbrev pub has_room : Gathered → ℕ → Bool
has_room g literals = nat_lt (length g.nogoods) most_nogoods && nat_le (g.literals + literals) most_literals

-- the tests of a step: each of its literals is defined, and its number is new
abbrev pub step_refusal : Gathered → ℕ → List ℤ → Option GatherWhy
step_refusal g id literals =
    or_else (option_map UnknownAtom (first_undefined g.atoms literals)) (unless (not (list_any (nat_eq id) g.steps)) StepTwice)

-- the tests of a conclusion
abbrev pub claim_refusal : Posed → Gathered → Claim → Option GatherWhy
claim_refusal p g Unsat = None
claim_refusal p g (Bound literal) =
    or_else (option_map UnknownAtom (first_undefined g.atoms (literal ∷ [])))
    (or_else (unless (has_goal p.goal) NoGoal)
    (unless (list_all (is_bound p.goal) (literal_atoms g.atoms (literal ∷ []))) WrongBound))

-- the tests of a line by its kind; what an inference rests on, and the hints of a nogood, are not looked at
abbrev pub line_refusal : Posed → Gathered → Line → Option GatherWhy
line_refusal p g (Atom id name op value) =
    or_else (unless (is_some (named p.names name)) UnknownVar) (unless (is_none (found id g.atoms)) AtomTwice)
line_refusal p g (Inference id premises consequent constraint label) = step_refusal g id (with_last premises consequent)
line_refusal p g (Nogood id atoms hints) = or_else (step_refusal g id atoms) (unless (has_room g (length atoms)) TooMany)
line_refusal p g (Delete id) = None
line_refusal p g (Conclude claim) = claim_refusal p g claim

-- the first test that refuses the line: nothing may follow a conclusion
abbrev pub first_refusal : Posed → Gathered → Line → Option GatherWhy
first_refusal p g line = or_else (unless (is_none g.claim) AfterConclusion) (line_refusal p g line)

-- with the atom of the name's variable
abbrev pub with_atom : Gathered → ℕ → Op → ℤ → Option ℕ → Gathered
with_atom g id op value None = g
with_atom g id op value (Some x) = record g { atoms = g.atoms ++ (id, record { var = x; op = op; value = value }) ∷ [] }

-- what a claim concludes
abbrev pub concluded : Gathered → Claim → Option Verdict
concluded g Unsat = Some NoSolution
concluded g (Bound literal) = option_map NoBetter (literal_atom g.atoms literal)

-- with the claim, whose nogood stands on this line and has no number
abbrev pub with_claim : Gathered → ℕ → Option Verdict → Gathered
with_claim g line None = g
with_claim g line (Some verdict) =
    record g { nogoods = g.nogoods ++ nogood_of verdict ∷ []; lines = g.lines ++ line ∷ []; ids = g.ids ++ 0 ∷ []; claim = Some verdict }

-- what is said after the line with this number, which no test refuses
abbrev pub after : Posed → Gathered → ℕ → Line → Gathered
after p g number (Atom id name op value) = with_atom g id op value (named p.names name)
after p g number (Inference id premises consequent constraint label) = record g { steps = g.steps ++ id ∷ [] }
after p g number (Nogood id atoms hints) =
    record g {
      steps = g.steps ++ id ∷ [];
      literals = g.literals + length atoms;
      nogoods = g.nogoods ++ each_once (literal_atoms g.atoms atoms) ∷ [];
      lines = g.lines ++ number ∷ [];
      ids = g.ids ++ id ∷ [];
    }
after p g number (Delete id) = g
after p g number (Conclude claim) = with_claim g number (concluded g claim)

-- the outcome of the tests of the line with this number
abbrev pub outcome : ℕ → Gathered → Option GatherWhy → Result Gathered ScaffoldRefusal
outcome number g None = Ok g
outcome number g (Some why) = Err (record { line = number; why = why })

-- what is said after the line, or the refusal: of this line, or of an earlier one
abbrev pub gather : Posed → Result Gathered ScaffoldRefusal → ℕ × Line → Result Gathered ScaffoldRefusal
gather p (Err refusal) line = Err refusal
gather p (Ok g) line = outcome line.0 (after p g line.0 line.1) (first_refusal p g line.1)

-- what numbered lines say, or the first refusal
abbrev pub gather_all : Posed → Result Gathered ScaffoldRefusal → List (ℕ × Line) → Result Gathered ScaffoldRefusal
gather_all p progress [] = progress
gather_all p progress (line ∷ lines) = gather_all p (gather p progress line) lines

-- the scaffold of a claim; lines that claim nothing are refused behind the last of so many
abbrev pub claimed : ℕ → Gathered → Option Verdict → Result Learned ScaffoldRefusal
claimed lines g None = Err (record { line = lines + 1; why = NoConclusion })
claimed lines g (Some claim) = Ok (record { nogoods = g.nogoods; lines = g.lines; ids = g.ids; claim = claim })

-- the scaffold of so many lines
abbrev pub scaffold_of : Result Gathered ScaffoldRefusal → ℕ → Result Learned ScaffoldRefusal
scaffold_of (Err refusal) lines = Err refusal
scaffold_of (Ok g) lines = claimed lines g g.claim
