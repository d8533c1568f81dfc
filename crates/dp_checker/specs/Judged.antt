-- The judged lines of a log: which line is refused first, by which test, and what is concluded.
use Rattle.std.specs.Prelude.{ℕ, ◌+◌, ◌-◌, ◌==◌, Bool, true, false, ◌&&◌, ◌||◌, Option, Some, None, Result, Ok, Err, is_some, is_none, if◌then◌else◌, List, [], ◌∷◌, ◌++◌, length, map, ℤ, codes, nat_lt, slice_index_or}
use Rattle.std.specs.List.{list_all, list_any}
use Rattle.std.specs.Option.{option_map}
use Rattle.std.specs.Str.{bytes_eq}
use Rattle.dp_domain.specs.Atoms.{Atomic, negated}
use Rattle.dp_domain.specs.declared.atom.Op.{Op}
use Rattle.dp_domain.specs.declared.atom.Op.TheVariants.{Ge, Le, Eq, Ne}
use Rattle.dp_domain.specs.declared.verdict.Verdict.{Verdict}
use Rattle.dp_domain.specs.declared.verdict.Verdict.TheVariants.{Unsat as NoSolution, Bound as NoBetter}
use Rattle.dp_domain.specs.States.{cut_all}
use Rattle.dp_lines.specs.declared.line.Line.{Line}
use Rattle.dp_lines.specs.declared.line.Line.TheVariants.{Atom, Inference, Nogood, Delete, Conclude}
use Rattle.dp_lines.specs.declared.line.Claim.{Claim}
use Rattle.dp_lines.specs.declared.line.Claim.TheVariants.{Unsat, Bound}
use Rattle.dp_parts.specs.declared.goal.Goal.{Goal}
use Rattle.dp_parts.specs.declared.goal.Goal.TheVariants.{Satisfy, Minimize, Maximize}
use Rattle.dp_base.specs.Names.{named}
use Rattle.dp_parts.specs.Posed.{Labelled, Posed}
use Rattle.dp_checker.specs.declared.refusal.StepRefusal.{StepRefusal}
use Rattle.dp_checker.specs.declared.refusal.Why.{Why}
use Rattle.dp_checker.specs.declared.refusal.Why.TheVariants.{AfterConclusion, UnknownVar, AtomTwice, UnknownAtom, StepTwice, UnknownStep, UnknownConstraint, WrongLabel, NotImplied, NoClash, NoGoal, WrongBound, NotConcluded, NoConclusion}
use Rattle.dp_checker.specs.Known.{Known, denials, first_undefined, first_unknown, found, literal_atom, literal_atoms}
use Rattle.dp_parts.specs.Rules.{concludes, implies, is_labelled, proves}

-- the first of two tests that refuses
abbrev pub or_else : {A : Type 0} → Option A → Option A → Option A
or_else None b = b
or_else (Some a) b = Some a

-- a test that refuses so where the fact does not hold
abbrev pub unless : Bool → Why → Option Why
unless true why = None
unless false why = Some why

-- a test that refuses with the number that it found
abbrev pub naming : {A : Type 0} → (A → Why) → Option A → Option Why
naming why None = None
naming why (Some x) = Some (why x)

-- the parts of constraint K, counted from 1; none where there is no such constraint, or none is named
abbrev pub parts_of : Posed → Option ℕ → List Labelled
parts_of p None = []
parts_of p (Some k) = slice_index_or p.constraints (k - 1) []

-- whether the number is a constraint's, where one is given
abbrev pub is_constraint : Posed → Option ℕ → Bool
is_constraint p None = true
is_constraint p (Some k) = nat_lt 0 k && nat_lt (k - 1) (length p.constraints)

-- the label that asks for an empty start state
abbrev pub initial_domain : List ℕ
initial_domain = codes "initial_domain"

-- the parts that an inference may rest on: those of its constraint, but none under `initial_domain`
abbrev pub grounds : Posed → Option ℕ → Option (List ℕ) → List Labelled
grounds p constraint None = parts_of p constraint
grounds p constraint (Some label) = if bytes_eq label initial_domain then [] else parts_of p constraint

-- whether the label is not given, is `initial_domain`, or is that of a part of the constraint
abbrev pub is_fitting : Posed → Option ℕ → Option (List ℕ) → Bool
is_fitting p constraint None = true
is_fitting p constraint (Some label) = bytes_eq label initial_domain || list_any (is_labelled (Some label)) (parts_of p constraint)

-- the negation of the consequent, where there is one
abbrev pub against : List (ℕ × Atomic) → Option ℤ → List Atomic
against atoms None = []
against atoms (Some consequent) = map negated (literal_atoms atoms (consequent ∷ []))

-- an inference denies its premises with the negation of its consequent
abbrev pub inference_denial : List (ℕ × Atomic) → List ℤ → Option ℤ → List Atomic
inference_denial atoms premises consequent = literal_atoms atoms premises ++ against atoms consequent

-- a literal after the others, where there is one
abbrev pub with_last : List ℤ → Option ℤ → List ℤ
with_last literals None = literals
with_last literals (Some l) = literals ++ l ∷ []

-- whether the comparison is `>=`
abbrev pub is_at_least : Op → Bool
is_at_least Ge = true
is_at_least Le = false
is_at_least Eq = false
is_at_least Ne = false

-- whether the comparison is `<=`
abbrev pub is_at_most : Op → Bool
is_at_most Ge = false
is_at_most Le = true
is_at_most Eq = false
is_at_most Ne = false

-- whether the atom is a bound on the goal's variable, on the goal's side
abbrev pub is_bound : Goal → Atomic → Bool
is_bound Satisfy a = false
is_bound (Minimize x) a = (a.var == x) && is_at_least a.op
is_bound (Maximize x) a = (a.var == x) && is_at_most a.op

-- whether a solution is to be best in some way
abbrev pub has_goal : Goal → Bool
has_goal Satisfy = false
has_goal (Minimize x) = true
has_goal (Maximize x) = true

-- the tests of an atom's definition
abbrev pub atom_refusal : Posed → Known → ℕ → List ℕ → Option Why
atom_refusal p known id name =
    or_else (unless (is_some (named p.names name)) UnknownVar) (unless (is_none (found id known.atoms)) AtomTwice)

-- the tests of an inference
abbrev pub inference_refusal : Posed → Known → ℕ → List ℤ → Option ℤ → Option ℕ → Option (List ℕ) → Option Why
inference_refusal p known id premises consequent constraint label =
    or_else (naming UnknownAtom (first_undefined known.atoms (with_last premises consequent)))
    (or_else (unless (is_none (found id known.steps)) StepTwice)
    (or_else (unless (is_constraint p constraint) UnknownConstraint)
    (or_else (unless (is_fitting p constraint label) WrongLabel)
    (unless (implies (cut_all p.initial (inference_denial known.atoms premises consequent)) (grounds p constraint label) label) NotImplied))))

-- the tests of a nogood
abbrev pub nogood_refusal : Posed → Known → ℕ → List ℤ → List ℕ → Option Why
nogood_refusal p known id atoms hints =
    or_else (naming UnknownAtom (first_undefined known.atoms atoms))
    (or_else (unless (is_none (found id known.steps)) StepTwice)
    (or_else (naming UnknownStep (first_unknown known.steps hints))
    (unless (proves (cut_all p.initial (literal_atoms known.atoms atoms)) (denials known.steps hints)) NoClash)))

-- the tests of a conclusion; that of a bound starts where the bound fails
abbrev pub conclusion_refusal : Posed → Known → Claim → Option Why
conclusion_refusal p known Unsat = unless (concludes p.initial known.steps) NotConcluded
conclusion_refusal p known (Bound literal) =
    or_else (naming UnknownAtom (first_undefined known.atoms (literal ∷ [])))
    (or_else (unless (has_goal p.goal) NoGoal)
    (or_else (unless (list_all (is_bound p.goal) (literal_atoms known.atoms (literal ∷ []))) WrongBound)
    (unless (concludes (cut_all p.initial (against known.atoms (Some literal))) known.steps) NotConcluded)))

-- the tests of a line by its kind
abbrev pub line_refusal : Posed → Known → Line → Option Why
line_refusal p known (Atom id name op value) = atom_refusal p known id name
line_refusal p known (Inference id premises consequent constraint label) = inference_refusal p known id premises consequent constraint label
line_refusal p known (Nogood id atoms hints) = nogood_refusal p known id atoms hints
line_refusal p known (Delete id) = None
line_refusal p known (Conclude claim) = conclusion_refusal p known claim

-- the first test that refuses the line: nothing may follow a conclusion
abbrev pub first_refusal : Posed → Known → Line → Option Why
first_refusal p known line = or_else (unless (is_none known.conclusion) AfterConclusion) (line_refusal p known line)

-- with the atom of the name's variable
abbrev pub with_atom : Known → ℕ → Op → ℤ → Option ℕ → Known
with_atom known id op value None = known
with_atom known id op value (Some x) = record known { atoms = known.atoms ++ (id, record { var = x; op = op; value = value }) ∷ [] }

-- with the step's denial
abbrev pub with_step : Known → ℕ → List Atomic → Known
with_step known id denial = record known { steps = known.steps ++ (id, denial) ∷ [] }

-- what a claim concludes
abbrev pub concluded : Known → Claim → Option Verdict
concluded known Unsat = Some NoSolution
concluded known (Bound literal) = option_map NoBetter (literal_atom known.atoms literal)

-- what is known after a line that no test refuses
abbrev pub after : Posed → Known → Line → Known
after p known (Atom id name op value) = with_atom known id op value (named p.names name)
after p known (Inference id premises consequent constraint label) = with_step known id (inference_denial known.atoms premises consequent)
after p known (Nogood id atoms hints) = with_step known id (literal_atoms known.atoms atoms)
after p known (Delete id) = known
after p known (Conclude claim) = record known { conclusion = concluded known claim }

-- the outcome of the tests of the line with this number
abbrev pub outcome : ℕ → Known → Option Why → Result Known StepRefusal
outcome number known None = Ok known
outcome number known (Some why) = Err (record { line = number; why = why })

-- what is known after the line, or the refusal: of this line, or of an earlier one
abbrev pub judge : Posed → Result Known StepRefusal → ℕ × Line → Result Known StepRefusal
judge p (Err refusal) line = Err refusal
judge p (Ok known) line = outcome line.0 (after p known line.1) (first_refusal p known line.1)

-- what is known after numbered lines, or the first refusal
abbrev pub judge_all : Posed → Result Known StepRefusal → List (ℕ × Line) → Result Known StepRefusal
judge_all p progress [] = progress
judge_all p progress (line ∷ lines) = judge_all p (judge p progress line) lines

-- the conclusion; a log of so many lines that has none is refused behind its last
abbrev pub verdict_of : ℕ → Option Verdict → Result Verdict StepRefusal
verdict_of lines None = Err (record { line = lines + 1; why = NoConclusion })
verdict_of lines (Some verdict) = Ok verdict

-- the verdict on a log of so many lines
abbrev pub verdict : Result Known StepRefusal → ℕ → Result Verdict StepRefusal
verdict (Err refusal) lines = Err refusal
verdict (Ok known) lines = verdict_of lines known.conclusion
