-- The texts and the statuses of replies.
use Rattle.std.specs.Prelude.{ℕ, Option, Some, None, List, [], ◌∷◌, ◌++◌, codes}
use Rattle.std.specs.Fmt.{decimal}
use Rattle.dp_checker.specs.declared.refusal.StepRefusal.{StepRefusal}
use Rattle.dp_checker.specs.declared.refusal.Why.{Why}
use Rattle.dp_checker.specs.declared.refusal.Why.TheVariants.{AfterConclusion, UnknownVar, AtomTwice, UnknownAtom, StepTwice, UnknownStep, UnknownConstraint, WrongLabel, NotImplied, NoClash, NoGoal, WrongBound, NotConcluded, NoConclusion}
use Rattle.dp_lines.specs.Spelling.{atom_text, signed}
use Rattle.dp_lines.specs.declared.refusal.LineRefusal.{LineRefusal}
use Rattle.dp_lines.specs.declared.refusal.LineRefusal.TheVariants as unread
use Rattle.dp_scaffold.specs.declared.refusal.GatherWhy.{GatherWhy}
use Rattle.dp_scaffold.specs.declared.refusal.GatherWhy.TheVariants as gather
use Rattle.dp_scaffold.specs.declared.refusal.ScaffoldRefusal.{ScaffoldRefusal}
use Rattle.dp_show.specs.declared.shown.Refusal.{Refusal}
use Rattle.dp_show.specs.declared.shown.Refusal.TheVariants as show
use Rattle.dp_show.specs.declared.shown.Shown.{Shown}
use Rattle.fz_items.specs.Answers.{place_of}
use Rattle.fz_items.specs.declared.refusal.ModelRefusal.{ModelRefusal}
use Rattle.fz_items.specs.declared.refusal.ModelRefusal.TheVariants as model
use Rattle.dp_command.specs.declared.generate.Family.{Family}
use Rattle.dp_command.specs.declared.outcome.Done.{Done}
use Rattle.dp_command.specs.declared.outcome.Failing.{Failing}
use Rattle.dp_command.specs.declared.outcome.Outcome.{Outcome}
use Rattle.dp_command.specs.declared.outcome.Outcome.TheVariants as outcome
use Rattle.dp_command.specs.declared.proving.Proving.{Proving}
use Rattle.dp_command.specs.declared.proving.Proving.TheVariants as proving
use Rattle.dp_command.specs.declared.reply.Claim.{Claim}
use Rattle.dp_command.specs.declared.reply.Claim.TheVariants.{Unsat, Bound}
use Rattle.dp_command.specs.declared.reply.Reply.{Reply}
use Rattle.dp_command.specs.declared.reply.Reply.TheVariants.{NoCommand, ModelRefused, Accepted, Unread, Refused, Shown as ShownLog, Processed, Proved, Generated}

-- a line of text, with its end
abbrev pub line : List ℕ → List ℕ
line text = text ++ 10 ∷ []

-- ---- models

-- the name of a refusal of a model
abbrev pub model_word : ModelRefusal → List ℕ
model_word (model.BadByte at) = codes "BadByte"
model_word (model.Number at) = codes "Number"
model_word (model.OpenString at) = codes "OpenString"
model_word (model.Unsupported at) = codes "Unsupported"
model_word (model.Syntax at) = codes "Syntax"
model_word (model.Unbounded at) = codes "Unbounded"
model_word (model.Unknown at) = codes "Unknown"
model_word (model.Declared at) = codes "Declared"
model_word (model.Kind at) = codes "Kind"
model_word (model.Limit at) = codes "Limit"
model_word model.Memory = []

-- the line that tells a refusal of a model by its name and place
abbrev pub model_refused : List ℕ → ℕ → List ℕ
model_refused word at = codes "model refused: " ++ (word ++ (codes " at byte " ++ (decimal at ++ 10 ∷ [])))

-- the line that tells a refused model
abbrev pub model_refusal : ModelRefusal → List ℕ
model_refusal refusal = model_refused (model_word refusal) (place_of refusal)

-- ---- logs

-- the name of a test that refuses a line, with its number where it has one
abbrev pub why_words : Why → List ℕ
why_words AfterConclusion = codes "AfterConclusion"
why_words UnknownVar = codes "UnknownVar"
why_words AtomTwice = codes "AtomTwice"
why_words (UnknownAtom literal) = codes "UnknownAtom " ++ signed literal
why_words StepTwice = codes "StepTwice"
why_words (UnknownStep hint) = codes "UnknownStep " ++ decimal hint
why_words UnknownConstraint = codes "UnknownConstraint"
why_words WrongLabel = codes "WrongLabel"
why_words NotImplied = codes "NotImplied"
why_words NoClash = codes "NoClash"
why_words NoGoal = codes "NoGoal"
why_words WrongBound = codes "WrongBound"
why_words NotConcluded = codes "NotConcluded"
why_words NoConclusion = codes "NoConclusion"

-- the words that tell a refusal by its name, and the number of the refused line
abbrev pub refused_words : List ℕ → ℕ → List ℕ
refused_words name number = codes "refused: " ++ name ++ codes " at line " ++ decimal number

-- the line that tells a refusal, with the byte behind
abbrev pub refused_at : List ℕ → ℕ → ℕ → List ℕ
refused_at name number byte = line (refused_words name number ++ codes " byte " ++ decimal byte)

-- the text where a line could not be read
abbrev pub unread_text : LineRefusal → List ℕ
unread_text (unread.Form number byte) = refused_at (codes "Form") number byte
unread_text (unread.Number number byte) = refused_at (codes "Number") number byte
unread_text (unread.TooLong number) = line (refused_words (codes "TooLong") number)
unread_text (unread.LogTooLong number) = line (refused_words (codes "LogTooLong") number)
unread_text (unread.NotBuilt number) = line (refused_words (codes "NotBuilt") number)

-- the refused line itself, where one is told
abbrev pub told : Option (List ℕ) → List ℕ
told None = []
told (Some text) = text

-- the text where a test refuses a line, which follows its refusal
abbrev pub refused_text : StepRefusal → Option (List ℕ) → List ℕ
refused_text refusal text = line (refused_words (why_words refusal.why) refusal.line) ++ told text

-- the text of the refusal that ends what is shown; nothing where all is shown
abbrev pub shown_refusal : Option Refusal → List ℕ
shown_refusal None = []
shown_refusal (Some (show.Unread refusal)) = unread_text refusal
shown_refusal (Some (show.Refused refusal text)) = refused_text refusal (Some text)

-- the text of a log that is shown: its steps, then the refusal that ends them
abbrev pub shown_text : Shown → List ℕ
shown_text shown = shown.steps ++ shown_refusal shown.refusal

-- what is concluded
abbrev pub claim_words : Claim → List ℕ
claim_words Unsat = codes "UNSAT"
claim_words (Bound name op value) = atom_text name op value

-- the line that tells an accepted log
abbrev pub accepted_line : Claim → List ℕ
accepted_line claim = line (codes "accepted: " ++ claim_words claim)

-- ---- scaffolds

-- the name of a test that refuses a line of a scaffold, with its number where it has one
abbrev pub gather_words : GatherWhy → List ℕ
gather_words gather.AfterConclusion = codes "AfterConclusion"
gather_words gather.UnknownVar = codes "UnknownVar"
gather_words gather.AtomTwice = codes "AtomTwice"
gather_words (gather.UnknownAtom literal) = codes "UnknownAtom " ++ signed literal
gather_words gather.StepTwice = codes "StepTwice"
gather_words gather.NoGoal = codes "NoGoal"
gather_words gather.WrongBound = codes "WrongBound"
gather_words gather.NoConclusion = codes "NoConclusion"
gather_words gather.TooMany = codes "TooMany"

-- the text where a test refuses a line of a scaffold, which follows its refusal
abbrev pub scaffold_refused : ScaffoldRefusal → Option (List ℕ) → List ℕ
scaffold_refused refusal text = line (refused_words (gather_words refusal.why) refusal.line) ++ told text

-- the name of the refusal of a nogood that does not follow, with its number
abbrev pub not_following : ℕ → List ℕ
not_following id = codes "NotFollowing " ++ decimal id

-- the text where a nogood does not follow, which is told behind
abbrev pub failing_text : Failing → List ℕ
failing_text failing = line (refused_words (not_following failing.id) failing.line) ++ failing.text

-- the line that counts what was done
abbrev pub done_text : Done → List ℕ
done_text done =
    line (codes "processed: " ++ decimal done.kept ++ codes " of " ++ decimal done.nogoods ++ codes " nogoods kept, " ++ decimal done.steps ++ codes " steps")

-- the text of what becomes of a scaffold
abbrev pub outcome_text : Outcome → List ℕ
outcome_text (outcome.Done done) = done_text done
outcome_text (outcome.Unread refusal) = unread_text refusal
outcome_text (outcome.Refused refusal text) = scaffold_refused refusal text
outcome_text (outcome.NotFollowing failing) = failing_text failing

-- its status: whether it is processed
abbrev pub outcome_status : Outcome → ℕ
outcome_status (outcome.Done done) = 0
outcome_status (outcome.Unread refusal) = 1
outcome_status (outcome.Refused refusal text) = 1
outcome_status (outcome.NotFollowing failing) = 1

-- what it writes to a file, if anything
abbrev pub outcome_file : Outcome → Option (List ℕ)
outcome_file (outcome.Done done) = Some done.log.text
outcome_file (outcome.Unread refusal) = None
outcome_file (outcome.Refused refusal text) = None
outcome_file (outcome.NotFollowing failing) = None

-- ---- models that are proved

-- the text of what proving a model ends with: that of its outcome, and what is accepted; of a refusal its text alone
abbrev pub proving_text : Proving → List ℕ
proving_text (proving.Solved text) = text
proving_text (proving.Unknown text) = text
proving_text (proving.Accepted text claim) = text ++ accepted_line claim
proving_text (proving.Unread refusal) = unread_text refusal
proving_text (proving.ScaffoldRefused refusal text) = scaffold_refused refusal text
proving_text (proving.NotFollowing number id) = line (refused_words (not_following id) number)
proving_text (proving.LogRefused refusal text) = refused_text refusal text

-- its status
abbrev pub proving_status : Proving → ℕ
proving_status (proving.Solved text) = 0
proving_status (proving.Unknown text) = 4
proving_status (proving.Accepted text claim) = 0
proving_status (proving.Unread refusal) = 1
proving_status (proving.ScaffoldRefused refusal text) = 1
proving_status (proving.NotFollowing number id) = 1
proving_status (proving.LogRefused refusal text) = 1

-- ---- what is generated

-- the line that counts what is generated
abbrev pub generated_line : ℕ → ℕ → ℕ → List ℕ
generated_line variables constraints nogoods =
    line (codes "generated: " ++ decimal variables ++ codes " variables, " ++ decimal constraints ++ codes " constraints, " ++ decimal nogoods ++ codes " nogoods")

-- the text of a model and a scaffold that are generated
abbrev pub family_text : Family → List ℕ
family_text family = generated_line family.variables family.constraints family.nogoods

-- ---- replies

-- the text of a reply
abbrev pub text_of : Reply → List ℕ
text_of NoCommand = line (codes "words not understood")
text_of (ModelRefused refusal) = model_refusal refusal
text_of (Accepted claim) = accepted_line claim
text_of (Unread refusal) = unread_text refusal
text_of (Refused refusal text) = refused_text refusal text
text_of (ShownLog shown) = shown_text shown
text_of (Processed o) = outcome_text o
text_of (Proved proved) = proving_text proved
text_of (Generated family) = family_text family

-- the status of a log that is shown: whether all of it is
abbrev pub shown_status : Option Refusal → ℕ
shown_status None = 0
shown_status (Some refusal) = 1

-- the status of a reply
abbrev pub status_of : Reply → ℕ
status_of NoCommand = 2
status_of (ModelRefused refusal) = 3
status_of (Accepted claim) = 0
status_of (Unread refusal) = 1
status_of (Refused refusal text) = 1
status_of (ShownLog shown) = shown_status shown.refusal
status_of (Processed o) = outcome_status o
status_of (Proved proved) = proving_status proved
status_of (Generated family) = 0

-- what a reply writes to the first file, if anything
abbrev pub first_of : Reply → Option (List ℕ)
first_of NoCommand = None
first_of (ModelRefused refusal) = None
first_of (Accepted claim) = None
first_of (Unread refusal) = None
first_of (Refused refusal text) = None
first_of (ShownLog shown) = None
first_of (Processed o) = outcome_file o
first_of (Proved proved) = None
first_of (Generated family) = Some family.model.text

-- and to the second
abbrev pub second_of : Reply → Option (List ℕ)
second_of NoCommand = None
second_of (ModelRefused refusal) = None
second_of (Accepted claim) = None
second_of (Unread refusal) = None
second_of (Refused refusal text) = None
second_of (ShownLog shown) = None
second_of (Processed o) = None
second_of (Proved proved) = None
second_of (Generated family) = Some family.scaffold.text

-- what is written to the two files, if anything
abbrev pub Filed : Type 0
Filed = Option (List ℕ) × Option (List ℕ)

-- what a reply writes to them
abbrev pub files_of : Reply → Filed
files_of reply = (first_of reply, second_of reply)

-- the text where an input could not be read
abbrev pub read_fault : List ℕ
read_fault = line (codes "read fault")
