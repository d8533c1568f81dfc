-- What the answer and the files have to hold, and what a run leaves of a desk.
use Rattle.std.specs.Prelude.{◌≡◌, ◌⊎◌, ℕ, List, IfSome, Option, Some, None}
use Rattle.dp_desk.specs.Channel.{Channel, Files, Grows, GrowsByPart, IsAtEnd}
use Rattle.dp_desk.specs.Sight.{Sight}
use Rattle.fz_solve.specs.Solved.{Holds, HoldsFront}
use Rattle.dp_command.specs.Replies.{Replies}
use Rattle.dp_command.specs.Texts.{Filed, files_of, text_of, status_of, read_fault}
use Rattle.dp_command.specs.Words.{Request, Check, Show, Process, Solve, Prove, Gen, IsAsked, Spells}
use Rattle.dp_command.specs.declared.reply.Reply.{Reply}
use Rattle.dp_command.specs.declared.reply.Reply.TheVariants.{ModelRefused}

-- ---- the files

-- where there is a text for it, the output holds that; else it is as it was
abbrev pub IsFiled : Option (List ℕ) → Channel → Channel → Type 0
IsFiled None was now = now ≡ was
IsFiled (Some text) was now = Holds now text

-- there is a text for the output, which was not opened or holds a front of that
abbrev pub IsCut : Option (List ℕ) → Channel → Channel → Type 0
IsCut None was now = ⊥
IsCut (Some text) was now = (now ≡ was) ⊎ HoldsFront now text

-- each file that there is a text for was written
abbrev pub AreFiled : Filed → Sight → Sight → Type 0
AreFiled files was now = IsFiled files.0 was.first now.first × IsFiled files.1 was.second now.second

-- not all was written: the first file was cut and the second not opened, or the second was cut behind the first
abbrev pub AreCut : Filed → Sight → Sight → Type 0
AreCut files was now =
    (IsCut files.0 was.first now.first × (now.second ≡ was.second)) ⊎ (IsFiled files.0 was.first now.first × IsCut files.1 was.second now.second)

-- the files, if any, were written, then the text as the answer
pub record Writes (files : Filed) (text : List ℕ) (was now : Sight) : Type 0 where
  pub filed : AreFiled files was now
  pub told : Grows was.answer now.answer text

-- a front of the text was written as the answer, and nothing where not all of the files was written
pub record WritesPart (files : Filed) (text : List ℕ) (was now : Sight) : Type 0 where
  pub part : GrowsByPart was.answer now.answer text
  pub filed : AreFiled files was now ⊎ (AreCut files was now × (now.answer ≡ was.answer))

-- ---- what is due

-- the status is that of a reply that belongs to the words and the inputs, and its files and its text were written
pub record Said (names : Option Files) (words : List (List ℕ)) (status : ℕ) (was now : Sight) : Type 0 where
  pub reply : Reply
  pub due : Replies names words reply
  pub stands : status ≡ status_of reply
  pub written : Writes (files_of reply) (text_of reply) was now

-- the files and the text of a reply that belongs to the words and the inputs, or the text of a read fault where there was one
abbrev pub IsDue : Option Files → List (List ℕ) → Type 0 → Filed → List ℕ → Type 0
IsDue names words fault files text =
    ((reply : Reply) × Replies names words reply × (files ≡ files_of reply) × (text ≡ text_of reply)) ⊎ (fault × (files ≡ (None, None)) × (text ≡ read_fault))

-- fronts of the files and the text that are due were written
pub record SaidPart (names : Option Files) (words : List (List ℕ)) (fault : Type 0) (was now : Sight) : Type 0 where
  pub files : Filed
  pub text : List ℕ
  pub due : IsDue names words fault files text
  pub written : WritesPart files text was now

-- ---- a desk

-- all but the inputs is as it was
abbrev pub ChangesInputs : Sight → Sight → Type 0
ChangesInputs was now = now ≡ record was { model = now.model; log = now.log }

-- all but the outputs is as it was
abbrev pub ChangesFiles : Sight → Sight → Type 0
ChangesFiles was now = now ≡ record was { answer = now.answer; first = now.first; second = now.second }

-- all but the inputs and the outputs is as it was
abbrev pub ChangesOutputs : Sight → Sight → Type 0
ChangesOutputs was now = now ≡ record was { model = now.model; log = now.log; answer = now.answer; first = now.first; second = now.second }

-- the log, which a refusal of the model does not need, is as it was
abbrev pub LeavesUnread : Reply → Sight → Sight → Type 0
LeavesUnread (ModelRefused refusal) was now = now.log ≡ was.log
LeavesUnread reply was now = Unit {0}

-- the input that is not asked for is as it was: a log is shown without a model, a model is solved and proved without a log, and both are generated without either
abbrev pub LeavesUnasked : Request → Sight → Sight → Type 0
LeavesUnasked (Check model log) was now = Unit {0}
LeavesUnasked (Show log) was now = now.model ≡ was.model
LeavesUnasked (Process model scaffold out workers) was now = Unit {0}
LeavesUnasked (Solve model out most) was now = now.log ≡ was.log
LeavesUnasked (Prove model workers most) was now = now.log ≡ was.log
LeavesUnasked (Gen n model scaffold) was now = (now.model ≡ was.model) × (now.log ≡ was.log)

-- the words are this command, or none, and the inputs that it does not ask for are as they were
pub record Leaves (words : List (List ℕ)) (was now : Sight) : Type 0 where
  pub command : Option Request
  pub asked : IsAsked command words
  pub left : IfSome command (λ request. LeavesUnasked request was now)
  pub none : command ≡ None → (now.model ≡ was.model) × (now.log ≡ was.log)

-- each input that is asked for was read to its end
abbrev pub AreAtEnd : Request → Sight → Type 0
AreAtEnd (Check model log) now = IsAtEnd now.model × IsAtEnd now.log
AreAtEnd (Show log) now = IsAtEnd now.log
AreAtEnd (Process model scaffold out workers) now = IsAtEnd now.model × IsAtEnd now.log
AreAtEnd (Solve model out most) now = IsAtEnd now.model
AreAtEnd (Prove model workers most) now = IsAtEnd now.model
AreAtEnd (Gen n model scaffold) now = Unit {0}

-- the words are a command, and each input that it asks for was read to its end
pub record ReadsToEnd (words : List (List ℕ)) (now : Sight) : Type 0 where
  pub request : Request
  pub asked : Spells request words
  pub ended : AreAtEnd request now
