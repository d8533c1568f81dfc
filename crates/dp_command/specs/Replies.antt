-- Which reply belongs to the words and the inputs.
use Rattle.std.specs.Prelude.{◌≡◌, ℕ, ◌^◌, ◌+◌, Option, Some, None, Ok, Err, List}
use Rattle.dp_desk.specs.Channel.{Files}
use Rattle.dp_parts.specs.Problems.{Csp, posed}
use Rattle.dp_judge.specs.Logs.{IsGoalAnswer, IsRightAnswer, judged_log}
use Rattle.dp_judge.specs.declared.answer.LogAnswer.{LogAnswer}
use Rattle.dp_judge.specs.declared.answer.LogAnswer.TheVariants as answer
use Rattle.dp_lower.specs.Problem.{problem_of}
use Rattle.dp_scaffold.specs.Texts.{scaffold_text}
use Rattle.dp_show.specs.Logs.{shown_log}
use Rattle.dp_show.specs.declared.shown.Shown.{Shown}
use Rattle.fz_items.specs.Answers.{model_text}
use Rattle.fz_items.specs.declared.refusal.ModelRefusal.{ModelRefusal}
use Rattle.fz_model.specs.Models.{Plan}
use Rattle.dp_command.specs.Families.{GeneratesFamily}
use Rattle.dp_command.specs.Inputs.{IsRead}
use Rattle.dp_command.specs.Named.{claim_of}
use Rattle.dp_command.specs.Outcomes.{IsOutcome}
use Rattle.dp_command.specs.Proving.{IsProving}
use Rattle.dp_command.specs.Truths.{IsTrueOf}
use Rattle.dp_command.specs.Words.{Request, Check, Show, Process, Solve, Prove, Gen, Spells, AreNoCommand}
use Rattle.dp_command.specs.declared.outcome.Outcome.{Outcome}
use Rattle.dp_command.specs.declared.proving.Proving.{Proving}
use Rattle.dp_command.specs.declared.reply.Reply.{Reply}
use Rattle.dp_command.specs.declared.reply.Reply.TheVariants.{NoCommand, ModelRefused, Accepted, Unread, Refused, Shown as ShownLog, Processed, Proved, Generated}

-- so many bytes are read of a model at most: one more than its text may have
abbrev pub most_of_model : ℕ
most_of_model = 67108865

-- and so many of a log or a scaffold
abbrev pub most_of_log : ℕ
most_of_log = 2 ^ 40 + 1

-- ---- the model

-- the name of the model that is to be read, if one is
abbrev pub model_of : Request → Option (List ℕ)
model_of (Check model log) = Some model
model_of (Show log) = None
model_of (Process model scaffold out workers) = Some model
model_of (Solve model out most) = Some model
model_of (Prove model workers most) = Some model
model_of (Gen n model scaffold) = None

-- the words ask for a model, and what is read of it is refused so
pub record RefusesModel (names : Option Files) (words : List (List ℕ)) (refusal : ModelRefusal) : Type 0 where
  pub request : Request
  pub asked : Spells request words
  pub model : List ℕ
  pub named : model_of request ≡ Some model
  pub text : List ℕ
  pub read : IsRead most_of_model names model text
  pub refused : model_text text ≡ Err refusal

-- what is read of the model of this name spells a model
pub record IsGiven (names : Option Files) (model : List ℕ) (m : Plan) : Type 0 where
  pub text : List ℕ
  pub read : IsRead most_of_model names model text
  pub spelled : model_text text ≡ Ok m

-- ---- the log

-- the reply that an answer for a log of the problem becomes
abbrev pub reply_of : Csp → LogAnswer → Reply
reply_of p (answer.Accepted verdict) = Accepted (claim_of p verdict)
reply_of p (answer.Unread refusal) = Unread refusal
reply_of p (answer.Refused refusal text) = Refused refusal text

-- The reply is that for the bytes that are read of the log of this name; where it accepts, what is concluded is right of the
-- problem.
pub record IsJudged (names : Option Files) (log : List ℕ) (p : Csp) (reply : Reply) : Type 0 where
  pub lines : List ℕ
  pub read : IsRead most_of_log names log lines
  pub replied : reply ≡ reply_of p (judged_log (posed p) lines)
  pub right : IsRightAnswer p (judged_log (posed p) lines)
  pub goal : IsGoalAnswer p (judged_log (posed p) lines)

-- a claim that is accepted is true of the model
abbrev pub IsTrueReply : Plan → Reply → Type 0
IsTrueReply m (Accepted claim) = IsTrueOf m claim
IsTrueReply m reply = Unit {0}

-- the words ask for a check, a model is read, and its log is judged so; what is accepted is true of the model
pub record JudgesLog (names : Option Files) (words : List (List ℕ)) (reply : Reply) : Type 0 where
  pub model : List ℕ
  pub log : List ℕ
  pub asked : Spells (Check model log) words
  pub m : Plan
  pub given : IsGiven names model m
  pub judged : IsJudged names log (problem_of m) reply
  pub holds : IsTrueReply m reply

-- the words ask to show a log, and this is shown of the bytes that are read of it
pub record ShowsLog (names : Option Files) (words : List (List ℕ)) (shown : Shown) : Type 0 where
  pub log : List ℕ
  pub lines : List ℕ
  pub asked : Spells (Show log) words
  pub read : IsRead most_of_log names log lines
  pub replied : shown ≡ shown_log lines

-- ---- the scaffold

-- this becomes of the bytes that are read of the scaffold of this name
pub record IsProcessed (names : Option Files) (scaffold out : List ℕ) (p : Csp) (o : Outcome) : Type 0 where
  pub lines : List ℕ
  pub read : IsRead most_of_log names scaffold lines
  pub outcome : IsOutcome p out (scaffold_text (posed p) lines) o

-- the words ask to process a scaffold, a model is read, and this becomes of its scaffold
pub record ProcessesScaffold (names : Option Files) (words : List (List ℕ)) (o : Outcome) : Type 0 where
  pub model : List ℕ
  pub scaffold : List ℕ
  pub out : List ℕ
  pub workers : ℕ
  pub asked : Spells (Process model scaffold out workers) words
  pub m : Plan
  pub given : IsGiven names model m
  pub processed : IsProcessed names scaffold out (problem_of m) o

-- ---- a proof

-- the words ask to prove a model, which is read, and that ends so
pub record ProvesModel (names : Option Files) (words : List (List ℕ)) (proving : Proving) : Type 0 where
  pub model : List ℕ
  pub workers : ℕ
  pub most : ℕ
  pub asked : Spells (Prove model workers most) words
  pub m : Plan
  pub given : IsGiven names model m
  pub proves : IsProving m (problem_of m) most proving

-- ---- all

-- the reply that belongs to the words and to what is read of the inputs that they name
abbrev pub Replies : Option Files → List (List ℕ) → Reply → Type 0
Replies names words NoCommand = AreNoCommand words
Replies names words (ModelRefused refusal) = RefusesModel names words refusal
Replies names words (ShownLog shown) = ShowsLog names words shown
Replies names words (Processed o) = ProcessesScaffold names words o
Replies names words (Proved proving) = ProvesModel names words proving
Replies names words (Generated family) = GeneratesFamily words family
Replies names words reply = JudgesLog names words reply

-- the reply belongs to each spelling of what is asked for
abbrev pub RepliesTo : Option Files → Request → Reply → Type 0
RepliesTo names request reply = (words : List (List ℕ)) → Spells request words → Replies names words reply
