-- What an accepted log proves of the model, and what a processed log is.
use Rattle.std.specs.Prelude.{◌≡◌, ℕ, Option, List}
use Rattle.dp_desk.specs.Channel.{Channel, Files, Grows}
use Rattle.fz_model.specs.Models.{Plan}
use Rattle.dp_checker.specs.Kept.{IsRight}
use Rattle.dp_judge.specs.Logs.{judged_log}
use Rattle.dp_judge.specs.declared.answer.LogAnswer.TheVariants.{Accepted as AcceptedLog}
use Rattle.dp_lower.specs.Problem.{problem_of}
use Rattle.dp_parts.specs.Problems.{posed}
use Rattle.dp_process.specs.Met.{EachMetFollows}
use Rattle.dp_process.specs.Processed.{log_of}
use Rattle.dp_replay.specs.Accepting.{AreShort, IsAccepted}
use Rattle.dp_scaffold.specs.Scaffolds.{Learned}
use Rattle.dp_scaffold.specs.Texts.{scaffold_text}
use Rattle.dp_scaffold.specs.declared.answer.ScaffoldAnswer.TheVariants.{Given}
use Rattle.dp_writer.specs.Steps as steps
use Rattle.fz_solve.specs.Solved.{Holds}
use Rattle.dp_command.specs.Inputs.{IsRead}
use Rattle.dp_command.specs.Replies.{IsGiven, most_of_log}
use Rattle.dp_command.specs.Texts.{text_of}
use Rattle.dp_command.specs.Truths.{IsTrueOf}
use Rattle.dp_command.specs.Words.{Check, Process, Spells}
use Rattle.dp_command.specs.declared.reply.Claim.{Claim}
use Rattle.dp_command.specs.declared.reply.Reply.TheVariants.{Accepted}

-- the words ask for a check of a model, and the claim is true of the model that its text spells
pub record IsProved (names : Option Files) (words : List (List ℕ)) (claim : Claim) : Type 0 where
  pub model : List ℕ
  pub log : List ℕ
  pub asked : Spells (Check model log) words
  pub m : Plan
  pub given : IsGiven names model m
  pub holds : IsTrueOf m claim

-- a claim was written that is true of the model
pub record SaysTruth (names : Option Files) (words : List (List ℕ)) (was now : Channel) : Type 0 where
  pub claim : Claim
  pub proved : IsProved names words claim
  pub text : Grows was now (text_of (Accepted claim))

-- The words ask to process a scaffold of a model; what is read of it says this scaffold, of which each nogood that its
-- claim rests on follows. The file holds its processed log: no test of a check refuses a line of it, and it concludes the
-- claim, which is right of the model's problem; so a check of its bytes accepts, where no line is too long.
pub record FilesProof (names : Option Files) (words : List (List ℕ)) (now : Channel) : Type 0 where
  pub model : List ℕ
  pub scaffold : List ℕ
  pub out : List ℕ
  pub workers : ℕ
  pub asked : Spells (Process model scaffold out workers) words
  pub m : Plan
  pub given : IsGiven names model m
  pub lines : List ℕ
  pub read : IsRead most_of_log names scaffold lines
  pub learned : Learned
  pub says : scaffold_text (posed (problem_of m)) lines ≡ Given learned
  pub follows : EachMetFollows (posed (problem_of m)) learned.nogoods
  pub written : Holds now (steps.text_of (log_of (problem_of m) learned))
  pub accepted : IsAccepted (posed (problem_of m)) (steps.lines (log_of (problem_of m) learned)) learned.claim
  pub checked : AreShort (steps.lines (log_of (problem_of m) learned)) (steps.text_of (log_of (problem_of m) learned)) → judged_log (posed (problem_of m)) (steps.text_of (log_of (problem_of m) learned)) ≡ AcceptedLog learned.claim
  pub right : IsRight (problem_of m) learned.claim
