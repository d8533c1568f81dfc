-- What is said of a model that is proved, and where that is refused.
use Rattle.std.specs.Prelude.{◌≡◌, ℕ, ◌≤◌, ◌^◌, ◌++◌, Option, Some, None, List}
use Rattle.dp_desk.specs.Channel.{Channel, Files, Grows}
use Rattle.dp_domain.specs.Atoms.{Atomic}
use Rattle.dp_domain.specs.declared.verdict.Verdict.{Verdict}
use Rattle.dp_judge.specs.Logs.{judged_log}
use Rattle.dp_judge.specs.declared.answer.LogAnswer.TheVariants.{Accepted}
use Rattle.dp_learning.specs.Scaffolds.{scaffold_of}
use Rattle.dp_learning.specs.Sorts.{sort_count}
use Rattle.dp_lower.specs.Problem.{problem_of}
use Rattle.dp_parts.specs.Problems.{Csp, posed}
use Rattle.dp_process.specs.Met.{EachMetFollows}
use Rattle.dp_process.specs.Processed.{log_of}
use Rattle.fz_prove.specs.Limits.{IsPastLimit}
use Rattle.fz_prove.specs.Proofs.{IsWithin}
use Rattle.fz_prove.specs.declared.proof.Proof.{Proof}
use Rattle.dp_scaffold.specs.Scaffolds.{Learned}
use Rattle.dp_scaffold.specs.Texts.{scaffold_text}
use Rattle.dp_scaffold.specs.declared.answer.ScaffoldAnswer.TheVariants.{Given}
use Rattle.dp_solver.specs.Outcomes.{IsDecided}
use Rattle.dp_solver.specs.declared.outcome.Outcome.{Outcome}
use Rattle.dp_writer.specs.Steps.{text_of}
use Rattle.fz_model.specs.Models.{Plan}
use Rattle.fz_solve.specs.Printed.{outcome_status, outcome_text}
use Rattle.fz_solve.specs.Solved.{Finds, IsTruth}
use Rattle.dp_command.specs.Named.{claim_of}
use Rattle.dp_command.specs.Replies.{IsGiven}
use Rattle.dp_command.specs.Proving.{proving_of}
use Rattle.dp_command.specs.Texts.{accepted_line, proving_text}
use Rattle.dp_command.specs.Truths.{IsTrueOf}
use Rattle.dp_command.specs.Words.{Prove, Spells}

-- Neither the scaffold nor its log passes a limit. Each nogood that the scaffold's claim rests on follows; the log that is made of it
-- is accepted by a check with the claim, and that is true of the model. The text is the outcome's, and then the line of the check; the
-- status is 0.
pub record IsChecked (m : Plan) (p : Csp) (outcome : Outcome) (nogoods : List (List Atomic)) (claim : Verdict) (text : List ℕ) (status : ℕ) : Type 0 where
  pub within : IsWithin p nogoods claim
  pub learned : Learned
  pub says : scaffold_text (posed p) (scaffold_of p nogoods (Some claim)) ≡ Given learned
  pub follows : EachMetFollows (posed p) learned.nogoods
  pub accepted : judged_log (posed p) (text_of (log_of p learned)) ≡ Accepted claim
  pub holds : IsTrueOf m (claim_of p claim)
  pub spelled : text ≡ outcome_text m outcome ++ accepted_line (claim_of p claim)
  pub stands : status ≡ 0

-- an outcome is told with its status where nothing is claimed, else with its claim, which is checked
abbrev pub IsTold : Plan → Csp → Outcome → List (List Atomic) → Option Verdict → List ℕ → ℕ → Type 0
IsTold m p outcome nogoods None text status = (text ≡ outcome_text m outcome) × (status ≡ outcome_status outcome)
IsTold m p outcome nogoods (Some claim) text status = IsChecked m p outcome nogoods claim text status

-- The words ask to prove a model, which is read. A search of its problem found an outcome. What it says is true of the model, and
-- it was told. With room for as many nogoods as there are sets of sorts of atoms it is known.
pub record SaysProof (names : Option Files) (words : List (List ℕ)) (status : ℕ) (was now : Channel) : Type 0 where
  pub model : List ℕ
  pub workers : ℕ
  pub most : ℕ
  pub asked : Spells (Prove model workers most) words
  pub m : Plan
  pub given : IsGiven names model m
  pub outcome : Outcome
  pub found : Finds (problem_of m) most outcome
  pub truth : IsTruth m outcome
  pub decided : 2 ^ sort_count (problem_of m).initial ≤ most → IsDecided outcome
  pub text : List ℕ
  pub told : IsTold m (problem_of m) outcome found.nogoods found.claim text status
  pub written : Grows was now text

-- The words ask to prove a model, which is read. The scaffold of an outcome that claims something, or the log that is made of it,
-- passes a limit; that is what was told: a line is too long, or they are in all, or there are too many nogoods or literals.
pub record PassesLimit (names : Option Files) (words : List (List ℕ)) (was now : Channel) : Type 0 where
  pub model : List ℕ
  pub workers : ℕ
  pub most : ℕ
  pub asked : Spells (Prove model workers most) words
  pub m : Plan
  pub given : IsGiven names model m
  pub outcome : Outcome
  pub found : Finds (problem_of m) most outcome
  pub claim : Verdict
  pub claims : found.claim ≡ Some claim
  pub passes : IsWithin (problem_of m) found.nogoods claim → ⊥
  pub end : Proof
  pub limit : IsPastLimit end
  pub written : Grows was now (proving_text (proving_of (problem_of m) end))
