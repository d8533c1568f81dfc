-- What proving a model in memory ends with: it is solved, the scaffold is processed, and the log is checked.
use Rattle.std.specs.Prelude.{◌≡◌, ◌⊎◌, ℕ, List, Option, Some, None}
use Rattle.dp_domain.specs.Atoms.{Atomic}
use Rattle.dp_domain.specs.declared.verdict.Verdict.{Verdict}
use Rattle.dp_judge.specs.Logs.{judged_log}
use Rattle.dp_judge.specs.declared.answer.LogAnswer.{LogAnswer}
use Rattle.dp_judge.specs.declared.answer.LogAnswer.TheVariants as judged
use Rattle.dp_learning.specs.Scaffolds.{scaffold_of}
use Rattle.dp_parts.specs.Problems.{Csp, posed}
use Rattle.dp_process.specs.Answers.{IsFailingAt}
use Rattle.dp_process.specs.Met.{EachMetFollows}
use Rattle.dp_process.specs.Processed.{log_of}
use Rattle.dp_replay.specs.Accepting.{AreShort}
use Rattle.fz_prove.specs.Limits.{IsPastLimit}
use Rattle.fz_prove.specs.Rereading.{IsInLimits}
use Rattle.dp_scaffold.specs.Scaffolds.{Learned}
use Rattle.dp_scaffold.specs.Texts.{scaffold_text}
use Rattle.dp_scaffold.specs.declared.answer.ScaffoldAnswer.{ScaffoldAnswer}
use Rattle.dp_scaffold.specs.declared.answer.ScaffoldAnswer.TheVariants as gathered
use Rattle.dp_solver.specs.declared.outcome.Outcome.{Outcome}
use Rattle.dp_solver.specs.declared.outcome.Outcome.TheVariants as solved
use Rattle.dp_writer.specs.Steps.{lines, text_of}
use Rattle.fz_model.specs.Models.{Plan}
use Rattle.fz_prove.specs.declared.proof.Proof.{Proof}
use Rattle.fz_prove.specs.declared.proof.Proof.TheVariants.{Solved, Unknown, Accepted, ScaffoldUnread, ScaffoldRefused, NotFollowing, LogUnread, LogRefused}
use Rattle.fz_solve.specs.Printed.{outcome_text}
use Rattle.fz_solve.specs.Solved.{Finds, IsTruth}

-- the end by the answer for the log, behind the solution's text
abbrev pub log_end : List ℕ → LogAnswer → Proof
log_end text (judged.Accepted verdict) = Accepted text verdict
log_end text (judged.Unread refusal) = LogUnread refusal
log_end text (judged.Refused refusal line) = LogRefused refusal line

-- the end of a scaffold: each nogood that it rests on follows, and its log is judged so; or the last that does not is named
abbrev pub IsEndOf : Csp → List ℕ → Learned → Proof → Type 0
IsEndOf p text s (NotFollowing place line id) = IsFailingAt p s place line id
IsEndOf p text s proof = EachMetFollows (posed p) s.nogoods × (proof ≡ log_end text (judged_log (posed p) (text_of (log_of p s))))

-- the end by the answer for the scaffold's text
abbrev pub IsEnd : Csp → List ℕ → ScaffoldAnswer → Proof → Type 0
IsEnd p text (gathered.Given s) proof = IsEndOf p text s proof
IsEnd p text (gathered.Unread refusal) proof = proof ≡ ScaffoldUnread refusal
IsEnd p text (gathered.Refused refusal line) proof = proof ≡ ScaffoldRefused refusal line

-- the end of an outcome that claims nothing: its text, by whether the solver came to an end
abbrev pub told_alone : Plan → Outcome → Proof
told_alone m (solved.Unknown best) = Unknown (outcome_text m (solved.Unknown best))
told_alone m end = Solved (outcome_text m end)

-- the end of an outcome: told alone where nothing is claimed, else by what becomes of its scaffold
abbrev pub IsEnding : Plan → Csp → Outcome → List (List Atomic) → Option Verdict → Proof → Type 0
IsEnding m p outcome nogoods None proof = proof ≡ told_alone m outcome
IsEnding m p outcome nogoods (Some claim) proof =
    IsEnd p (outcome_text m outcome) (scaffold_text (posed p) (scaffold_of p nogoods (Some claim))) proof

-- where neither the scaffold nor its log passes a limit, the log is accepted with the claim
abbrev pub IsProven : Plan → Csp → Outcome → List (List Atomic) → Option Verdict → Proof → Type 0
IsProven m p outcome nogoods None proof = Unit {0}
IsProven m p outcome nogoods (Some claim) proof =
    IsInLimits p nogoods claim → ((s : Learned) → scaffold_text (posed p) (scaffold_of p nogoods (Some claim)) ≡ gathered.Given s → AreShort (lines (log_of p s)) (text_of (log_of p s)))
    → proof ≡ Accepted (outcome_text m outcome) claim

-- neither the scaffold nor its log passes a limit
pub record IsWithin (p : Csp) (nogoods : List (List Atomic)) (claim : Verdict) : Type 0 where
  pub scaffold : IsInLimits p nogoods claim
  pub log : (s : Learned) → scaffold_text (posed p) (scaffold_of p nogoods (Some claim)) ≡ gathered.Given s → AreShort (lines (log_of p s)) (text_of (log_of p s))

-- There is no disagreement: the claim is accepted, and no limit is passed; or the end tells that one is passed.
abbrev pub IsAgreed : Plan → Csp → Outcome → List (List Atomic) → Option Verdict → Proof → Type 0
IsAgreed m p outcome nogoods None proof = Unit {0}
IsAgreed m p outcome nogoods (Some claim) proof = ((proof ≡ Accepted (outcome_text m outcome) claim) × IsWithin p nogoods claim) ⊎ IsPastLimit proof

-- A search of the problem found an outcome. What it says is true of the model; and this is its end, which is acceptance exactly where no
-- limit is passed, and else tells which.
pub record Proves (m : Plan) (p : Csp) (most : ℕ) (proof : Proof) : Type 0 where
  pub outcome : Outcome
  pub found : Finds p most outcome
  pub truth : IsTruth m outcome
  pub ending : IsEnding m p outcome found.nogoods found.claim proof
  pub proven : IsProven m p outcome found.nogoods found.claim proof
  pub agreed : IsAgreed m p outcome found.nogoods found.claim proof
