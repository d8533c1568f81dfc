-- What becomes of a scaffold of a problem.
use Rattle.std.specs.Prelude.{◌≡◌, ℕ, ◌+◌, ◌-◌, ◌==◌, if◌then◌else◌, List, ◌++◌, length, codes, string_bytes}
use Rattle.std.specs.Fmt.{decimal}
use Rattle.dp_domain.specs.Atoms.{Atomic}
use Rattle.dp_domain.specs.declared.verdict.Verdict.{Verdict}
use Rattle.dp_checker.specs.Kept.{IsRight}
use Rattle.dp_judge.specs.Logs.{judged_log}
use Rattle.dp_judge.specs.declared.answer.LogAnswer.TheVariants.{Accepted}
use Rattle.dp_justify.specs.Pieces.{nogood_at}
use Rattle.dp_parts.specs.Problems.{Csp, posed}
use Rattle.dp_process.specs.Answers.{IsFailingAt}
use Rattle.dp_process.specs.Met.{EachMetFollows}
use Rattle.dp_process.specs.Processed.{kept_count, log_of}
use Rattle.dp_replay.specs.Accepting.{AreShort, IsAccepted}
use Rattle.dp_scaffold.specs.Scaffolds.{Learned}
use Rattle.dp_scaffold.specs.declared.answer.ScaffoldAnswer.{ScaffoldAnswer}
use Rattle.dp_scaffold.specs.declared.answer.ScaffoldAnswer.TheVariants as answer
use Rattle.dp_writer.specs.Steps as steps
use Rattle.dp_writer.specs.Steps.{lines as log_lines}
use Rattle.dp_command.specs.Named.{claim_of, conjunction}
use Rattle.dp_command.specs.Texts.{claim_words, line}
use Rattle.dp_command.specs.declared.outcome.Done.{Done}
use Rattle.dp_command.specs.declared.outcome.Failing.{Failing}
use Rattle.dp_command.specs.declared.outcome.Outcome.{Outcome}
use Rattle.dp_command.specs.declared.outcome.Outcome.TheVariants as outcome

-- ---- what does not follow

-- the line that tells a nogood
abbrev pub nogood_line : Csp → ℕ → List Atomic → List ℕ
nogood_line p id atoms = line (decimal id ++ codes ": not (" ++ conjunction p atoms ++ codes ")")

-- the line that tells a claim
abbrev pub claim_line : Csp → Verdict → List ℕ
claim_line p claim = line (codes "conclusion: " ++ claim_words (claim_of p claim))

-- the line that tells the nogood at the place; the last is told as the claim
abbrev pub told_at : Csp → Learned → ℕ → ℕ → List ℕ
told_at p s place id = if place + 1 == length s.nogoods then claim_line p s.claim else nogood_line p id (nogood_at s.nogoods place)

-- the nogood that fails is told, with its line and its number
pub record IsFailingOf (p : Csp) (s : Learned) (failing : Failing) : Type 0 where
  pub place : ℕ
  pub stands : IsFailingAt p s place failing.line failing.id
  pub told : failing.text ≡ told_at p s place failing.id

-- ---- what is written

-- The text of the processed log is to be written under the name, and its counts are told. Each nogood that is met follows; no
-- test of a log refuses a line of what is written, nor are its bytes refused where no line is too long; and what it
-- concludes, which is the scaffold's claim, is right of the problem.
pub record IsDone (p : Csp) (out : List ℕ) (s : Learned) (done : Done) : Type 0 where
  pub named : string_bytes done.log.name ≡ out
  pub text : done.log.text ≡ steps.text_of (log_of p s)
  pub kept : done.kept ≡ kept_count p s
  pub nogoods : done.nogoods ≡ length s.nogoods - 1
  pub steps : done.steps ≡ steps.count_of (log_of p s)
  pub follows : EachMetFollows (posed p) s.nogoods
  pub accepted : IsAccepted (posed p) (log_lines (log_of p s)) s.claim
  pub checked : AreShort (log_lines (log_of p s)) done.log.text → judged_log (posed p) done.log.text ≡ Accepted s.claim
  pub right : IsRight p s.claim

-- ---- both

-- a scaffold is processed, or a nogood of it does not follow
abbrev pub IsOutcomeOf : Csp → List ℕ → Learned → Outcome → Type 0
IsOutcomeOf p out s (outcome.Done done) = IsDone p out s done
IsOutcomeOf p out s (outcome.Unread refusal) = ⊥
IsOutcomeOf p out s (outcome.Refused refusal text) = ⊥
IsOutcomeOf p out s (outcome.NotFollowing failing) = IsFailingOf p s failing

-- what becomes of the answer for a scaffold's bytes
abbrev pub IsOutcome : Csp → List ℕ → ScaffoldAnswer → Outcome → Type 0
IsOutcome p out (answer.Given s) o = IsOutcomeOf p out s o
IsOutcome p out (answer.Unread refusal) o = o ≡ outcome.Unread refusal
IsOutcome p out (answer.Refused refusal text) o = o ≡ outcome.Refused refusal text
