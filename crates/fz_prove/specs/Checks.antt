-- What the steps of proving a model leave.
use Rattle.std.specs.Prelude.{◌≡◌, ◌⊎◌, ℕ, List}
use Rattle.dp_base.specs.Lists.{Each}
use Rattle.dp_desk.specs.Channel.{Channel}
use Rattle.dp_learning.specs.Scaffolds.{scaffold_of, steps_of}
use Rattle.dp_lines.specs.Allowed.{IsAllowed}
use Rattle.dp_parts.specs.Problems.{Csp, posed}
use Rattle.dp_process.specs.Met.{EachMetFollows}
use Rattle.dp_process.specs.Processed.{log_of}
use Rattle.dp_replay.specs.Accepting.{AreShort}
use Rattle.dp_rule_clause.specs.Nogoods.{IsOnce}
use Rattle.dp_scaffold.specs.Scaffolds.{Learned}
use Rattle.dp_scaffold.specs.Texts.{scaffold_text}
use Rattle.dp_scaffold.specs.declared.answer.ScaffoldAnswer.{ScaffoldAnswer}
use Rattle.dp_scaffold.specs.declared.answer.ScaffoldAnswer.TheVariants as gathered
use Rattle.dp_solver.specs.declared.outcome.Outcome.{Outcome}
use Rattle.dp_solver.specs.declared.outcome.Outcome.TheVariants.{Solution, Unsat, Optimal, Unknown}
use Rattle.dp_writer.specs.Steps.{lines, text_of}
use Rattle.fz_model.specs.Models.{Plan}
use Rattle.fz_prove.specs.Limits.{IsPastLimit}
use Rattle.fz_prove.specs.Proofs.{IsEnd}
use Rattle.fz_prove.specs.declared.proof.Proof.{Proof}
use Rattle.fz_prove.specs.declared.proof.Proof.TheVariants.{Solved, Unknown as NotKnown, Accepted}
use Rattle.fz_solve.specs.Printed.{outcome_text}
use Rattle.fz_solve.specs.Solved.{Finds, Holds}

-- the output holds the whole scaffold of what a search found, in lines that a log may have, and no nogood has an atom twice
pub record IsSearched (p : Csp) (most : ℕ) (now : Channel) (outcome : Outcome) : Type 0 where
  pub found : Finds p most outcome
  pub once : Each IsOnce found.nogoods
  pub allowed : Each IsAllowed (lines (steps_of p found.nogoods found.claim))
  pub written : Holds now (scaffold_of p found.nogoods found.claim)

-- where each nogood that the scaffold rests on follows and its log passes no limit, the log is accepted with its claim
abbrev pub IsPassedOf : Csp → List ℕ → Learned → Proof → Type 0
IsPassedOf p text s proof = EachMetFollows (posed p) s.nogoods → AreShort (lines (log_of p s)) (text_of (log_of p s)) → proof ≡ Accepted text s.claim

-- the same of the scaffold of a text, if it is one
abbrev pub IsPassed : Csp → List ℕ → ScaffoldAnswer → Proof → Type 0
IsPassed p text (gathered.Given s) proof = IsPassedOf p text s proof
IsPassed p text (gathered.Unread refusal) proof = Unit {0}
IsPassed p text (gathered.Refused refusal line) proof = Unit {0}

-- where each nogood that the scaffold rests on follows, its claim is accepted, and its log passes no limit; or one is passed, and that is told
abbrev pub IsLimitedOf : Csp → List ℕ → Learned → Proof → Type 0
IsLimitedOf p text s proof =
    EachMetFollows (posed p) s.nogoods → ((proof ≡ Accepted text s.claim) × AreShort (lines (log_of p s)) (text_of (log_of p s))) ⊎ IsPastLimit proof

-- the same of the scaffold of a text, if it is one
abbrev pub IsLimited : Csp → List ℕ → ScaffoldAnswer → Proof → Type 0
IsLimited p text (gathered.Given s) proof = IsLimitedOf p text s proof
IsLimited p text (gathered.Unread refusal) proof = Unit {0}
IsLimited p text (gathered.Refused refusal line) proof = Unit {0}

-- the end of a scaffold's bytes
pub record IsChecked (p : Csp) (text bytes : List ℕ) (proof : Proof) : Type 0 where
  pub ending : IsEnd p text (scaffold_text (posed p) bytes) proof
  pub passed : IsPassed p text (scaffold_text (posed p) bytes) proof
  pub limited : IsLimited p text (scaffold_text (posed p) bytes) proof

-- the end of an outcome, whose scaffold has these bytes
abbrev pub IsTold : Plan → Csp → List ℕ → Outcome → Proof → Type 0
IsTold m p bytes (Solution numbers) proof = proof ≡ Solved (outcome_text m (Solution numbers))
IsTold m p bytes Unsat proof = IsChecked p (outcome_text m Unsat) bytes proof
IsTold m p bytes (Optimal numbers bound) proof = IsChecked p (outcome_text m (Optimal numbers bound)) bytes proof
IsTold m p bytes (Unknown best) proof = proof ≡ NotKnown (outcome_text m (Unknown best))
