-- A scaffold that a solver writes is read as the nogoods and the claim that it was written of.
use Rattle.std.specs.Prelude.{◌≡◌, ℕ, ◌≤◌, Some, List, [], ◌∷◌, ◌++◌, length}
use Rattle.std.specs.List.{sum_by}
use Rattle.dp_base.specs.Lists.{Each}
use Rattle.dp_domain.specs.Atoms.{Atomic}
use Rattle.dp_domain.specs.States.{AreOf}
use Rattle.dp_domain.specs.declared.verdict.Verdict.{Verdict}
use Rattle.dp_judge.specs.Logs.{IsOfGoal}
use Rattle.dp_learning.specs.Learning.{denial_of}
use Rattle.dp_learning.specs.Scaffolds.{scaffold_of, steps_of}
use Rattle.dp_lines.specs.Allowed.{IsAllowed}
use Rattle.dp_parts.specs.Problems.{Csp, IsProblem, LeadBack, posed}
use Rattle.dp_replay.specs.Accepting.{AreShort}
use Rattle.dp_rule_clause.specs.Nogoods.{IsOnce}
use Rattle.dp_scaffold.specs.Gathering.{most_literals, most_nogoods}
use Rattle.dp_scaffold.specs.Scaffolds.{Learned}
use Rattle.dp_scaffold.specs.Texts.{scaffold_text}
use Rattle.dp_scaffold.specs.declared.answer.ScaffoldAnswer.TheVariants.{Given}
use Rattle.dp_writer.specs.Steps.{lines}

-- no limit of scaffolds is passed: by the nogoods, by their literals, or by a line or all of its bytes
pub record IsInLimits (p : Csp) (nogoods : List (List Atomic)) (claim : Verdict) : Type 0 where
  pub few : length nogoods ≤ most_nogoods
  pub literals : sum_by length nogoods ≤ most_literals
  pub short : AreShort (lines (steps_of p nogoods (Some claim))) (scaffold_of p nogoods (Some claim))

-- the answer is a scaffold of these nogoods and this claim
pub record IsReadAs (p : Csp) (nogoods : List (List Atomic)) (claim : Verdict) (bytes : List ℕ) : Type 0 where
  pub scaffold : Learned
  pub given : scaffold_text (posed p) bytes ≡ Given scaffold
  pub those : scaffold.nogoods ≡ nogoods ++ denial_of claim ∷ []
  pub claims : scaffold.claim ≡ claim

-- what is written of nogoods of the problem, each without an atom twice, and of a claim on its goal, is read as those
abbrev pub Rereads : Type 0
Rereads = (p : Csp) (nogoods : List (List Atomic)) (claim : Verdict) → IsProblem p → LeadBack p.names → Each (AreOf p.initial) nogoods → Each IsOnce nogoods
    → IsOfGoal p claim → Each IsAllowed (lines (steps_of p nogoods (Some claim))) → IsInLimits p nogoods claim
    → IsReadAs p nogoods claim (scaffold_of p nogoods (Some claim))
