-- What a solver answers, and what it writes.
use Rattle.std.specs.Prelude.{◌≡◌, ℕ, ◌≤◌, List, length, Option, Some, None, IfSome, Result, OnOk, IsErrOf, ℤ}
use Rattle.dp_base.specs.Lists.{Each}
use Rattle.dp_desk.specs.Causes.{Rose}
use Rattle.dp_desk.specs.Channel.{Channel, Grows, GrowsByPart}
use Rattle.dp_domain.specs.Atoms.{Atomic}
use Rattle.dp_domain.specs.declared.verdict.Verdict.{Verdict}
use Rattle.dp_domain.specs.declared.verdict.Verdict.TheVariants as claimed
use Rattle.dp_engine.specs.declared.turn.Turn.TheVariants.{Quiet}
use Rattle.dp_learning.specs.Learning.{AreLearned, Concludes, denial_of, end_after}
use Rattle.dp_learning.specs.Scaffolds.{scaffold_of, steps_of}
use Rattle.dp_learning.specs.Solutions.{IsSolutionOf, best_claim, open_claim}
use Rattle.dp_lines.specs.Allowed.{IsAllowed}
use Rattle.dp_parts.specs.Problems.{Csp, posed}
use Rattle.dp_parts.specs.declared.goal.Goal.TheVariants.{Satisfy}
use Rattle.dp_rule_clause.specs.Nogoods.{IsOnce}
use Rattle.dp_solver.specs.declared.outcome.Outcome.{Outcome}
use Rattle.dp_solver.specs.declared.outcome.Outcome.TheVariants.{Solution, Unsat, Optimal, Unknown}
use Rattle.dp_solver.specs.declared.outcome.SolveFault.{SolveFault}
use Rattle.dp_solver.specs.declared.outcome.SolveFault.TheVariants.{WriteFault}
use Rattle.dp_writer.specs.Steps.{lines}

-- a solution is found where nothing more is asked; nothing is claimed
pub record IsFound (p : Csp) (said : Option Verdict) (numbers : List ℤ) : Type 0 where
  pub goal : p.goal ≡ Satisfy
  pub solution : IsSolutionOf p numbers
  pub claim : said ≡ None

-- that there is no solution is claimed, and follows from the nogoods
pub record IsRefuted (p : Csp) (nogoods : List (List Atomic)) (said : Option Verdict) : Type 0 where
  pub claim : said ≡ Some claimed.Unsat
  pub follows : Concludes (posed p) nogoods claimed.Unsat

-- the solution is the best: the bound at its value of the goal's variable is claimed, and follows from the nogoods
pub record IsOptimal (p : Csp) (nogoods : List (List Atomic)) (said : Option Verdict) (numbers : List ℤ) (atom : Atomic) : Type 0 where
  pub solution : IsSolutionOf p numbers
  pub bound : best_claim p.goal numbers ≡ claimed.Bound atom
  pub claim : said ≡ Some (claimed.Bound atom)
  pub follows : Concludes (posed p) nogoods (claimed.Bound atom)

-- as many nogoods were learned as may be, and what is still to be shown does not follow from them; nothing is claimed
pub record IsOpen (p : Csp) (most : ℕ) (nogoods : List (List Atomic)) (said : Option Verdict) (best : Option (List ℤ)) : Type 0 where
  pub solution : IfSome best (IsSolutionOf p)
  pub none : p.goal ≡ Satisfy → best ≡ None
  pub claim : said ≡ None
  pub count : length nogoods ≡ most
  pub rests : end_after (posed p) nogoods (denial_of (open_claim p.goal best)) ≡ Quiet

-- the outcome is that of these nogoods, of which there may be so many, and of the claim behind them
abbrev pub IsOutcome : Csp → ℕ → List (List Atomic) → Option Verdict → Outcome → Type 0
IsOutcome p most nogoods claim (Solution numbers) = IsFound p claim numbers
IsOutcome p most nogoods claim Unsat = IsRefuted p nogoods claim
IsOutcome p most nogoods claim (Optimal numbers bound) = IsOptimal p nogoods claim numbers bound
IsOutcome p most nogoods claim (Unknown best) = IsOpen p most nogoods claim best

-- nogoods were learned, at most so many, each without an atom twice; they were written, with a claim behind them, if any, in
-- lines that a log may have; and this is the outcome
pub record Solves (p : Csp) (most : ℕ) (was now : Channel) (answer : Outcome) : Type 0 where
  pub nogoods : List (List Atomic)
  pub claim : Option Verdict
  pub learned : AreLearned (posed p) nogoods
  pub once : Each IsOnce nogoods
  pub few : length nogoods ≤ most
  pub allowed : Each IsAllowed (lines (steps_of p nogoods claim))
  pub written : Grows was now (scaffold_of p nogoods claim)
  pub outcome : IsOutcome p most nogoods claim answer

-- nogoods were learned, at most so many, and a claim, if any, follows from them; a front of the scaffold was written
pub record SolvesInPart (p : Csp) (most : ℕ) (was now : Channel) : Type 0 where
  pub nogoods : List (List Atomic)
  pub claim : Option Verdict
  pub learned : AreLearned (posed p) nogoods
  pub few : length nogoods ≤ most
  pub follows : IfSome claim (Concludes (posed p) nogoods)
  pub written : GrowsByPart was now (scaffold_of p nogoods claim)

-- the solver came to an end
abbrev pub IsDecided : Outcome → Type 0
IsDecided (Unknown best) = ⊥
IsDecided outcome = Unit {0}

-- the count of faults never falls, has risen where a write fault is answered, and stays where all went well
pub record HasWriteCause {T : Type 0} (before now : ℕ) (result : Result T SolveFault) : Type 0 where
  pub later : before ≤ now
  pub failed : IsErrOf result WriteFault → Rose before now
  pub kept : OnOk result (now ≡ before)
