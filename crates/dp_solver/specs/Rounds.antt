-- What a search keeps from round to round, and what a round ends with.
use Rattle.std.specs.Prelude.{◌≡◌, ℕ, ◌+◌, ◌-◌, ◌<◌, ◌≤◌, List, [], ◌∷◌, ◌++◌, length, Option, Some, None, IfSome, IsSome, map}
use Rattle.std.specs.Option.{option_map}
use Rattle.dp_base.specs.Lists.{Each}
use Rattle.dp_desk.specs.Channel.{Channel, Grows, GrowsByPart}
use Rattle.dp_domain.specs.Atoms.{Atomic}
use Rattle.dp_domain.specs.States.{Domains, cut_all, total}
use Rattle.dp_domain.specs.declared.verdict.Verdict.{Verdict}
use Rattle.dp_domain.specs.declared.verdict.Verdict.TheVariants.{Unsat, Bound}
use Rattle.dp_learning.specs.Learning.{AreLearned, denial_of}
use Rattle.dp_learning.specs.Scaffolds.{scaffold_of, steps_of}
use Rattle.dp_learning.specs.Solutions.{IsSolutionOf, best_claim}
use Rattle.dp_lines.specs.Allowed.{IsAllowed}
use Rattle.dp_parts.specs.Problems.{Csp, posed}
use Rattle.dp_parts.specs.declared.goal.Goal.TheVariants.{Satisfy}
use Rattle.dp_rule_clause.specs.Nogoods.{IsOnce}
use Rattle.dp_solver.specs.Descents.{lowest}
use Rattle.dp_solver.specs.Marks.{IsOn}
use Rattle.dp_solver.specs.Outcomes.{Solves}
use Rattle.dp_solver.specs.declared.outcome.Outcome.{Outcome}
use Rattle.dp_solver.specs.declared.outcome.Outcome.TheVariants as outcomes
use Rattle.dp_solver.specs.declared.round.Round.{Round}
use Rattle.dp_solver.specs.declared.round.Round.TheVariants.{Ended, Open}
use Rattle.dp_solver.specs.declared.task.Best.{Best}
use Rattle.dp_solver.specs.declared.task.Search.{Search}
use Rattle.dp_writer.specs.Steps.{lines}
use Rattle.dp_writer.specs.Written.{StandsFor, Written}

-- ---- the best solution

-- the numbers are a solution, and this is the bound at their value of the goal's variable
pub record IsBest (p : Csp) (best : Best) : Type 0 where
  pub solution : IsSolutionOf p best.numbers
  pub at : best_claim p.goal best.numbers ≡ Bound best.bound

-- of a state that leaves each variable one value: it is the answer where there is no goal, else the best
abbrev pub IsSolutionAt : Csp → Domains → Round → Type 0
IsSolutionAt p d (Ended outcome) = (outcome ≡ outcomes.Solution (map lowest d)) × (p.goal ≡ Satisfy)
IsSolutionAt p d (Open best) = IfSome best (λ b. (b.numbers ≡ map lowest d) × (best_claim p.goal b.numbers ≡ Bound b.bound)) × IsSome best

-- what is still to be shown
abbrev pub claim_of : Option Best → Verdict
claim_of None = Unsat
claim_of (Some best) = Bound best.bound

-- the outcome where it is shown
abbrev pub decided : Option Best → Outcome
decided None = outcomes.Unsat
decided (Some best) = outcomes.Optimal best.numbers best.bound

-- the outcome where it is not
abbrev pub undecided : Option Best → Outcome
undecided best = outcomes.Unknown (option_map (λ b. b.numbers) best)

-- ---- the scaffold

-- the nogoods were written, all bytes are handed over, and no claim is written yet
pub record IsWritten (p : Csp) (nogoods : List (List Atomic)) (was now : Channel) (w : Written) : Type 0 where
  pub grows : Grows was now (scaffold_of p nogoods None)
  pub stands : StandsFor w (steps_of p nogoods None) (scaffold_of p nogoods None)

-- whatever was learned and written before, this nogood was written after it
abbrev pub WritesNogood : Csp → List Atomic → Channel → Written → Channel → Written → Type 0
WritesNogood p atoms old before new after =
    (was : Channel) (nogoods : List (List Atomic)) → IsWritten p nogoods was old before → IsWritten p (nogoods ++ atoms ∷ []) was new after

-- or a part of it
abbrev pub WritesNogoodInPart : Csp → List Atomic → Channel → Written → Channel → Type 0
WritesNogoodInPart p atoms old before new =
    (was : Channel) (nogoods : List (List Atomic)) → IsWritten p nogoods was old before → GrowsByPart was new (scaffold_of p (nogoods ++ atoms ∷ []) None)

-- the claim was written after it, in lines that a log may have
abbrev pub WritesClaim : Csp → Verdict → Channel → Written → Channel → Type 0
WritesClaim p claim old before new =
    (was : Channel) (nogoods : List (List Atomic)) → IsWritten p nogoods was old before → Grows was new (scaffold_of p nogoods (Some claim)) × Each IsAllowed (lines (steps_of p nogoods (Some claim)))

-- or a part of it
abbrev pub WritesClaimInPart : Csp → Verdict → Channel → Written → Channel → Type 0
WritesClaimInPart p claim old before new =
    (was : Channel) (nogoods : List (List Atomic)) → IsWritten p nogoods was old before → GrowsByPart was new (scaffold_of p nogoods (Some claim))

-- ---- rounds

-- a search that stands on the problem, with no nogood yet and nothing written
pub record IsFresh (p : Csp) (s : Search) : Type 0 where
  pub on : IsOn p s.root s.engine
  pub none : s.engine.nogoods ≡ []
  pub empty : StandsFor s.writer [] []
  pub count : s.learned ≡ 0

-- the search stands on the problem; its nogoods are learned, each without an atom twice, at most so many, and written
pub record IsSearching (p : Csp) (most : ℕ) (was now : Channel) (s : Search) : Type 0 where
  pub on : IsOn p s.root s.engine
  pub learned : AreLearned (posed p) s.engine.nogoods
  pub once : Each IsOnce s.engine.nogoods
  pub count : length s.engine.nogoods ≡ s.learned
  pub few : s.learned ≤ most
  pub written : IsWritten p s.engine.nogoods was now s.writer

-- how many values are left to be searched
abbrev pub open_values : Csp → Option Best → ℕ
open_values p best = total (cut_all p.initial (denial_of (claim_of best)))

-- how much there is to do: the nogoods that may still be learned, and the values
abbrev pub work : Csp → ℕ → Search → Option Best → ℕ
work p most s best = (most - s.learned) + open_values p best

-- the search has ended, or goes on with less to do
abbrev pub IsRound : Csp → ℕ → Channel → Channel → ℕ → Search → Round → Type 0
IsRound p most was now before s (Ended outcome) = Solves p most was now outcome
IsRound p most was now before s (Open best) = IsSearching p most was now s × IfSome best (IsBest p) × (work p most s best < before)
