-- What a solved model leaves of a desk, and that what it prints is true of the model.
use Rattle.std.specs.Prelude.{◌≡◌, ◌⊎◌, ℕ, ◌≤◌, List, ◌++◌, length, IfSome, Option, Some, ℤ, ◌≤ℤ◌}
use Rattle.dp_desk.specs.Channel.{Channel, Grows, GrowsByPart, Shut, Hidden, Shown}
use Rattle.dp_desk.specs.Sight.{Sight}
use Rattle.dp_domain.specs.Atoms.{Atomic}
use Rattle.dp_domain.specs.declared.verdict.Verdict.{Verdict}
use Rattle.dp_learning.specs.Learning.{AreLearned, Concludes}
use Rattle.dp_learning.specs.Scaffolds.{scaffold_of}
use Rattle.dp_parts.specs.Problems.{Csp, posed}
use Rattle.dp_solver.specs.Outcomes.{IsOutcome}
use Rattle.dp_solver.specs.declared.outcome.Outcome.{Outcome}
use Rattle.dp_solver.specs.declared.outcome.Outcome.TheVariants.{Solution, Unsat, Optimal, Unknown}
use Rattle.fz_model.specs.Models.{Plan}
use Rattle.fz_model.specs.declared.model.ModelGoal.{ModelGoal}
use Rattle.fz_model.specs.declared.model.ModelGoal.TheVariants.{Satisfy, Minimize, Maximize}
use Rattle.fz_sat.specs.Satisfies.{Satisfies, objective_of, valuation}
use Rattle.fz_solve.specs.Printed.{outcome_status, outcome_text}

-- ---- the truth of an outcome

-- one value of the objective is as good as another
abbrev pub IsAsGood : ModelGoal → ℤ → ℤ → Type 0
IsAsGood Satisfy v w = Unit {0}
IsAsGood (Minimize place) v w = v ≤ℤ w
IsAsGood (Maximize place) v w = w ≤ℤ v

-- the numbers satisfy the model, and no assignment that does has a better value of its objective
pub record IsBest (m : Plan) (numbers : List ℤ) : Type 0 where
  pub satisfies : Satisfies m (valuation numbers)
  pub best : (s : ℕ → ℤ) (v w : ℤ) → Satisfies m s → objective_of m (valuation numbers) ≡ Some v → objective_of m s ≡ Some w → IsAsGood m.goal v w

-- no assignment satisfies the model
abbrev pub IsUnsatisfiable : Plan → Type 0
IsUnsatisfiable m = (s : ℕ → ℤ) → Satisfies m s → ⊥

-- what the outcome says is so
abbrev pub IsTruth : Plan → Outcome → Type 0
IsTruth m (Solution numbers) = Satisfies m (valuation numbers)
IsTruth m Unsat = IsUnsatisfiable m
IsTruth m (Optimal numbers bound) = IsBest m numbers
IsTruth m (Unknown best) = IfSome best (λ numbers. Satisfies m (valuation numbers))

-- ---- the file and the answer

-- the output is open, and holds this where it is told
abbrev pub Holds : Channel → List ℕ → Type 0
Holds Shut text = ⊥
Holds Hidden text = Unit {0}
Holds (Shown bytes) text = bytes ≡ text

-- the output is open, and holds a front of this where it is told
abbrev pub HoldsFront : Channel → List ℕ → Type 0
HoldsFront Shut text = ⊥
HoldsFront Hidden text = Unit {0}
HoldsFront (Shown bytes) text = (rest : List ℕ) × (text ≡ bytes ++ rest)

-- a search of the problem found this outcome: at most so many nogoods, each learned behind those before it, and what is claimed
pub record Finds (p : Csp) (most : ℕ) (outcome : Outcome) : Type 0 where
  pub nogoods : List (List Atomic)
  pub claim : Option Verdict
  pub learned : AreLearned (posed p) nogoods
  pub few : length nogoods ≤ most
  pub outcome_is : IsOutcome p most nogoods claim outcome

-- the output holds the whole scaffold of what a search found
pub record HoldsAll (p : Csp) (most : ℕ) (now : Channel) (outcome : Outcome) : Type 0 where
  pub found : Finds p most outcome
  pub file : Holds now (scaffold_of p found.nogoods found.claim)

-- The first file holds the scaffold of what a search found. The answer grew by the text of the outcome, whose status this is; and
-- what it says is true of the model.
pub record Solved (m : Plan) (p : Csp) (most status : ℕ) (was now : Sight) : Type 0 where
  pub outcome : Outcome
  pub found : Finds p most outcome
  pub file : Holds now.first (scaffold_of p found.nogoods found.claim)
  pub told : Grows was.answer now.answer (outcome_text m outcome)
  pub stands : status ≡ outcome_status outcome
  pub truth : IsTruth m outcome

-- The first file was not opened, or holds a front of a scaffold: at most so many nogoods, each learned behind those before it,
-- and a claim, if any, that follows from them.
pub record FilesFront (p : Csp) (most : ℕ) (was now : Channel) : Type 0 where
  pub nogoods : List (List Atomic)
  pub claim : Option Verdict
  pub learned : AreLearned (posed p) nogoods
  pub few : length nogoods ≤ most
  pub follows : IfSome claim (Concludes (posed p) nogoods)
  pub file : (now ≡ was) ⊎ HoldsFront now (scaffold_of p nogoods claim)

-- the first file holds the scaffold of what a search found, and the answer grew by a front of the text of its outcome
pub record SolvedPart (m : Plan) (p : Csp) (most : ℕ) (was now : Sight) : Type 0 where
  pub outcome : Outcome
  pub found : Finds p most outcome
  pub file : Holds now.first (scaffold_of p found.nogoods found.claim)
  pub told : GrowsByPart was.answer now.answer (outcome_text m outcome)

-- after a fault fronts of what was due stand there: of the file, with nothing told; or the whole file and a front of what is told
abbrev pub SolvesFront : Plan → Csp → ℕ → Sight → Sight → Type 0
SolvesFront m p most was now = (FilesFront p most was.first now.first × (now.answer ≡ was.answer)) ⊎ SolvedPart m p most was now
