-- Solutions, and what is claimed where one is the best.
use Rattle.std.specs.Prelude.{◌≡◌, ℕ, List, length, get_or, Option, Some, None, ℤ, pos}
use Rattle.dp_domain.specs.Atoms.{Atomic}
use Rattle.dp_domain.specs.States.{cut_all}
use Rattle.dp_domain.specs.Turns.{at_least, at_most}
use Rattle.dp_domain.specs.declared.verdict.Verdict.{Verdict}
use Rattle.dp_domain.specs.declared.verdict.Verdict.TheVariants.{Unsat, Bound}
use Rattle.dp_parts.specs.declared.goal.Goal.{Goal}
use Rattle.dp_parts.specs.declared.goal.Goal.TheVariants.{Satisfy, Minimize, Maximize}
use Rattle.dp_parts.specs.Problems.{Csp, IsSolution}

-- the problem with its initial domains cut by the atoms, and with another goal
abbrev pub cut_problem : Csp → List Atomic → Goal → Csp
cut_problem p atoms goal = record p { initial = cut_all p.initial atoms; goal = goal }

-- the assignment of these numbers, in order of declaration
abbrev pub assigned : List ℤ → ℕ → ℤ
assigned numbers x = get_or numbers x (pos 0)

-- a number for each variable: they lie in the initial domains, and meet every part
pub record IsSolutionOf (p : Csp) (numbers : List ℤ) : Type 0 where
  pub count : length numbers ≡ length p.initial
  pub solves : IsSolution (assigned numbers) p

-- that nothing is better than the numbers: the bound at their value of the goal's variable
abbrev pub best_claim : Goal → List ℤ → Verdict
best_claim Satisfy numbers = Unsat
best_claim (Minimize x) numbers = Bound (at_least x (assigned numbers x))
best_claim (Maximize x) numbers = Bound (at_most x (assigned numbers x))

-- what is still to be shown where these are the best that are known: that there is no solution, or none better
abbrev pub open_claim : Goal → Option (List ℤ) → Verdict
open_claim goal None = Unsat
open_claim goal (Some numbers) = best_claim goal numbers
