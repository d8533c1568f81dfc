-- With room for as many nogoods as there are sets of sorts of atoms, a search comes to an end.
use Rattle.std.specs.Prelude.{◌≡◌, ℕ, ◌<◌, ◌≤◌, ◌^◌, length}
use Rattle.std.proofs.Common.{arith}
use Rattle.dp_learning.proofs.CountingLaws.{fewer-learned}
use Rattle.dp_learning.specs.Sorts.{sort_count}
use Rattle.dp_parts.specs.Problems.{Csp, IsProblem, posed}
use Rattle.dp_parts.specs.ProblemLaws.{soundly_posed}
use Rattle.dp_solver.specs.Outcomes.{IsDecided}
use Rattle.dp_solver.specs.declared.outcome.Outcome.{Outcome}
use Rattle.dp_solver.specs.declared.outcome.Outcome.TheVariants.{Solution, Unsat, Optimal, Unknown}
use Rattle.fz_solve.specs.Solved.{Finds}

as_many : (sets most count : ℕ) → count ≡ most → count < sets → sets ≤ most → ⊥
as_many sets most count e f g = omega (arith, e, f, g)

-- what a search finds with such room is no open outcome
pub decided_by : (p : Csp) (most : ℕ) (o : Outcome) → IsProblem p → Finds p most o → 2 ^ sort_count p.initial ≤ most → IsDecided o
decided_by p most (Solution numbers) problem found room = tt
decided_by p most Unsat problem found room = tt
decided_by p most (Optimal numbers bound) problem found room = tt
decided_by p most (Unknown best) problem found room =
    as_many (2 ^ sort_count p.initial) most (length found.nogoods) found.outcome_is.count
    (fewer-learned (posed p) found.nogoods (soundly_posed p problem) found.learned) room
