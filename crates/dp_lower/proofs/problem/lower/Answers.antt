-- The facts of every model hold, and its solutions are the problem's.
use Rattle.std.proofs.Common.{◌≡◌, ℕ, ℤ}
use Rattle.std.specs.Prelude.{◌↔◌}
use Rattle.dp_parts.specs.Problems.{Csp, IsSolution}
use Rattle.fz_sat.specs.Satisfies.{Satisfies}
use Rattle.dp_lower.specs.Problem.{problem_of}
use Rattle.dp_lower.proofs.LowerLaws.{plan_formed, plan_same}
use Rattle.dp_lower.proofs.WeightLaws.{ok_map}
use Rattle.dp_lower.proofs.problem.lower.Goals as goal

pub problem_of-requires : goal.problem_of-requires
problem_of-requires c = plan_formed c.args.model.now c.items.result.now c.constraints.result.now c.goal.result c.items.ensures.items c.constraints.ensures.constraints c.goal.ensures.goal c.items.ensures.model

pub returns-clause-same : goal.returns-clause-same
returns-clause-same c =
    ok_map c.problem_of.result (λ (p : Csp). p ≡ problem_of (record { items = c.items.result.now; constraints = c.constraints.result.now; goal = c.goal.result })) (λ (p : Csp). (s : ℕ → ℤ) → Satisfies c.args.model.now s ↔ IsSolution s p)
    (λ p is. plan_same c.args.model.now c.items.result.now c.constraints.result.now c.goal.result p c.items.ensures.items c.constraints.ensures.constraints c.goal.ensures.goal c.items.ensures.model is) c.problem_of.ensures
