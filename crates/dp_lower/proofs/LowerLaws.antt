-- What the code makes is the problem of the model.
use Rattle.std.proofs.Common.{◌≡◌, ℕ, ◌^◌, ◌<◌, List, length, ℤ, refl, sym, ◌∙◌, ap, subst}
use Rattle.std.specs.Prelude.{◌↔◌}
use Rattle.dp_domain.specs.States.{Domains}
use Rattle.dp_parts.specs.Problems.{Csp, IsProblem, IsSolution}
use Rattle.dp_parts.specs.declared.goal.Goal.{Goal}
use Rattle.dp_parts.specs.declared.part.Part.{Part}
use Rattle.fz_facts.specs.Facts.{IsWellFormed}
use Rattle.fz_facts.proofs.WellFormed.{well_formed}
use Rattle.fz_model.specs.Models.{IsModel, Plan}
use Rattle.fz_model.specs.declared.model.Constraint.{Constraint}
use Rattle.fz_model.specs.declared.model.Item.{Item}
use Rattle.fz_model.specs.declared.model.ModelGoal.{ModelGoal}
use Rattle.fz_sat.specs.Satisfies.{Satisfies}
use Rattle.dp_lower.specs.Problem.{problem_of}
use Rattle.dp_lower.proofs.ProblemLaws.{is_problem}
use Rattle.dp_lower.proofs.SolutionLaws.{same_solutions}

-- ---- the problem

pub few_sets : (m : Plan) (sets : Domains) → IsWellFormed m → sets ≡ (problem_of m).initial → length sets < 2 ^ 32
few_sets m sets h e = subst (λ (d : Domains). length d < 2 ^ 32) (sym e) (is_problem m h).few_variables

same_csp : (p : Csp) (names : List (List ℕ × ℕ)) (own : List ℕ) (sets : Domains) (parts : List (List Part)) (goal : Goal) → names ≡ p.names → own ≡ p.own → sets ≡ p.initial → parts ≡ p.parts → goal ≡ p.goal →
    (let q : Csp = record { names = names; own = own; initial = sets; parts = parts; goal = goal } in q) ≡ p
same_csp p names own sets parts goal e f g h i = rw (e, f, g, h, i) refl

pub problem_kept : (m : Plan) (names : List (List ℕ × ℕ)) (own : List ℕ) (sets : Domains) (parts : List (List Part)) (goal : Goal) → IsWellFormed m →
    names ≡ (problem_of m).names → own ≡ (problem_of m).own → sets ≡ (problem_of m).initial → parts ≡ (problem_of m).parts → goal ≡ (problem_of m).goal →
    IsProblem (record { names = names; own = own; initial = sets; parts = parts; goal = goal })
problem_kept m names own sets parts goal wf e f g h i = subst IsProblem (sym (same_csp (problem_of m) names own sets parts goal e f g h i)) (is_problem m wf)

-- ---- the model

plan_is : (m : Plan) (is : List Item) (cs : List Constraint) (g : ModelGoal) → is ≡ m.items → cs ≡ m.constraints → g ≡ m.goal → (let q : Plan = record { items = is; constraints = cs; goal = g } in q) ≡ m
plan_is m is cs g e f h = rw (e, f, h) refl

pub plan_formed : (m : Plan) (is : List Item) (cs : List Constraint) (g : ModelGoal) → is ≡ m.items → cs ≡ m.constraints → g ≡ m.goal → IsModel m → IsWellFormed (record { items = is; constraints = cs; goal = g })
plan_formed m is cs g e f h model = subst IsWellFormed (sym (plan_is m is cs g e f h)) (well_formed m model)

pub plan_same : (m : Plan) (is : List Item) (cs : List Constraint) (g : ModelGoal) (p : Csp) → is ≡ m.items → cs ≡ m.constraints → g ≡ m.goal → IsModel m → p ≡ problem_of (record { items = is; constraints = cs; goal = g }) →
    (s : ℕ → ℤ) → Satisfies m s ↔ IsSolution s p
plan_same m is cs g p e f h model i s =
    subst (λ (q : Csp). Satisfies m s ↔ IsSolution s q) (sym (i ∙ ap problem_of (plan_is m is cs g e f h))) (same_solutions m (well_formed m model) s)
