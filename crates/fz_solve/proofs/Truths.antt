-- What an outcome says is true of the model.
use Rattle.std.proofs.Common.{◌≡◌, ℕ, true, ◌↔◌, ℤ, ◌≤ℤ◌, int_le, List, Option, Some, None, sym, subst}
use Rattle.dp_domain.specs.Atoms.{Atomic, meets}
use Rattle.dp_domain.specs.Terms.{term_at}
use Rattle.dp_domain.specs.Turns.{at_least, at_most}
use Rattle.dp_domain.specs.declared.term.Term.{Term}
use Rattle.dp_domain.specs.declared.term.Term.TheVariants.{Var, Const}
use Rattle.dp_domain.specs.declared.verdict.Verdict.{Verdict}
use Rattle.dp_domain.specs.declared.verdict.Verdict.TheVariants.{Bound}
use Rattle.dp_domain.proofs.AtomLaws.{le-from_test}
use Rattle.dp_learning.specs.Learning.{AreLearned}
use Rattle.dp_learning.specs.Solutions.{best_claim}
use Rattle.dp_learning.proofs.TruthLaws.{concluded-bound, concluded-none}
use Rattle.dp_lower.specs.Problem.{goal_in, problem_of, variable_in}
use Rattle.dp_parts.specs.ProblemLaws.{solution_solves, soundly_posed}
use Rattle.dp_parts.specs.Problems.{Csp, IsProblem, IsSolution, posed}
use Rattle.dp_solver.specs.Outcomes.{IsOutcome}
use Rattle.dp_solver.specs.declared.outcome.Outcome.{Outcome}
use Rattle.dp_solver.specs.declared.outcome.Outcome.TheVariants.{Solution, Unsat, Optimal, Unknown}
use Rattle.fz_facts.specs.Facts.{IsGoal, IsVariable}
use Rattle.fz_facts.proofs.WellFormed.{well_formed}
use Rattle.fz_model.specs.Models.{IsModel, Plan, count_variables}
use Rattle.fz_model.specs.declared.model.Basic.TheVariants as basic
use Rattle.fz_model.specs.declared.model.Item.{Item}
use Rattle.fz_model.specs.declared.model.ModelGoal.{ModelGoal}
use Rattle.fz_model.specs.declared.model.ModelGoal.TheVariants.{Satisfy, Minimize, Maximize}
use Rattle.fz_sat.specs.Args.{term_of}
use Rattle.fz_sat.specs.Satisfies.{Satisfies, goal_value, valuation}
use Rattle.fz_solve.specs.Solved.{IsAsGood, IsTruth}

-- ---- the objective

some_at : (v w : ℤ) → Some v ≡ Some w → v ≡ w
some_at v w e = cc

-- the objective is the value of the goal's variable
value_at : (s : ℕ → ℤ) (n : ℕ) (t : Term) (v : ℤ) → IsVariable n t → Some (term_at s t) ≡ Some v → v ≡ s (variable_in t)
value_at s n (Var x) v h e = some_at v (s x) (sym e)
value_at s n (Const w) v h e = absurd h

bound_same : (a b : Atomic) → ◌≡◌ {A = Verdict} (Bound a) (Bound b) → a ≡ b
bound_same a b e = cc

-- what meets a bound meets it by its other name
met_by : (a b : Atomic) (s : ℕ → ℤ) → ◌≡◌ {A = Verdict} (Bound a) (Bound b) → meets b (s b.var) ≡ true → meets a (s a.var) ≡ true
met_by a b s e m = subst (λ (c : Atomic). meets c (s c.var) ≡ true) (sym (bound_same a b e)) m

ordered : (v w x y : ℤ) → v ≡ x → w ≡ y → int_le x y ≡ true → v ≤ℤ w
ordered v w x y e f m = subst (λ z. z ≤ℤ w) (sym e) (subst (λ z. x ≤ℤ z) (sym f) (le-from_test x y m))

-- where an assignment meets the bound at the best numbers, its objective is no better
as_good : (items : List Item) (g : ModelGoal) (numbers : List ℤ) (bound : Atomic) (s : ℕ → ℤ) (v w : ℤ) → IsGoal items g → best_claim (goal_in items g) numbers ≡ Bound bound → meets bound (s bound.var) ≡ true
    → goal_value items (valuation numbers) g ≡ Some v → goal_value items s g ≡ Some w → IsAsGood g v w
as_good items Satisfy numbers bound s v w h e m f g = tt
as_good items (Minimize place) numbers bound s v w h e m f g =
    let t : Term = term_of items (basic.Item place) in
    let x : ℕ = variable_in t in
    ordered v w (valuation numbers x) (s x) (value_at (valuation numbers) (count_variables items) t v h f) (value_at s (count_variables items) t w h g)
    (met_by (at_least x (valuation numbers x)) bound s e m)
as_good items (Maximize place) numbers bound s v w h e m f g =
    let t : Term = term_of items (basic.Item place) in
    let x : ℕ = variable_in t in
    ordered w v (s x) (valuation numbers x) (value_at s (count_variables items) t w h g) (value_at (valuation numbers) (count_variables items) t v h f)
    (met_by (at_most x (valuation numbers x)) bound s e m)

-- ---- the outcome

-- what the outcome of a model's problem says is so of the model
pub truth_of : (m : Plan) (p : Csp) (most : ℕ) (nogoods : List (List Atomic)) (claim : Option Verdict) (outcome : Outcome) → IsModel m → IsProblem p → p ≡ problem_of m
    → ((s : ℕ → ℤ) → Satisfies m s ↔ IsSolution s p) → AreLearned (posed p) nogoods → IsOutcome p most nogoods claim outcome → IsTruth m outcome
truth_of m p most nogoods claim (Solution numbers) model kept is same learned o = (same (valuation numbers)).1 o.solution.solves
truth_of m p most nogoods claim Unsat model kept is same learned o =
    λ s sat. concluded-none (posed p) nogoods s (soundly_posed p kept) learned o.follows (solution_solves p s ((same s).0 sat))
truth_of m p most nogoods claim (Optimal numbers bound) model kept is same learned o = record {
  satisfies = (same (valuation numbers)).1 o.solution.solves;
  best = λ s v w sat f g.
      as_good m.items m.goal numbers bound s v w (well_formed m model).goal (subst (λ (q : Csp). best_claim q.goal numbers ≡ Bound bound) is o.bound)
      (concluded-bound (posed p) nogoods s bound (soundly_posed p kept) learned o.follows (solution_solves p s ((same s).0 sat))) f g;
}
truth_of m p most nogoods claim (Unknown None) model kept is same learned o = tt
truth_of m p most nogoods claim (Unknown (Some numbers)) model kept is same learned o = (same (valuation numbers)).1 o.solution.solves
