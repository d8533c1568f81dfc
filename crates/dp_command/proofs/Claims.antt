-- What is right of a model's problem is true of the model.
use Rattle.std.specs.Prelude.{◌≡◌, ℕ, ◌==◌, Bool, true, false, ◌&&◌, ◌↔◌, Some, List, ℤ}
use Rattle.std.proofs.Common.{refl, sym, ◌∙◌, ap, subst, arith}
use Rattle.std.proofs.lemmas.Bool.{false≢true}
use Rattle.std.proofs.lemmas.Bool.Decides.{nat_tests}
use Rattle.dp_domain.specs.Atoms.{Atomic, compares}
use Rattle.dp_domain.specs.Terms.{term_at}
use Rattle.dp_domain.specs.declared.atom.Op.{Op}
use Rattle.dp_domain.specs.declared.atom.Op.TheVariants.{Ge, Le, Eq, Ne}
use Rattle.dp_domain.specs.declared.term.Term.{Term}
use Rattle.dp_domain.specs.declared.term.Term.TheVariants.{Var, Const}
use Rattle.dp_domain.specs.declared.verdict.Verdict.{Verdict}
use Rattle.dp_domain.specs.declared.verdict.Verdict.TheVariants.{Unsat, Bound}
use Rattle.dp_checker.specs.Judged.{is_at_least, is_at_most, is_bound}
use Rattle.dp_checker.specs.Kept.{IsRight}
use Rattle.dp_judge.specs.Logs.{IsOfGoal}
use Rattle.dp_lower.specs.Problem.{goal_in, problem_of, variable_in}
use Rattle.dp_parts.specs.Problems.{Csp, IsProblem, IsSolution}
use Rattle.fz_facts.specs.Facts.{IsGoal, IsVariable}
use Rattle.fz_facts.proofs.WellFormed.{well_formed}
use Rattle.fz_model.specs.Models.{IsModel, Plan, count_variables}
use Rattle.fz_model.specs.declared.model.Basic.TheVariants as basic
use Rattle.fz_model.specs.declared.model.Item.{Item}
use Rattle.fz_model.specs.declared.model.ModelGoal.{ModelGoal}
use Rattle.fz_model.specs.declared.model.ModelGoal.TheVariants.{Satisfy, Minimize, Maximize}
use Rattle.fz_sat.specs.Args.{term_of}
use Rattle.fz_sat.specs.Satisfies.{Satisfies, goal_value}
use Rattle.dp_command.specs.Found.{IsProblemOf}
use Rattle.dp_command.specs.Truths.{IsSideOf, IsTrueOf}
use Rattle.dp_command.specs.Named.{claim_of}

least_op : (op : Op) → is_at_least op ≡ true → op ≡ Ge
least_op Ge e = refl
least_op Le e = absurd (false≢true e)
least_op Eq e = absurd (false≢true e)
least_op Ne e = absurd (false≢true e)

most_op : (op : Op) → is_at_most op ≡ true → op ≡ Le
most_op Ge e = absurd (false≢true e)
most_op Le e = refl
most_op Eq e = absurd (false≢true e)
most_op Ne e = absurd (false≢true e)

both : (a b : Bool) → (a && b) ≡ true → (a ≡ true) × (b ≡ true)
both true true e = (refl, refl)
both true false e = absurd (false≢true e)
both false b e = absurd (false≢true e)

-- a bound of the goal is on its side
side_of : (items : List Item) (g : ModelGoal) (a : Atomic) → is_bound (goal_in items g) a ≡ true → IsSideOf g a.op
side_of items Satisfy a e = absurd (false≢true e)
side_of items (Minimize place) a e = least_op a.op (both _ _ e).1
side_of items (Maximize place) a e = most_op a.op (both _ _ e).1

same_number : (x y : ℕ) → (x == y) ≡ true → x ≡ y
same_number x y e = grind (arith, nat_tests, e)

value_at : (s : ℕ → ℤ) (n : ℕ) (t : Term) (y : ℕ) (v : ℤ) → IsVariable n t → y ≡ variable_in t → Some (term_at s t) ≡ Some v → v ≡ s y
value_at s n (Var x) y v h f g = some_at v (s y) (sym g ∙ ap (λ z. Some (s z)) (sym f))
  where
    some_at : (v w : ℤ) → Some v ≡ Some w → v ≡ w
    some_at v w h = cc
value_at s n (Const w) y v h f g = absurd h

-- and its variable's value is the objective
value_of_goal : (items : List Item) (g : ModelGoal) (a : Atomic) (s : ℕ → ℤ) (v : ℤ) → IsGoal items g → is_bound (goal_in items g) a ≡ true → goal_value items s g ≡ Some v → v ≡ s a.var
value_of_goal items Satisfy a s v h e f = absurd (false≢true e)
value_of_goal items (Minimize place) a s v h e f =
    value_at s (count_variables items) (term_of items (basic.Item place)) a.var v h (same_number a.var (variable_in (term_of items (basic.Item place))) (both _ _ e).0) f
value_of_goal items (Maximize place) a s v h e f =
    value_at s (count_variables items) (term_of items (basic.Item place)) a.var v h (same_number a.var (variable_in (term_of items (basic.Item place))) (both _ _ e).0) f

-- a right conclusion is true of the model
true_claim : (m : Plan) → IsGoal m.items m.goal → ((s : ℕ → ℤ) → Satisfies m s ↔ IsSolution s (problem_of m)) → (v : Verdict) →
    IsRight (problem_of m) v → IsOfGoal (problem_of m) v → IsTrueOf m (claim_of (problem_of m) v)
true_claim m h same Unsat right goal = λ s sat. right s ((same s).0 sat)
true_claim m h same (Bound a) right goal = record {
  side = side_of m.items m.goal a goal.0;
  none = λ s v sat objective.
      subst (λ w. compares a.op w a.value ≡ true) (sym (value_of_goal m.items m.goal a s v h goal.0 objective)) (right s ((same s).0 sat));
}

-- so it is of the problem that the lowering gives
pub problem_is : (m : Plan) (p : Csp) → IsModel m → IsProblem p → p ≡ problem_of m → ((s : ℕ → ℤ) → Satisfies m s ↔ IsSolution s p) → IsProblemOf m p
problem_is m p model sound posed same = record {
  posed = posed;
  sound = sound;
  same = same;
  true_of =
      subst (λ (q : Csp). ((s : ℕ → ℤ) → Satisfies m s ↔ IsSolution s q) → (v : Verdict) → IsRight q v → IsOfGoal q v → IsTrueOf m (claim_of q v)) (sym posed)
      (true_claim m (well_formed m model).goal) same;
}
