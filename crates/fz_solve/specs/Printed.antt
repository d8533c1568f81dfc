-- What is printed of an outcome.
use Rattle.std.specs.Prelude.{ℕ, List, [], ◌∷◌, ◌++◌, codes, Some, None}
use Rattle.dp_solver.specs.declared.outcome.Outcome.{Outcome}
use Rattle.dp_solver.specs.declared.outcome.Outcome.TheVariants.{Solution, Unsat, Optimal, Unknown}
use Rattle.fz_model.specs.Models.{Plan}
use Rattle.fz_output.specs.Output.{solution_lines}
use Rattle.fz_sat.specs.Satisfies.{valuation}

-- the line that ends a solution
abbrev pub solution_end : List ℕ
solution_end = codes "----------" ++ 10 ∷ []

-- the line that says that no other solution beats it
abbrev pub optimal_end : List ℕ
optimal_end = codes "==========" ++ 10 ∷ []

-- the line that says that there is no solution
abbrev pub unsatisfiable : List ℕ
unsatisfiable = codes "=====UNSATISFIABLE=====" ++ 10 ∷ []

-- the line that says that nothing is known
abbrev pub unknown : List ℕ
unknown = codes "=====UNKNOWN=====" ++ 10 ∷ []

-- the text of an outcome of the model, as MiniZinc's solvers print it
abbrev pub outcome_text : Plan → Outcome → List ℕ
outcome_text m (Solution numbers) = solution_lines m (valuation numbers) ++ solution_end
outcome_text m Unsat = unsatisfiable
outcome_text m (Optimal numbers bound) = solution_lines m (valuation numbers) ++ solution_end ++ optimal_end
outcome_text m (Unknown (Some numbers)) = solution_lines m (valuation numbers) ++ solution_end
outcome_text m (Unknown None) = unknown

-- the status of an outcome: 4 where the most nogoods were learned
abbrev pub outcome_status : Outcome → ℕ
outcome_status (Solution numbers) = 0
outcome_status Unsat = 0
outcome_status (Optimal numbers bound) = 0
outcome_status (Unknown best) = 4
