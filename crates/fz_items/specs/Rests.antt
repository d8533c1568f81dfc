-- The constraints of a model and its goal, as the code reads them.
use Rattle.std.specs.Prelude.{ℕ, List, map, Vec}
use Rattle.std.specs.Global.{Global}
use Rattle.fz_model.specs.Annotations.{Annotated}
use Rattle.fz_model.specs.ModelText.{Rest, closing}
use Rattle.fz_model.specs.declared.model.Constraint.{Constraint}
use Rattle.fz_model.specs.declared.model.ModelGoal.{ModelGoal}
use Rattle.fz_model.specs.ModelText as grammar
use Rattle.fz_items.specs.Goals.{goal_in}
use Rattle.fz_items.specs.Places.{constraint_in}

-- the goal behind its annotations, with the place of its name among these
abbrev pub closing_goal : List (List ℕ) → Annotated grammar.GoalWords → ModelGoal
closing_goal names solve = goal_in names (closing solve)

-- what is kept of the constraints and the goal
abbrev pub rest_in : List (List ℕ) → Rest → List Constraint × ModelGoal
rest_in names rest = (map (constraint_in names) rest.0, closing_goal names rest.1)

abbrev pub rest_of : Vec Constraint Global × ModelGoal → List Constraint × ModelGoal
rest_of p = (p.0.items, p.1)
