-- The goal of a model, as the code reads it.
use Rattle.std.specs.Prelude.{ℕ, List}
use Rattle.std.proofs.Common.{inl, inr}
use Rattle.fz_model.specs.ModelText as grammar
use Rattle.fz_model.specs.declared.model.ModelGoal.{ModelGoal}
use Rattle.fz_model.specs.declared.model.ModelGoal.TheVariants as goal
use Rattle.fz_items.specs.Places.{place_in}
use Rattle.fz_items.specs.declared.goal.GoalWords.{GoalWords}
use Rattle.fz_items.specs.declared.goal.GoalWords.TheVariants.{Satisfy, Minimize, Maximize}

abbrev pub goal_words : GoalWords → grammar.GoalWords
goal_words Satisfy = inl tt
goal_words (Minimize name) = inr (inl tt, name.now)
goal_words (Maximize name) = inr (inr tt, name.now)

-- with the place of the name among these
abbrev pub goal_in : List (List ℕ) → grammar.GoalWords → ModelGoal
goal_in names (inl satisfy) = goal.Satisfy
goal_in names (inr (inl minimize, name)) = goal.Minimize (place_in names name)
goal_in names (inr (inr maximize, name)) = goal.Maximize (place_in names name)
