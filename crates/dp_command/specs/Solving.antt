-- What is left where a model is solved.
use Rattle.std.specs.Prelude.{◌≡◌, ◌≢◌, ◌⊎◌, ℕ, ◌≤◌, ◌^◌, List, Option}
use Rattle.dp_desk.specs.Channel.{Files, IsAtEnd}
use Rattle.dp_desk.specs.Sight.{Sight}
use Rattle.dp_learning.specs.Sorts.{sort_count}
use Rattle.dp_lower.specs.Problem.{problem_of}
use Rattle.dp_solver.specs.Outcomes.{IsDecided}
use Rattle.fz_model.specs.Models.{Plan}
use Rattle.fz_solve.specs.Solved.{Solved, SolvesFront}
use Rattle.dp_command.specs.Replies.{IsGiven}
use Rattle.dp_command.specs.Words.{Solve, Spells, IsSolve}

-- ---- statuses

-- the status of a reply: up to 4, but 0 and 4 of a solve are none
abbrev pub IsReplied : List (List ℕ) → ℕ → Type 0
IsReplied words status = (status ≤ 4) × (IsSolve words → (status ≢ 0) × (status ≢ 4))

-- the status of a model that was solved
abbrev pub IsSolved : List (List ℕ) → ℕ → Type 0
IsSolved words status = IsSolve words × ((status ≡ 0) ⊎ (status ≡ 4))

-- ---- a model

-- The words ask to solve a model with at most so many nogoods, and it was read to its end and solved: the scaffold stands in
-- the file, the text of the outcome, which is true of the model, was written as the answer, and the status is the outcome's. With room
-- for as many nogoods as there are sets of sorts of atoms the outcome is known.
pub record SolvesModel (names : Option Files) (words : List (List ℕ)) (status : ℕ) (was now : Sight) : Type 0 where
  pub model : List ℕ
  pub out : List ℕ
  pub most : ℕ
  pub asked : Spells (Solve model out most) words
  pub m : Plan
  pub given : IsGiven names model m
  pub ended : IsAtEnd now.model
  pub solved : Solved m (problem_of m) most status was now
  pub decided : 2 ^ sort_count (problem_of m).initial ≤ most → IsDecided solved.outcome

-- the words ask to solve a model, it was read, and fronts of its scaffold and of the text of its outcome stand there
pub record SolvesModelPart (names : Option Files) (words : List (List ℕ)) (was now : Sight) : Type 0 where
  pub model : List ℕ
  pub out : List ℕ
  pub most : ℕ
  pub asked : Spells (Solve model out most) words
  pub m : Plan
  pub given : IsGiven names model m
  pub front : SolvesFront m (problem_of m) most was now
