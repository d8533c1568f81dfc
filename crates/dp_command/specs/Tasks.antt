-- What is left to do where the inputs were read and judged, and what a search ends with.
use Rattle.std.specs.Prelude.{◌≡◌, ◌⊎◌, ℕ, List, Option, string_bytes}
use Rattle.dp_desk.specs.Causes.{Rose}
use Rattle.dp_desk.specs.Channel.{Files}
use Rattle.dp_desk.specs.Sight.{Sight}
use Rattle.fz_solve.specs.Solved.{Solved, SolvesFront}
use Rattle.dp_command.specs.Due.{LeavesUnread}
use Rattle.dp_command.specs.Found.{IsProblemOf}
use Rattle.dp_command.specs.Replies.{IsGiven, Replies}
use Rattle.dp_command.specs.Texts.{status_of}
use Rattle.dp_command.specs.Words.{Request, Spells}
use Rattle.dp_command.specs.Words as request
use Rattle.dp_command.specs.declared.task.Search.{Search}
use Rattle.dp_command.specs.declared.task.Task.{Task}
use Rattle.dp_command.specs.declared.task.Task.TheVariants.{Say, Solve}

-- ---- what is to be done

-- the words ask to solve a model, and this is to be searched for what is read of it
pub record Searches (names : Option Files) (words : List (List ℕ)) (search : Search) : Type 0 where
  pub name : List ℕ
  pub asked : Spells (request.Solve name (string_bytes search.out) search.conflicts) words
  pub given : IsGiven names name search.model
  pub problem : IsProblemOf search.model search.problem

-- the reply or the search belongs to the words and to what is read of the inputs that they name
abbrev pub IsTask : Option Files → List (List ℕ) → Task → Type 0
IsTask names words (Say reply) = Replies names words reply
IsTask names words (Solve search) = Searches names words search

-- so it is for each spelling of what is asked for
abbrev pub IsTaskTo : Option Files → Request → Task → Type 0
IsTaskTo names request task = (words : List (List ℕ)) → Spells request words → IsTask names words task

-- the log, which a refusal of the model does not need, is as it was
abbrev pub LeavesUnreadBy : Task → Sight → Sight → Type 0
LeavesUnreadBy (Say reply) was now = LeavesUnread reply was now
LeavesUnreadBy (Solve search) was now = Unit {0}

-- behind a search, or behind a reply of status 0, this holds
abbrev pub IfGood : Task → Type 0 → Type 0
IfGood (Say reply) X = status_of reply ≡ 0 → X
IfGood (Solve search) X = X

-- ---- what becomes of a search

-- the outcome was written whole and the status is its own, or fronts were written and the status is 6 or 7
abbrev pub IsSearched : Search → ℕ → Sight → Sight → ℕ → ℕ → Type 0
IsSearched search status was now before later =
    (Solved search.model search.problem search.conflicts status was now × (later ≡ before))
    ⊎ (((status ≡ 6) × SolvesFront search.model search.problem search.conflicts was now × Rose before later)
    ⊎ ((status ≡ 7) × SolvesFront search.model search.problem search.conflicts was now × (now.answer ≡ was.answer)))
