-- The words of a command line, and the commands that they are.
use Rattle.std.specs.Prelude.{◌≡◌, ◌⊎◌, ℕ, ◌≤◌, Option, Some, None, List, [], ◌∷◌, length, codes}
use Rattle.std.specs.Str.Parse.{IsNumeral, digits_value}

-- what the words ask for
pub data Request : Type 0 where
  Check : List ℕ → List ℕ → Request
  Show : List ℕ → Request
  Process : List ℕ → List ℕ → List ℕ → ℕ → Request
  Solve : List ℕ → List ℕ → ℕ → Request
  Prove : List ℕ → ℕ → ℕ → Request
  Gen : ℕ → List ℕ → List ℕ → Request

-- ---- numbers and options

-- one to ten decimal digits, of which the first may be zeros, that spell a number from 1 to the greatest
pub record IsCount (greatest : ℕ) (digits : List ℕ) (n : ℕ) : Type 0 where
  pub numeral : IsNumeral 10 digits
  pub short : length digits ≤ 10
  pub value : digits_value 10 digits ≡ n
  pub some : 1 ≤ n
  pub few : n ≤ greatest

-- the two words of the option of this number of workers
pub record AreWorkers (word digits : List ℕ) (workers : ℕ) : Type 0 where
  pub named : word ≡ codes "--workers"
  pub count : IsCount 64 digits workers

-- the two words of the option of this most number of nogoods that may be learned
pub record AreConflicts (word digits : List ℕ) (most : ℕ) : Type 0 where
  pub named : word ≡ codes "--conflicts"
  pub count : IsCount 4000000000 digits most

-- the options of a run with workers: it has one, where none is named
abbrev pub AskWorkers : List (List ℕ) → ℕ → Type 0
AskWorkers [] workers = workers ≡ 1
AskWorkers (word ∷ digits ∷ []) workers = AreWorkers word digits workers
AskWorkers options workers = ⊥

-- the options of a search, by the most nogoods that it may learn: a million, where no number is named
abbrev pub AskConflicts : List (List ℕ) → ℕ → Type 0
AskConflicts [] most = most ≡ 1000000
AskConflicts (word ∷ digits ∷ []) most = AreConflicts word digits most
AskConflicts options most = ⊥

-- the options of a search whose log is made by workers: each at most once, in any order
abbrev pub AskBoth : List (List ℕ) → ℕ → ℕ → Type 0
AskBoth [] workers most = (workers ≡ 1) × (most ≡ 1000000)
AskBoth (word ∷ digits ∷ []) workers most = (AreWorkers word digits workers × (most ≡ 1000000)) ⊎ ((workers ≡ 1) × AreConflicts word digits most)
AskBoth (word ∷ digits ∷ other ∷ others ∷ []) workers most =
    (AreWorkers word digits workers × AreConflicts other others most) ⊎ (AreConflicts word digits most × AreWorkers other others workers)
AskBoth options workers most = ⊥

-- ---- commands

-- the words ask for this
abbrev pub Spells : Request → List (List ℕ) → Type 0
Spells (Check model log) words = words ≡ codes "check" ∷ model ∷ log ∷ []
Spells (Show log) words = words ≡ codes "show" ∷ log ∷ []
Spells (Process model scaffold out workers) words =
    (options : List (List ℕ)) × (words ≡ codes "process" ∷ model ∷ scaffold ∷ out ∷ options) × AskWorkers options workers
Spells (Solve model out most) words = (options : List (List ℕ)) × (words ≡ codes "solve" ∷ model ∷ out ∷ options) × AskConflicts options most
Spells (Prove model workers most) words = (options : List (List ℕ)) × (words ≡ codes "prove" ∷ model ∷ options) × AskBoth options workers most
Spells (Gen n model scaffold) words =
    (digits : List ℕ) × (words ≡ codes "gen" ∷ digits ∷ model ∷ scaffold ∷ []) × IsCount 5000 digits n

-- the words ask for a check
abbrev pub IsCheck : List (List ℕ) → Type 0
IsCheck words = (model : List ℕ) × (log : List ℕ) × Spells (Check model log) words

-- the words ask to show a log
abbrev pub IsShow : List (List ℕ) → Type 0
IsShow words = (log : List ℕ) × Spells (Show log) words

-- the words ask to process a scaffold
abbrev pub IsProcess : List (List ℕ) → Type 0
IsProcess words = (model : List ℕ) × (scaffold : List ℕ) × (out : List ℕ) × (workers : ℕ) × Spells (Process model scaffold out workers) words

-- the words ask to solve a model
abbrev pub IsSolve : List (List ℕ) → Type 0
IsSolve words = (model : List ℕ) × (out : List ℕ) × (most : ℕ) × Spells (Solve model out most) words

-- the words ask to prove a model
abbrev pub IsProve : List (List ℕ) → Type 0
IsProve words = (model : List ℕ) × (workers : ℕ) × (most : ℕ) × Spells (Prove model workers most) words

-- the words ask for a model and a scaffold of the family
abbrev pub IsGen : List (List ℕ) → Type 0
IsGen words = (n : ℕ) × (model : List ℕ) × (scaffold : List ℕ) × Spells (Gen n model scaffold) words

-- each number that is asked for is one at least, and not too large
abbrev pub IsInRange : Request → Type 0
IsInRange (Check model log) = Unit {0}
IsInRange (Show log) = Unit {0}
IsInRange (Process model scaffold out workers) = (1 ≤ workers) × (workers ≤ 64)
IsInRange (Solve model out most) = (1 ≤ most) × (most ≤ 4000000000)
IsInRange (Prove model workers most) = (1 ≤ workers) × (workers ≤ 64) × (1 ≤ most) × (most ≤ 4000000000)
IsInRange (Gen n model scaffold) = (1 ≤ n) × (n ≤ 5000)

-- it is a check, or shows or processes a log
abbrev pub IsJudging : Request → Type 0
IsJudging (Check model log) = Unit {0}
IsJudging (Show log) = Unit {0}
IsJudging (Process model scaffold out workers) = Unit {0}
IsJudging (Solve model out most) = ⊥
IsJudging (Prove model workers most) = ⊥
IsJudging (Gen n model scaffold) = ⊥

-- it is no proof
abbrev pub IsOther : Request → Type 0
IsOther (Check model log) = Unit {0}
IsOther (Show log) = Unit {0}
IsOther (Process model scaffold out workers) = Unit {0}
IsOther (Solve model out most) = Unit {0}
IsOther (Prove model workers most) = ⊥
IsOther (Gen n model scaffold) = Unit {0}

-- the words are no command of this kind
abbrev pub AreNone : (Request → Type 0) → List (List ℕ) → Type 0
AreNone kind words = (request : Request) → kind request → Spells request words → ⊥

-- the words are no command
abbrev pub AreNoCommand : List (List ℕ) → Type 0
AreNoCommand words = (request : Request) → Spells request words → ⊥

-- the words are this command, or none
abbrev pub IsAsked : Option Request → List (List ℕ) → Type 0
IsAsked None words = AreNoCommand words
IsAsked (Some request) words = Spells request words
