-- What a run promises, in five records: what it answers, what is true of that, what it touches, its faults, and what a fault leaves.
use Rattle.std.specs.Prelude.{◌≡◌, ◌≢◌, ◌⊎◌, ℕ, ◌<◌, ◌≤◌, Option, Some, None, List}
use Rattle.dp_desk.specs.Causes.{Rose}
use Rattle.dp_desk.specs.Channel.{Channel, Files, Grows, IsAtEnd}
use Rattle.dp_desk.specs.Sight.{Sight}
use Rattle.dp_command.specs.Due.{ChangesOutputs, Said, SaidPart}
use Rattle.dp_command.specs.Families.{FilesFamily}
use Rattle.dp_command.specs.Patience.{WasPatient}
use Rattle.dp_command.specs.Proved.{FilesProof, SaysTruth}
use Rattle.dp_command.specs.Proven.{PassesLimit, SaysProof}
use Rattle.dp_command.specs.Solving.{IsReplied, IsSolved, SolvesModel, SolvesModelPart}
use Rattle.dp_command.specs.Texts.{read_fault}
use Rattle.dp_command.specs.Words.{Request, Check, Show, Process, Solve, Prove, Gen, IsAsked, IsCheck, IsGen, IsProcess, IsProve, IsSolve}

-- ---- what is answered

-- The status, the files and the answer are those of the reply that belongs to the words and the inputs, or those of the model that was
-- solved; at a read fault its text is the answer, and for want of memory there is none.
pub record Answers (names : Option Files) (words : List (List ℕ)) (status : ℕ) (was now : Sight) : Type 0 where
  pub replied : IsReplied words status → Said names words status was now
  pub solved : IsSolved words status → SolvesModel names words status was now
  pub fault : status ≡ 5 → Grows was.answer now.answer read_fault
  pub nothing : status ≡ 7 → now.answer ≡ was.answer
  pub known : status ≤ 7

-- ---- what is true of it

-- What a check and a proof write is true of the model, in the meaning of its constraints; what stands in the file of a processed
-- scaffold is its processed log, and in the files of a family its model and its scaffold; and a proof is refused exactly where its
-- scaffold or its log passes a limit, which is then told. That the outcome of a solve is true of the model is a field of `SolvesModel`, above.
pub record AreTrue (names : Option Files) (words : List (List ℕ)) (status : ℕ) (was now : Sight) : Type 0 where
  pub check : IsCheck words → status ≡ 0 → SaysTruth names words was.answer now.answer
  pub process : IsProcess words → status ≡ 0 → FilesProof names words now.first
  pub prove : IsProve words → (status ≡ 0) ⊎ (status ≡ 4) → SaysProof names words status was.answer now.answer
  pub gen : IsGen words → status ≡ 0 → FilesFamily words was now
  pub limits : IsProve words → status ≡ 1 → PassesLimit names words was.answer now.answer

-- ---- what is touched

-- an input that comes first: at status 0 it was read to its end
abbrev pub IsRead : ℕ → Channel → Type 0
IsRead status now = status ≡ 0 → IsAtEnd now

-- an input that comes behind the model: also, where the model is refused, it was not opened
abbrev pub IsReadBehind : ℕ → Channel → Channel → Type 0
IsReadBehind status was now = IsRead status now × (status ≡ 3 → now ≡ was)

-- an output that is not written
abbrev pub IsKept : Channel → Channel → Type 0
IsKept was now = now ≡ was

-- an output that is written whole at status 0, and in part at status 6
abbrev pub IsWritten : ℕ → Channel → Channel → Type 0
IsWritten status was now = status ≢ 0 → status ≢ 6 → now ≡ was

-- an output that is written while its text is made: also in part for want of memory, and at status 4
abbrev pub IsWrittenOn : ℕ → Channel → Channel → Type 0
IsWrittenOn status was now = status ≢ 0 → status ≢ 4 → status ≢ 6 → status ≢ 7 → now ≡ was

-- the table: what becomes of the model, of the log or scaffold, and of the two files, by the command, if the words are one, and the
-- status
abbrev pub Uses : Option Request → ℕ → Sight → Sight → Type 0
Uses None status was now = IsKept was.model now.model × IsKept was.log now.log × IsKept was.first now.first × IsKept was.second now.second
Uses (Some (Check model log)) status was now =
    IsRead status now.model × IsReadBehind status was.log now.log × IsKept was.first now.first × IsKept was.second now.second
Uses (Some (Show log)) status was now =
    IsKept was.model now.model × IsReadBehind status was.log now.log × IsKept was.first now.first × IsKept was.second now.second
Uses (Some (Process model scaffold out workers)) status was now =
    IsRead status now.model × IsReadBehind status was.log now.log × IsWritten status was.first now.first × IsKept was.second now.second
Uses (Some (Solve model out most)) status was now =
    IsRead status now.model × IsKept was.log now.log × IsWrittenOn status was.first now.first × IsKept was.second now.second
Uses (Some (Prove model workers most)) status was now =
    IsRead status now.model × IsKept was.log now.log × IsKept was.first now.first × IsKept was.second now.second
Uses (Some (Gen n model scaffold)) status was now =
    IsKept was.model now.model × IsKept was.log now.log × IsWritten status was.first now.first × IsWritten status was.second now.second

-- The words are this command, or none, which has status 2 unless a fault comes; the inputs and the files are used as the table says,
-- and all but these and the answer is as it was.
pub record Touches (words : List (List ℕ)) (status : ℕ) (was now : Sight) : Type 0 where
  pub command : Option Request
  pub asked : IsAsked command words
  pub uses : Uses command status was now
  pub refused : status ≡ 2 → command ≡ None
  pub good : status ≡ 0 → command ≢ None
  pub rest : ChangesOutputs was now

-- ---- faults

-- Status 5 comes only where opening or reading an input failed, and none of the lines that were read whole is refused; status 6 only
-- where opening or writing an output failed. A count of faults never falls, and one that rose is not hidden.
pub record CountsFaults (names : Option Files) (words : List (List ℕ)) (status in_was in_now out_was out_now : ℕ) (was now : Sight) : Type 0 where
  pub read : status ≡ 5 → Rose in_was in_now
  pub patient : status ≡ 5 → WasPatient names words was.log now.log
  pub write : status ≡ 6 → Rose out_was out_now
  pub in_seen : in_was < in_now → 5 ≤ status
  pub out_seen : out_was < out_now → (status ≡ 6) ⊎ ((status ≡ 7) × IsSolve words)
  pub in_counted : in_was ≤ in_now
  pub out_counted : out_was ≤ out_now

-- ---- what a fault leaves

-- After a failed write fronts of the files and of the text that are due stand there, the text of a read fault only where one came. For
-- want of memory the file of a solve was not opened, or a front of its scaffold stands there.
pub record LeavesFronts (names : Option Files) (words : List (List ℕ)) (status : ℕ) (fault : Type 0) (was now : Sight) : Type 0 where
  pub written : status ≡ 6 → SaidPart names words fault was now ⊎ SolvesModelPart names words was now
  pub left : status ≡ 7 → IsSolve words → (now.first ≡ was.first) ⊎ SolvesModelPart names words was now
