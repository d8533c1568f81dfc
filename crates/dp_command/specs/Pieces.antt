-- An input that is judged while it is read.
use Rattle.std.specs.Prelude.{◌≡◌, ◌⊎◌, ℕ, ◌<◌, ◌≤◌, Option, Some, None, List, length, ◌++◌}
use Rattle.dp_desk.specs.Channel.{Channel, Files, IsAtEnd, Shown, Takes}
use Rattle.dp_command.specs.Inputs.{IsRead}

-- these are the bytes that were read so far of the input of this name, where names are told
abbrev pub IsReadSoFar : Option Files → List ℕ → Channel → List ℕ → Type 0
IsReadSoFar None name now front = Unit {0}
IsReadSoFar (Some files) name now front = (left : List ℕ) × (files name ≡ Some (front ++ left)) × (now ≡ Shown left)

-- This is due for what is read of the input of this name; and it refuses a line, or all was read, unless that has as many bytes as are read at most.
pub record IsAnswered {A : Type 0} (due : List ℕ → A → Type 0) (refuses : A → Type 0) (bound : ℕ) (names : Option Files) (name : List ℕ) (now : Channel) (answer : A) : Type 0 where
  pub text : List ℕ
  pub read : IsRead bound names name text
  pub answered : due text answer
  pub ended : refuses answer ⊎ (length text < bound → IsAtEnd now)

-- the input was not opened, or none of the lines that were read whole is refused
abbrev pub IsPatient : (List ℕ → Type 0) → Option Files → List ℕ → Channel → Channel → Type 0
IsPatient passes names name was now = (now ≡ was) ⊎ ((front : List ℕ) × IsReadSoFar names name now front × passes front)

-- These bytes were taken. The answer refuses one of their lines, so it is due whatever follows; or it is due for them, and they were all, or as many as are read at most.
pub record Judges {A : Type 0} (due : List ℕ → A → Type 0) (refuses : A → Type 0) (bound : ℕ) (was now : Channel) (answer : A) : Type 0 where
  pub bytes : List ℕ
  pub took : Takes was now bytes
  pub few : length bytes ≤ bound
  pub judged : (refuses answer × ((more : List ℕ) → due (bytes ++ more) answer)) ⊎ (due bytes answer × (length bytes < bound → IsAtEnd now))

-- what is due now was due before
abbrev pub StaysDue : {A : Type 0} → (List ℕ → A → Type 0) → (List ℕ → A → Type 0) → Type 0
StaysDue {A = A} now was = (text : List ℕ) (a : A) → now text a → was text a
