-- What a desk tells of one input or output, and what a call does to it.
use Rattle.std.specs.Prelude.{◌≡◌, ℕ, List, [], ◌++◌, Option, Some, None}

-- not opened; opened and not told; opened, with the bytes left of an input or written of an output
pub data Channel : Type 0 where
  Shut : Channel
  Hidden : Channel
  Shown : List ℕ → Channel

-- the bytes that each name holds, for the names that there are
abbrev pub Files : Type 0
Files = List ℕ → Option (List ℕ)

-- it was opened
abbrev pub IsOpen : Channel → Type 0
IsOpen Shut = ⊥
IsOpen Hidden = Unit {0}
IsOpen (Shown bytes) = Unit {0}

-- it is told, if it was opened
abbrev pub IsNotHidden : Channel → Type 0
IsNotHidden Hidden = ⊥
IsNotHidden _ = Unit {0}

-- it is told as these bytes, which there are
abbrev pub Shows : Option (List ℕ) → Channel → Type 0
Shows None now = ⊥
Shows (Some bytes) now = now ≡ Shown bytes

-- an input was opened by this name: what the name holds is left, where names are told
abbrev pub Opens : Option Files → List ℕ → Channel → Type 0
Opens None name now = IsOpen now
Opens (Some files) name now = Shows (files name) now

-- an output was opened: nothing is written yet
abbrev pub Starts : Channel → Type 0
Starts Shut = ⊥
Starts Hidden = Unit {0}
Starts (Shown bytes) = bytes ≡ []

-- a read took these bytes, the first of those that were left
abbrev pub Takes : Channel → Channel → List ℕ → Type 0
Takes Hidden Hidden bytes = Unit {0}
Takes (Shown left) (Shown rest) bytes = left ≡ bytes ++ rest
Takes _ _ bytes = ⊥

-- no byte is left that is told
abbrev pub IsAtEnd : Channel → Type 0
IsAtEnd (Shown left) = left ≡ []
IsAtEnd _ = Unit {0}

-- a write appended these bytes: what is told after it was told before it
abbrev pub Grows : Channel → Channel → List ℕ → Type 0
Grows Hidden Hidden bytes = Unit {0}
Grows (Shown was) Hidden bytes = Unit {0}
Grows (Shown was) (Shown now) bytes = now ≡ was ++ bytes
Grows _ _ bytes = ⊥

-- its bytes are not told
abbrev pub IsUntold : Channel → Type 0
IsUntold (Shown bytes) = ⊥
IsUntold _ = Unit {0}

-- writes appended a front of these bytes
pub record GrowsByPart (was now : Channel) (bytes : List ℕ) : Type 0 where
  pub front : List ℕ
  pub rest : List ℕ
  pub whole : bytes ≡ front ++ rest
  pub grows : Grows was now front
