-- What is read of an input.
use Rattle.std.specs.Prelude.{◌≡◌, ℕ, ◌≤◌, List, length, take, Option, Some, None, Result, OnOk, IsErrOf}
use Rattle.dp_desk.specs.Channel.{Files}
use Rattle.dp_desk.specs.Causes.{Rose}
use Rattle.dp_command.specs.declared.trouble.Trouble.{Trouble}
use Rattle.dp_command.specs.declared.trouble.Trouble.TheVariants.{ReadFault}

-- these are the first bytes of what the name holds, as many as the bound allows
pub record IsFront (bound : ℕ) (held : Option (List ℕ)) (bytes : List ℕ) : Type 0 where
  pub whole : List ℕ
  pub holds : held ≡ Some whole
  pub front : bytes ≡ take bound whole

-- the bytes that are read of the input of this name: its first, where names are told
abbrev pub IsRead : ℕ → Option Files → List ℕ → List ℕ → Type 0
IsRead bound None name bytes = length bytes ≤ bound
IsRead bound (Some files) name bytes = IsFront bound (files name) bytes

-- the count of faults never falls, has risen where a read fault is answered, and stays where all went well
pub record HasReadCause {T : Type 0} (before now : ℕ) (result : Result T Trouble) : Type 0 where
  pub later : before ≤ now
  pub failed : IsErrOf result ReadFault → Rose before now
  pub kept : OnOk result (now ≡ before)
