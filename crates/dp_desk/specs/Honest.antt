-- A desk in memory that never fails: what it tells, and what a call makes of it.
use Rattle.std.specs.Prelude.{ℕ, ◌+◌, List, [], ◌++◌, length, Option, Some, None, unwrap_or, nat_le, if◌then◌else◌}
use Rattle.std.specs.List.{fold}
use Rattle.dp_desk.specs.Channel.{Files}
use Rattle.dp_desk.specs.Sight.{Sight}
use Rattle.dp_desk.specs.Stored.{Stored, held, sight_of, unopened}

-- what it holds; how many bytes of an output are told at most
pub record Honest : Type 0 where
  pub stored : Stored
  pub room : ℕ

-- the bytes that a name holds: none, where no file has it
abbrev pub bytes_of : List (List ℕ × List ℕ) → List ℕ → List ℕ
bytes_of files name = unwrap_or (held files name) []

-- every name is held
abbrev pub every_name : List (List ℕ × List ℕ) → Files
every_name files name = Some (bytes_of files name)

-- what it tells
abbrev pub honest_sight : Honest → Sight
honest_sight desk = sight_of every_name desk.stored

-- the bytes that are told after these were written: all since it was opened, while they fit
abbrev pub told_within : ℕ → List ℕ → Option (List ℕ) → Option (List ℕ)
told_within room bytes None = None
told_within room bytes (Some was) = if nat_le (length was + length bytes) room then Some (was ++ bytes) else None

-- what is told after all of these were written in turn
abbrev pub told_after : ℕ → Option (List ℕ) → List (List ℕ) → Option (List ℕ)
told_after room told writes = fold (λ was bytes. told_within room bytes was) told writes

-- bytes that fit
abbrev pub fitting : ℕ → List ℕ → Option (List ℕ)
fitting room bytes = if nat_le (length bytes) room then Some bytes else None

-- the desk after a call that left this
abbrev pub leaving : Stored → Honest → Honest
leaving left desk = record desk { stored = left }

-- a new desk: nothing was opened, and the answer is empty
abbrev pub honest : List (List ℕ × List ℕ) → ℕ → Honest
honest files room = record { stored = unopened files; room = room }
