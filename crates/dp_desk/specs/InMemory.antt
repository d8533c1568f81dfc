-- A desk in memory whose calls fail where they are listed: what it tells, and what a call makes of it.
use Rattle.std.specs.Prelude.{ℕ, ◌+◌, ◌-◌, ◌^◌, min, Bool, List, ◌==◌}
use Rattle.std.specs.List.{list_any}
use Rattle.dp_desk.specs.Sight.{Sight}
use Rattle.dp_desk.specs.Stored.{Stored, held, sight_of, unopened}

-- what it holds; how many bytes a call moves at most; the numbers of the calls that fail; the calls so far; the faults
-- so far
pub record InMemory : Type 0 where
  pub stored : Stored
  pub piece : ℕ
  pub failing : List ℕ
  pub calls : ℕ
  pub faults_in : ℕ
  pub faults_out : ℕ

-- what it tells
abbrev pub told : InMemory → Sight
told desk = sight_of held desk.stored

-- a count with one more, which stops at its last value
abbrev pub raised : ℕ → ℕ
raised count = min (count + 1) (2 ^ 64 - 1)

-- whether its next call is listed to fail
abbrev pub fails_next : InMemory → Bool
fails_next desk = list_any (λ number. number == raised desk.calls) desk.failing

-- the desk after one more call, which left this
abbrev pub counted : Stored → InMemory → InMemory
counted left desk = record desk { stored = left; calls = raised desk.calls }

-- the desk after a call on an input that failed
abbrev pub failed_in : InMemory → InMemory
failed_in desk = record desk { calls = raised desk.calls; faults_in = raised desk.faults_in }

-- the desk after a call on an output that failed
abbrev pub failed_out : InMemory → InMemory
failed_out desk = record desk { calls = raised desk.calls; faults_out = raised desk.faults_out }

-- a new desk: nothing was opened, and the answer is empty
abbrev pub fresh : List (List ℕ × List ℕ) → ℕ → List ℕ → InMemory
fresh files piece failing = record {
  stored = unopened files;
  piece = piece;
  failing = failing;
  calls = 0;
  faults_in = 0;
  faults_out = 0;
}
