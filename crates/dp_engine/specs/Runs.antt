-- Runs: turn after turn, until a clash, or until no part has a turn, or at once where the state is dead.
use Rattle.std.specs.Prelude.{◌≡◌, ℕ, zero, suc, Bool, true, false, List, [], ◌∷◌, Option, Some, None, if◌then◌else◌}
use Rattle.dp_domain.specs.Atoms.{Atomic}
use Rattle.dp_domain.specs.States.{Domains, IsWithin, cut, cut_all, is_dead, total}
use Rattle.dp_domain.specs.declared.found.Found.{Found}
use Rattle.dp_domain.specs.declared.found.Found.TheVariants.{Clash as Clashes, Atom as Gives}
use Rattle.dp_parts.specs.Posed.{Posed}
use Rattle.dp_engine.specs.declared.turn.Turn.{Turn}
use Rattle.dp_engine.specs.declared.turn.Turn.TheVariants.{Atom, Clash, Quiet, Empty}
use Rattle.dp_engine.specs.Placed.{Placed, turn_order}
use Rattle.dp_engine.specs.Turns.{Taken, after, first, turn_at}

-- what is taken after an atom; a clash is the last
abbrev pub taken_after : Domains → Found → (Domains → List Taken) → List Taken
taken_after d Clashes more = []
taken_after d (Gives a) more = more (cut d a)

-- a turn, where there is one, and what is taken after it
abbrev pub taken_from : Option Taken → (Domains → List Taken) → List Taken
taken_from None more = []
taken_from (Some t) more = t ∷ taken_after t.before t.found more

-- the turns that are taken from the state on, at most so many
abbrev pub turns : ℕ → List Placed → Domains → List Taken
turns zero parts d = []
turns (suc n) parts d = if is_dead d then [] else taken_from (first parts d) (turns n parts)

-- the turns of the run from the state: each atom takes out a value, so there are no more of them than values
unfoldable pub run : List Placed → Domains → List Taken
run parts d = turns (suc (total d)) parts d

-- the state after the turns
abbrev pub state_after : Domains → List Taken → Domains
state_after d [] = d
state_after d (t ∷ ts) = state_after (after t.before t.found) ts

-- the turn at the end of the run: a clash, Quiet or Empty
abbrev pub run_end : List Placed → Domains → Turn
run_end parts d = turn_at parts (state_after d (run parts d))

-- a run ends in a clash, Quiet or Empty
abbrev pub IsEnd : Turn → Type 0
IsEnd (Atom id a) = ⊥
IsEnd (Clash id) = Unit {0}
IsEnd Quiet = Unit {0}
IsEnd Empty = Unit {0}

-- a run fails where it ends in a clash or Empty
abbrev pub is_failure : Turn → Bool
is_failure (Atom id a) = false
is_failure (Clash id) = true
is_failure Quiet = false
is_failure Empty = true

-- whether the run from the state fails
abbrev pub fails : List Placed → Domains → Bool
fails parts d = is_failure (run_end parts d)

-- whether a nogood follows from those before it: its run, which starts at the initial domains with its atoms, fails
abbrev pub follows : Posed → List (List Atomic) → List Atomic → Bool
follows p before nogood = fails (turn_order p before) (cut_all p.initial nogood)

-- ---- the same as a relation, of any length

-- what the next turns are: none after a clash, and after an atom those from the state that it cuts
abbrev pub IsRun : List Placed → Domains → List Taken → Type 0
IsRun parts d [] = is_dead d ≡ false → first parts d ≡ None
IsRun parts d (t ∷ ts) = (is_dead d ≡ false) × (first parts d ≡ Some t) × (t.found ≡ Clashes → ts ≡ []) × ((a : Atomic) → t.found ≡ Gives a → IsRun parts (cut d a) ts)

-- a turn that is taken in a run from the state: it stands first at its own state, which is not dead and within the run's first
pub record IsTakenIn (parts : List Placed) (start : Domains) (t : Taken) : Type 0 where
  pub within : IsWithin t.before start
  pub alive : is_dead t.before ≡ false
  pub first : first parts t.before ≡ Some t
