-- One turn: the first part that has one gives an atom, or clashes.
use Rattle.std.specs.Prelude.{◌≡◌, true, false, List, [], ◌∷◌, ◌++◌, Option, Some, None, option_map, if◌then◌else◌}
use Rattle.dp_base.specs.Lists.{Each}
use Rattle.dp_domain.specs.Atoms.{Atomic}
use Rattle.dp_domain.specs.States.{Domains, cut, is_dead}
use Rattle.dp_domain.specs.Turns.{IsTurn, or_else, turn_of}
use Rattle.dp_domain.specs.declared.found.Found.{Found}
use Rattle.dp_domain.specs.declared.found.Found.TheVariants.{Clash as Clashes, Atom as Gives}
use Rattle.dp_engine.specs.declared.part_id.PartId.{PartId}
use Rattle.dp_engine.specs.declared.turn.Turn.{Turn}
use Rattle.dp_engine.specs.declared.turn.Turn.TheVariants.{Atom, Clash, Quiet, Empty}
use Rattle.dp_engine.specs.Placed.{Placed}

-- a turn that is taken: the state before it, the part that gives it, and what it gives
pub record Taken : Type 0 where
  pub before : Domains
  pub part : Placed
  pub found : Found

-- the turn of the first part that has one at the state
abbrev pub first : List Placed → Domains → Option Taken
first [] d = None
first (q ∷ qs) d = or_else (option_map (λ f. record { before = d; part = q; found = f }) (turn_of q.face d)) (first qs d)

-- what a part gives, told with the part's place
abbrev pub told : PartId → Found → Turn
told id Clashes = Clash id
told id (Gives a) = Atom id a

-- a turn that is taken, told
abbrev pub told_by : Taken → Turn
told_by t = told t.part.id t.found

-- the turn told; quiet where there is none
abbrev pub told_or_quiet : Option Taken → Turn
told_or_quiet None = Quiet
told_or_quiet (Some t) = told_by t

-- the turn at a state: Empty where it is dead, else that of the first part that has one, else Quiet
abbrev pub turn_at : List Placed → Domains → Turn
turn_at parts d = if is_dead d then Empty else told_or_quiet (first parts d)

-- the state after what a part gives
abbrev pub after : Domains → Found → Domains
after d Clashes = d
after d (Gives a) = cut d a

-- the state after a turn: an atom cuts it, and nothing else changes it
abbrev pub applied : Domains → Turn → Domains
applied d (Atom id a) = cut d a
applied d (Clash id) = d
applied d Quiet = d
applied d Empty = d

-- the atoms that a turn gives: one, or none
abbrev pub atoms_of : Turn → List Atomic
atoms_of (Atom id a) = a ∷ []
atoms_of (Clash id) = []
atoms_of Quiet = []
atoms_of Empty = []

-- ---- the same in words of all integers

-- a part at the place gives this at a state that is not dead, and no part before it gives anything
pub record IsGiven (parts : List Placed) (d : Domains) (id : PartId) (f : Found) : Type 0 where
  pub alive : is_dead d ≡ false
  pub earlier : List Placed
  pub part : Placed
  pub later : List Placed
  pub order : parts ≡ earlier ++ part ∷ later
  pub place : part.id ≡ id
  pub none : Each (λ q. IsTurn q.face d None) earlier
  pub turn : IsTurn part.face d (Some f)

-- Empty where the state is dead; else what the first part gives that gives anything; else Quiet
abbrev pub IsTurnAt : List Placed → Domains → Turn → Type 0
IsTurnAt parts d (Atom id a) = IsGiven parts d id (Gives a)
IsTurnAt parts d (Clash id) = IsGiven parts d id Clashes
IsTurnAt parts d Quiet = (is_dead d ≡ false) × Each (λ q. IsTurn q.face d None) parts
IsTurnAt parts d Empty = is_dead d ≡ true
