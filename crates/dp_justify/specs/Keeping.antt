-- Which turns of a run that ended in a clash are kept, going backwards: those that take out what has to be gone later.
use Rattle.std.specs.Prelude.{Bool, true, false, not, ◌&&◌, ◌||◌, Option, Some, None, if◌then◌else◌, List, [], ◌∷◌}
use Rattle.std.specs.List.{list_any}
use Rattle.dp_domain.specs.Atoms.{Atomic, meets}
use Rattle.dp_domain.specs.States.{Domains, values}
use Rattle.dp_domain.specs.declared.found.Found.{Found}
use Rattle.dp_domain.specs.declared.found.Found.TheVariants.{Clash, Atom}
use Rattle.dp_engine.specs.Turns.{Taken}
use Rattle.dp_justify.specs.Pairs.{Pairs, excluded, excludes}

-- a turn with the premises from which it is to follow
pub record Explained : Type 0 where
  pub turn : Taken
  pub premises : List Atomic

-- the atom that a turn gives; none at a clash
abbrev pub target_of : Found → Option Atomic
target_of Clash = None
target_of (Atom a) = Some a

-- whether the atom excludes one of the pairs that is still in the state
abbrev pub takes_one : Pairs → Domains → Atomic → Bool
takes_one pairs d a = list_any (λ v. pairs a.var v && not (meets a v)) (values d a.var)

-- whether a turn at the state is kept, where these pairs have to be gone after it; a clash always is
abbrev pub is_kept : Pairs → Domains → Found → Bool
is_kept later d Clash = true
is_kept later d (Atom a) = takes_one later d a

-- the pairs without those that the turn's atom excludes
abbrev pub without : Pairs → Found → Pairs
without later Clash x v = later x v
without later (Atom a) x v = later x v && not (excludes a x v)

-- the pairs that have to be gone before a kept turn: first those that its atom excludes leave, then those that its
-- premises exclude enter
abbrev pub before_kept : Domains → Pairs → Found → List Atomic → Pairs
before_kept base later f premises x v = without later f x v || excluded base premises x v

-- the pairs that have to be gone before a turn: the same as after it, where it is not kept
abbrev pub before_turn : Domains → Pairs → Explained → Pairs
before_turn base later e x v =
    if is_kept later e.turn.before e.turn.found then before_kept base later e.turn.found e.premises x v else later x v

-- the pairs of the base that have to be gone before the turns; nothing has to be gone after the last
abbrev pub left : Domains → List Explained → Pairs
left base [] x v = false
left base (e ∷ es) x v = before_turn base (left base es) e x v

-- the turns that are kept, in their order
abbrev pub kept : Domains → List Explained → List Explained
kept base [] = []
kept base (e ∷ es) = if is_kept (left base es) e.turn.before e.turn.found then e ∷ kept base es else kept base es
