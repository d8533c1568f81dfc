-- The turns of a run as the code keeps them: without the faces of parts, which are found again by their places, and without the
-- states before them, which are found again by their marks.
use Rattle.std.specs.Prelude.{◌≡◌, ℕ, ◌<◌, ◌≤◌, Option, Some, None, if◌then◌else◌, List, [], ◌∷◌, ◌++◌, get_or, length}
use Rattle.dp_base.specs.Lists.{Each}
use Rattle.dp_domain.specs.Atoms.{Atomic}
use Rattle.dp_domain.specs.Explanations.{explanation}
use Rattle.dp_domain.specs.Faces.{Face}
use Rattle.dp_domain.specs.States.{Domains}
use Rattle.dp_domain.specs.declared.found.Found.{Found}
use Rattle.dp_domain.specs.declared.found.Found.TheVariants.{Clash, Atom}
use Rattle.dp_engine.specs.Placed.{face_at}
use Rattle.dp_engine.specs.Turns.{Taken}
use Rattle.dp_engine.specs.declared.part_id.PartId.{PartId}
use Rattle.dp_engine.specs.declared.turn.Turn.{Turn}
use Rattle.dp_engine.specs.declared.turn.Turn.TheVariants.{Atom as Gave, Clash as Clashed, Quiet, Empty}
use Rattle.dp_parts.specs.Posed.{Posed}
use Rattle.dp_rule_clause.specs.Nogoods.{face_nogood}
use Rattle.dp_justify.specs.Explaining.{IsExplainable}
use Rattle.dp_justify.specs.Keeping.{Explained, is_kept, target_of}
use Rattle.dp_justify.specs.Pairs.{Pairs}
use Rattle.dp_justify.specs.Pieces.{step_of}
use Rattle.dp_justify.specs.declared.kept.Kept.{Kept}
use Rattle.dp_justify.specs.declared.turns.RunTurn.{RunTurn}

-- a turn by the place of its part: the state before it, the part that gives it, and its atom; none where the part clashes
pub record SeenTurn : Type 0 where
  pub before : Domains
  pub source : PartId
  pub target : Option Atomic

-- a turn by the place of its part
abbrev pub seen : Taken → SeenTurn
seen t = record { before = t.before; source = t.part.id; target = target_of t.found }

-- what a part gives whose target this is
abbrev pub found_of : Option Atomic → Found
found_of None = Clash
found_of (Some a) = Atom a

-- the face, and that of a nogood without atoms where there is none
abbrev pub face_or : Option Face → Face
face_or None = face_nogood []
face_or (Some face) = face

-- the face of the part that stands at the place
abbrev pub source_face : Posed → List (List Atomic) → PartId → Face
source_face p nogoods id = face_or (face_at p nogoods id)

-- the turn that is seen so, with its explanation
abbrev pub explained_of : Posed → List (List Atomic) → SeenTurn → Explained
explained_of p nogoods t = record {
  turn = record { before = t.before; part = record { id = t.source; face = source_face p nogoods t.source }; found = found_of t.target };
  premises = explanation (source_face p nogoods t.source) p.initial t.before t.target;
}

-- a part stands at the turn's place, and the turn has an explanation by it
pub record IsRunTurn (p : Posed) (nogoods : List (List Atomic)) (t : SeenTurn) : Type 0 where
  pub stands : face_at p nogoods t.source ≡ Some (source_face p nogoods t.source)
  pub explainable : IsExplainable (source_face p nogoods t.source) p.initial t.before t.target

-- the turn's atom, if there is one, is on one of so many variables
abbrev pub IsBelow : ℕ → Option Atomic → Type 0
IsBelow n None = Unit {0}
IsBelow n (Some a) = a.var < n

-- the turn as it is written, where it is kept before these pairs
abbrev pub kept_step : Pairs → Explained → Option Kept
kept_step later e = if is_kept later e.turn.before e.turn.found then Some (step_of e) else None

-- one more, where there is one
abbrev pub with_some : List Kept → Option Kept → List Kept
with_some steps None = steps
with_some steps (Some k) = steps ++ k ∷ []

-- what is seen of the turn at a state
abbrev pub said : Domains → Turn → List SeenTurn
said d (Gave id a) = record { before = d; source = id; target = Some a } ∷ []
said d (Clashed id) = record { before = d; source = id; target = None } ∷ []
said d Quiet = []
said d Empty = []

-- the turn with which a run ends, if it does
abbrev pub end_of_run : Turn → Option Turn
end_of_run (Gave id a) = None
end_of_run (Clashed id) = Some (Clashed id)
end_of_run Quiet = Some Quiet
end_of_run Empty = Some Empty

-- what is kept of a turn, where the state before it stands at this mark
abbrev pub noted : ℕ → Turn → List RunTurn
noted mark (Gave id a) = record { mark = mark; source = id; target = Some a } ∷ []
noted mark (Clashed id) = record { mark = mark; source = id; target = None } ∷ []
noted mark Quiet = []
noted mark Empty = []

-- a turn that is kept, with the state before it
abbrev pub seen_at : Domains → RunTurn → SeenTurn
seen_at d t = record { before = d; source = t.source; target = t.target }

-- a turn that is kept, with the state at its mark
abbrev pub seen_among : List Domains → RunTurn → SeenTurn
seen_among ds t = seen_at (get_or ds t.mark []) t

-- no turn has a mark below that of one before it
abbrev pub AreInOrder : List RunTurn → Type 0
AreInOrder [] = Unit {0}
AreInOrder (t ∷ ts) = Each (λ u. t.mark ≤ u.mark) ts × AreInOrder ts

-- each turn has its mark among the states, in the order of the turns
pub record IsTrail (ds : List Domains) (ts : List RunTurn) : Type 0 where
  pub there : Each (λ t. t.mark < length ds) ts
  pub ordered : AreInOrder ts
