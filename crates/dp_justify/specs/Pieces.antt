-- The kept turns of the run of one nogood, and what they deny.
use Rattle.std.specs.Prelude.{ℕ, Option, Some, None, List, [], ◌∷◌, ◌++◌, map, take, slice_index_or}
use Rattle.std.specs.List.{flat_map}
use Rattle.dp_base.specs.Scopes.{in_order}
use Rattle.dp_domain.specs.Atoms.{Atomic}
use Rattle.dp_domain.specs.Explanations.{explanation, failing}
use Rattle.dp_domain.specs.States.{Domains, cut_all}
use Rattle.dp_engine.specs.Placed.{Placed, turn_order}
use Rattle.dp_engine.specs.Runs.{run, run_end}
use Rattle.dp_engine.specs.Turns.{Taken}
use Rattle.dp_engine.specs.declared.part_id.PartId.{PartId}
use Rattle.dp_engine.specs.declared.part_id.PartId.TheVariants.{Model, Nogood}
use Rattle.dp_engine.specs.declared.turn.Turn.{Turn}
use Rattle.dp_engine.specs.declared.turn.Turn.TheVariants.{Atom, Clash, Quiet, Empty}
use Rattle.dp_parts.specs.Posed.{Posed}
use Rattle.dp_justify.specs.Keeping.{Explained, kept, target_of}
use Rattle.dp_justify.specs.declared.kept.Kept.{Kept}
use Rattle.dp_justify.specs.declared.piece.Piece.{Piece}

-- the turn with its explanation
abbrev pub explained : Domains → Taken → Explained
explained initial t = record { turn = t; premises = explanation t.part.face initial t.before (target_of t.found) }

-- the part that gives it, its premises, and what follows from them
abbrev pub step_of : Explained → Kept
step_of e = record { source = e.turn.part.id; premises = e.premises; consequent = target_of e.turn.found }

-- the place of a nogood
abbrev pub place_of : PartId → List ℕ
place_of (Model k i) = []
place_of (Nogood j) = j ∷ []

-- the places of the nogoods that turns come from, ascending, each once
abbrev pub uses_of : List Kept → List ℕ
uses_of steps = in_order (flat_map (λ k. place_of k.source) steps)

-- these steps, with the nogoods that they use
abbrev pub piece_of : List Kept → Piece
piece_of steps = record { steps = steps; uses = uses_of steps }

-- the kept turns of a run that ended in a clash, each with its explanation
abbrev pub kept_steps : Domains → List Taken → List Kept
kept_steps initial ts = map step_of (kept initial (map (explained initial) ts))

-- the kept turns of a run that ended so; none of a run that ended Empty, and no answer where it ended Quiet
abbrev pub answer_of : Turn → Domains → List Taken → Option Piece
answer_of (Atom id a) initial ts = None
answer_of (Clash id) initial ts = Some (piece_of (kept_steps initial ts))
answer_of Quiet initial ts = None
answer_of Empty initial ts = Some (piece_of [])

-- the nogood at the place
abbrev pub nogood_at : List (List Atomic) → ℕ → List Atomic
nogood_at nogoods place = slice_index_or nogoods place []

-- the parts that take turns in its run: those of the model, and the nogoods before it
abbrev pub parts_before : Posed → List (List Atomic) → ℕ → List Placed
parts_before p nogoods place = turn_order p (take place nogoods)

-- the state in which its run starts: the initial one with its atoms
abbrev pub start_of : Posed → List (List Atomic) → ℕ → Domains
start_of p nogoods place = cut_all p.initial (nogood_at nogoods place)

-- how its run ends
abbrev pub end_of : Posed → List (List Atomic) → ℕ → Turn
end_of p nogoods place = run_end (parts_before p nogoods place) (start_of p nogoods place)

-- its justification
abbrev pub justification : Posed → List (List Atomic) → ℕ → Option Piece
justification p nogoods place = answer_of (end_of p nogoods place) p.initial (run (parts_before p nogoods place) (start_of p nogoods place))

-- what a turn of the part denies: its premises with the negation of its atom, or all atoms of the nogood that it is
abbrev pub denied_by : List (List Atomic) → PartId → List Atomic → Option Atomic → List Atomic
denied_by nogoods (Model k i) premises consequent = premises ++ failing consequent
denied_by nogoods (Nogood j) premises consequent = nogood_at nogoods j

-- what the step denies
abbrev pub denial_of : List (List Atomic) → Kept → List Atomic
denial_of nogoods k = denied_by nogoods k.source k.premises k.consequent
