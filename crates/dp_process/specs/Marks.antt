-- Going down over the places: which are marked, and what is found of each.
use Rattle.std.specs.Prelude.{◌≡◌, ℕ, ◌-◌, ◌<◌, ◌≤◌, zero, suc, Bool, true, false, if◌then◌else◌, Option, Some, None, List, [], ◌∷◌, ◌++◌, length, slice_index_or, is_some}
use Rattle.dp_domain.specs.Atoms.{Atomic}
use Rattle.dp_justify.specs.Pieces.{justification}
use Rattle.dp_justify.specs.declared.piece.Piece.{Piece}
use Rattle.dp_parts.specs.Posed.{Posed}
use Rattle.dp_process.specs.Met.{IsFailing, is_met, last_of}
use Rattle.dp_process.specs.declared.met.Justified.{Justified}
use Rattle.dp_process.specs.declared.met.Justified.TheVariants.{All, Failing}
use Rattle.dp_process.specs.declared.met.Outcome.{Outcome}
use Rattle.dp_process.specs.declared.met.Outcome.TheVariants.{Passes, Fails}

-- of the places that have marks, those of the set are marked
abbrev pub AreMarked : List Bool → (ℕ → Bool) → Type 0
AreMarked marks set = (i : ℕ) → i < length marks → slice_index_or marks i false ≡ set i

-- what is found of a marked place with this justification
abbrev pub outcome_met : Option Piece → Outcome
outcome_met None = Fails
outcome_met (Some piece) = Passes (Some piece)

-- what is found of a place, by its mark
abbrev pub outcome_of : Bool → Option Piece → Outcome
outcome_of false answer = Passes None
outcome_of true answer = outcome_met answer

-- the justification of the nogood at the place, where it is met
abbrev pub piece_at : Posed → List (List Atomic) → ℕ → Option Piece
piece_at p nogoods place = if is_met p nogoods place then justification p nogoods place else None

-- those of so many of the last places, the last place first
abbrev pub pieces_down : Posed → List (List Atomic) → ℕ → List (Option Piece)
pieces_down p nogoods zero = []
pieces_down p nogoods (suc k) = pieces_down p nogoods k ++ piece_at p nogoods (last_of nogoods - k) ∷ []

-- each nogood that is met has a justification, from the place on
abbrev pub AreJustified : Posed → List (List Atomic) → ℕ → Type 0
AreJustified p nogoods from = (j : ℕ) → from ≤ j → j < length nogoods → is_met p nogoods j ≡ true → is_some (justification p nogoods j) ≡ true

-- what is found of all places
abbrev pub IsJustified : Posed → List (List Atomic) → Justified → Type 0
IsJustified p nogoods (All pieces) = AreJustified p nogoods 0 × (pieces.items ≡ pieces_down p nogoods (length nogoods))
IsJustified p nogoods (Failing place) = IsFailing p nogoods place
