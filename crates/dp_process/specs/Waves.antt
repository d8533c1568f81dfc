-- Going on in waves: what is found so far of the nogoods, and which of them are pending.
use Rattle.std.specs.Prelude.{◌≡◌, ℕ, zero, suc, ◌+◌, ◌-◌, ◌<◌, ◌≤◌, Bool, true, false, ◌&&◌, ◌||◌, if◌then◌else◌, Option, Some, None, is_none, max, List, [], ◌∷◌, ◌++◌, length, nat_eq, nat_le, reverse, slice_index_or, slice_set}
use Rattle.std.specs.List.{list_any}
use Rattle.dp_base.specs.Lists.{Each}
use Rattle.dp_domain.specs.Atoms.{Atomic}
use Rattle.dp_justify.specs.Pieces.{justification}
use Rattle.dp_justify.specs.declared.piece.Piece.{Piece}
use Rattle.dp_parts.specs.Posed.{Posed}
use Rattle.dp_process.specs.Marks.{AreMarked}
use Rattle.dp_process.specs.Met.{IsMet, last_of}
use Rattle.dp_process.specs.declared.found.Found.{Found}
use Rattle.dp_process.specs.declared.met.Justified.{Justified}
use Rattle.dp_process.specs.declared.met.Justified.TheVariants.{All, Failing}

-- ---- what is found

-- the place is marked
abbrev pub IsMarked : Found → ℕ → Type 0
IsMarked f i = slice_index_or f.marks.items i false ≡ true

-- the justification that was found of the place
abbrev pub found_at : Found → ℕ → Option Piece
found_at f i = slice_index_or f.pieces.items i None

-- what stands after each wave: each marked place is met, each justification found is its place's, and all that it uses is marked; the last place that was found to fail fails
pub record IsFound (p : Posed) (nogoods : List (List Atomic)) (f : Found) : Type 0 where
  pub marks : length f.marks.items ≡ length nogoods
  pub pieces : length f.pieces.items ≡ length nogoods
  pub conclusion : IsMarked f (last_of nogoods)
  pub met : (i : ℕ) → IsMarked f i → IsMet p nogoods i
  pub justified : (i : ℕ) (piece : Piece) → found_at f i ≡ Some piece → IsMarked f i × (justification p nogoods i ≡ Some piece) × Each (IsMarked f) piece.uses
  pub within : f.from ≤ length nogoods
  pub failing : 0 < f.from → IsMarked f (f.from - 1) × (justification p nogoods (f.from - 1) ≡ None)

-- ---- a wave

-- whether the place is pending: it is marked, has no justification yet, and no place from it on is known to fail
abbrev pub is_pending : Found → ℕ → Bool
is_pending f i = nat_le f.from i && slice_index_or f.marks.items i false && is_none (found_at f i)

-- the place, where it is pending
abbrev pub pending_at : Found → ℕ → List ℕ
pending_at f i = if is_pending f i then i ∷ [] else []

-- the wave among the places below this one: those that are pending, ascending
abbrev pub wave : Found → ℕ → List ℕ
wave f zero = []
wave f (suc i) = wave f i ++ pending_at f i

-- ---- taking in an answer

-- a justification is kept at its place, and what it uses is marked
pub record Keeps (place : ℕ) (piece : Piece) (old new : Found) : Type 0 where
  pub count : length new.marks.items ≡ length old.marks.items
  pub marks : AreMarked new.marks.items (λ i. slice_index_or old.marks.items i false || list_any (nat_eq i) piece.uses)
  pub pieces : new.pieces.items ≡ slice_set old.pieces.items place (Some piece)
  pub from : new.from ≡ old.from

-- the place is known to fail; the last of those that are is known
pub record Fails (place : ℕ) (old new : Found) : Type 0 where
  pub marks : new.marks.items ≡ old.marks.items
  pub pieces : new.pieces.items ≡ old.pieces.items
  pub from : new.from ≡ max old.from (place + 1)

-- the answer for the place is taken in
abbrev pub TakesIn : ℕ → Option Piece → Found → Found → Type 0
TakesIn place (Some piece) old new = Keeps place piece old new
TakesIn place None old new = Fails place old new

-- what is told when no place is pending: the last that fails, and else the justifications from the last place down
abbrev pub Tells : Found → Justified → Type 0
Tells f (All pieces) = (f.from ≡ 0) × (pieces.items ≡ reverse f.pieces.items)
Tells f (Failing place) = f.from ≡ place + 1

-- ---- that waves end

-- how many places have no justification yet
abbrev pub missing : List (Option Piece) → ℕ
missing [] = 0
missing (Some piece ∷ pieces) = missing pieces
missing (None ∷ pieces) = suc (missing pieces)

-- what is left: it falls with each wave
abbrev pub left : Found → ℕ
left f = missing f.pieces.items + (length f.pieces.items - f.from)
