-- Which nogoods of a scaffold are met, backwards from the conclusion, and which of them fails.
use Rattle.std.specs.Prelude.{◌≡◌, ℕ, ◌-◌, ◌<◌, ◌==◌, zero, suc, Bool, true, ◌&&◌, ◌||◌, Option, Some, None, List, [], length, nat_eq, take}
use Rattle.std.specs.List.{list_any}
use Rattle.dp_base.specs.Lists.{Among}
use Rattle.dp_domain.specs.Atoms.{Atomic}
use Rattle.dp_engine.specs.Runs.{follows}
use Rattle.dp_justify.specs.Pieces.{justification, nogood_at}
use Rattle.dp_justify.specs.declared.kept.Kept.{Kept}
use Rattle.dp_justify.specs.declared.piece.Piece.{Piece}
use Rattle.dp_parts.specs.Posed.{Posed}

-- the kept turns of a justification; none where there is none
abbrev pub kept_in : Option Piece → List Kept
kept_in None = []
kept_in (Some piece) = piece.steps

-- the places of the nogoods that the kept turns come from; none where there is no justification
abbrev pub uses_in : Option Piece → List ℕ
uses_in None = []
uses_in (Some piece) = piece.uses

-- the places of the nogoods that the kept turns of the nogood at the place come from
abbrev pub uses_at : Posed → List (List Atomic) → ℕ → List ℕ
uses_at p nogoods place = uses_in (justification p nogoods place)

-- the place of the conclusion
abbrev pub last_of : List (List Atomic) → ℕ
last_of nogoods = length nogoods - 1

-- the set of places has the conclusion's and, with a place, those that it uses
pub record IsClosed (p : Posed) (nogoods : List (List Atomic)) (set : ℕ → Bool) : Type 0 where
  pub conclusion : set (last_of nogoods) ≡ true
  pub used : (j i : ℕ) → set j ≡ true → Among i (uses_at p nogoods j) → set i ≡ true

-- a place is met where it is in each such set
abbrev pub IsMet : Posed → List (List Atomic) → ℕ → Type 0
IsMet p nogoods place = (set : ℕ → Bool) → IsClosed p nogoods set → set place ≡ true

-- the nogood at the place follows from the model and the nogoods before it
abbrev pub Follows : Posed → List (List Atomic) → ℕ → Type 0
Follows p nogoods place = follows p (take place nogoods) (nogood_at nogoods place) ≡ true

-- each nogood that is met follows
abbrev pub EachMetFollows : Posed → List (List Atomic) → Type 0
EachMetFollows p nogoods = (place : ℕ) → place < length nogoods → IsMet p nogoods place → Follows p nogoods place

-- the nogood at the place is met and does not follow, and it is the last of those
pub record IsFailing (p : Posed) (nogoods : List (List Atomic)) (place : ℕ) : Type 0 where
  pub stands : place < length nogoods
  pub met : IsMet p nogoods place
  pub fails : Follows p nogoods place → ⊥
  pub last : (j : ℕ) → place < j → j < length nogoods → IsMet p nogoods j → Follows p nogoods j

-- ---- the same, going down from the conclusion

-- whether the place is the conclusion's, or is used by a met one of the last so many places
abbrev pub met_by : (ℕ → List ℕ) → ℕ → ℕ → ℕ → Bool
met_by uses last zero i = i == last
met_by uses last (suc k) i = met_by uses last k i || (met_by uses last k (last - k) && list_any (nat_eq i) (uses (last - k)))

-- whether the place is met
abbrev pub is_met : Posed → List (List Atomic) → ℕ → Bool
is_met p nogoods i = met_by (uses_at p nogoods) (last_of nogoods) (length nogoods) i
