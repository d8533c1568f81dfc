-- Replay: with the denials of the kept turns as hints, in their order, the rule of nogoods proves the nogood.
use Rattle.std.specs.Prelude.{◌≡◌, ℕ, ◌<◌, true, Option, Some, List, [], ◌∷◌, ◌++◌, map, slice_get, slice_index_or, ℤ}
use Rattle.dp_base.specs.Lists.{Among, Each}
use Rattle.dp_domain.specs.Atoms.{Atomic}
use Rattle.dp_domain.specs.Explanations.{failing, suffices}
use Rattle.dp_domain.specs.States.{AreOf, Domains, IsWithin, cut_all, values}
use Rattle.dp_domain.specs.declared.found.Found.TheVariants.{Clash}
use Rattle.dp_engine.specs.declared.part_id.PartId.{PartId}
use Rattle.dp_engine.specs.declared.part_id.PartId.TheVariants.{Model, Nogood}
use Rattle.dp_parts.specs.Posed.{Labelled, Posed}
use Rattle.dp_parts.specs.Rules.{implies, proves}
use Rattle.dp_rule_clause.specs.Nogoods.{face_nogood}
use Rattle.dp_justify.specs.Keeping.{Explained, kept, left, target_of}
use Rattle.dp_justify.specs.Pairs.{Pairs}
use Rattle.dp_justify.specs.Pieces.{denial_of, nogood_at, step_of}
use Rattle.dp_justify.specs.declared.kept.Kept.{Kept}

-- the state has none of the pairs
abbrev pub Lacks : Domains → Pairs → Type 0
Lacks d pairs = (x : ℕ) (v : ℤ) → pairs x v ≡ true → ¬ (Among v (values d x))

-- the last of the turns is a clash
abbrev pub EndsInClash : List Explained → Type 0
EndsInClash [] = ⊥
EndsInClash (e ∷ []) = e.turn.found ≡ Clash
EndsInClash (e ∷ f ∷ es) = EndsInClash (f ∷ es)

-- at the base the part clashes with the premises and, unless the turn is a clash, the negation of its atom; and a turn
-- of a nogood's place is one of that nogood
pub record IsReason (base : Domains) (nogoods : List (List Atomic)) (e : Explained) : Type 0 where
  pub enough : suffices e.turn.part.face base (target_of e.turn.found) e.premises ≡ true
  pub nogood : (j : ℕ) → e.turn.part.id ≡ Nogood j → e.turn.part.face ≡ face_nogood (nogood_at nogoods j)

-- for any base, any nogoods and any turns that end in a clash, each with any premises that suffice at the base, the
-- denials of the kept turns prove the nogood at every state within the base that has none of the pairs left
abbrev pub Replays : Type 0
Replays = (base start : Domains) (nogoods : List (List Atomic)) (turns : List Explained)
    → EndsInClash turns → Each (IsReason base nogoods) turns → IsWithin start base → Lacks start (left base turns)
    → proves start (map (denial_of nogoods) (map step_of (kept base turns))) ≡ true

-- the parts of the constraint at the place
abbrev pub constraint_at : Posed → ℕ → List Labelled
constraint_at p k = slice_index_or p.constraints k []

-- a step of a model's part holds by the rule of inferences, under the part's own label; a step of a nogood is of one before the place
abbrev pub HoldsBy : Posed → ℕ → PartId → List Atomic → Option Atomic → Type 0
HoldsBy p place (Model k i) premises consequent =
    (q : Labelled) × (slice_get (constraint_at p k) i ≡ Some q) × (implies (cut_all p.initial (premises ++ failing consequent)) (constraint_at p k) (Some q.label) ≡ true)
HoldsBy p place (Nogood j) premises consequent = j < place

-- the step holds
abbrev pub Holds : Posed → ℕ → Kept → Type 0
Holds p place k = HoldsBy p place k.source k.premises k.consequent

-- each atom of the step is on a variable of the state
abbrev pub SpeaksOf : Domains → Kept → Type 0
SpeaksOf d k = AreOf d (k.premises ++ failing k.consequent)
