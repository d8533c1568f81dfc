-- What the justification of a nogood has: its steps hold, speak of the problem's variables, and prove the nogood.
use Rattle.std.proofs.Common.{◌≡◌, ℕ, ◌<◌, true, Option, List, map, refl, sym, subst, inl, inr}
use Rattle.std.specs.List.{flat_map}
use Rattle.std.proofs.lemmas.Bool.{false≢true}
use Rattle.dp_base.specs.Lists.{Among, Each}
use Rattle.dp_base.proofs.Lists.{Each-among, Each-from_among}
use Rattle.dp_base.proofs.ScopeLaws.{among_in_order, among_in_order_out}
use Rattle.dp_domain.specs.Atoms.{Atomic}
use Rattle.dp_domain.proofs.ExplanationLaws.{Among-flat_map, Among-flat_map_piece}
use Rattle.dp_engine.specs.Runs.{is_failure, run}
use Rattle.dp_engine.specs.declared.part_id.PartId.{PartId}
use Rattle.dp_engine.specs.declared.part_id.PartId.TheVariants.{Model, Nogood}
use Rattle.dp_engine.specs.declared.turn.Turn.{Turn}
use Rattle.dp_engine.specs.declared.turn.Turn.TheVariants.{Atom as Gave, Clash as Clashed, Quiet, Empty}
use Rattle.dp_parts.specs.Posed.{Posed}
use Rattle.dp_parts.specs.Problems.{Csp, posed}
use Rattle.dp_parts.specs.Rules.{proves}
use Rattle.dp_justify.specs.Pieces.{answer_of, denial_of, end_of, parts_before, place_of, start_of, uses_of}
use Rattle.dp_justify.specs.Replay.{Holds, HoldsBy, SpeaksOf}
use Rattle.dp_justify.specs.declared.kept.Kept.{Kept}
use Rattle.dp_justify.proofs.JustifyLaws.{IsAsked, empty-proves, steps-hold, steps-prove, steps-speak}
use Rattle.dp_process.specs.Met.{Follows, kept_in, uses_at, uses_in}
use Rattle.dp_process.specs.Processed.{kept_at}

-- steps that hold and speak of the problem's variables, and the places that they use
pub record IsPiece (p : Csp) (place : ℕ) (steps : List Kept) (places : List ℕ) : Type 0 where
  pub holds : Each (Holds (posed p) place) steps
  pub speaks : Each (SpeaksOf p.initial) steps
  pub used : places ≡ uses_of steps

module _ (p : Csp) (nogoods : List (List Atomic)) (place : ℕ) (asked : IsAsked p nogoods place) where
  piece_by : (end : Turn) → end_of (posed p) nogoods place ≡ end
      → IsPiece p place (kept_in (answer_of end p.initial (run (parts_before (posed p) nogoods place) (start_of (posed p) nogoods place))))
      (uses_in (answer_of end p.initial (run (parts_before (posed p) nogoods place) (start_of (posed p) nogoods place))))
  piece_by (Gave id a) e = record { holds = tt; speaks = tt; used = refl }
  piece_by (Clashed id) e = record { holds = steps-hold p nogoods place asked; speaks = steps-speak p nogoods place asked; used = refl }
  piece_by Quiet e = record { holds = tt; speaks = tt; used = refl }
  piece_by Empty e = record { holds = tt; speaks = tt; used = refl }

  -- the kept turns of a nogood, whether it follows or not
  pub piece-is : IsPiece p place (kept_at p nogoods place) (uses_at (posed p) nogoods place)
  piece-is = piece_by (end_of (posed p) nogoods place) refl

  proves_by : (end : Turn) → end_of (posed p) nogoods place ≡ end → is_failure end ≡ true
      → proves (start_of (posed p) nogoods place) (map (denial_of nogoods) (kept_in (answer_of end p.initial (run (parts_before (posed p) nogoods place) (start_of (posed p) nogoods place))))) ≡ true
  proves_by (Gave id a) e f = absurd (false≢true f)
  proves_by (Clashed id) e f = steps-prove p nogoods place asked id e
  proves_by Quiet e f = absurd (false≢true f)
  proves_by Empty e f = empty-proves p nogoods place asked e

  -- where it follows, they prove it
  pub piece-proves : Follows (posed p) nogoods place → proves (start_of (posed p) nogoods place) (map (denial_of nogoods) (kept_at p nogoods place)) ≡ true
  piece-proves follows = proves_by (end_of (posed p) nogoods place) refl follows

-- ---- the places that are used

source_below : (p : Posed) (place : ℕ) (source : PartId) (premises : List Atomic) (consequent : Option Atomic) (i : ℕ) → HoldsBy p place source premises consequent → Among i (place_of source) → i < place
source_below p place (Model k part) premises consequent i h used = absurd used
source_below p place (Nogood j) premises consequent i h (inl e) = subst (λ (x : ℕ). x < place) (sym e) h
source_below p place (Nogood j) premises consequent i h (inr used) = absurd used

-- a place that is used is below that of the nogood
pub used-below : (p : Csp) (place : ℕ) (steps : List Kept) (places : List ℕ) (i : ℕ) → IsPiece p place steps places → Among i places → i < place
used-below p place steps places i piece used =
    let among = among_in_order_out i (flat_map (λ k. place_of k.source) steps) (subst (Among i) piece.used used) in
    let one = Among-flat_map_piece (λ (k : Kept). place_of k.source) steps i among in
    source_below (posed p) place one.0.source one.0.premises one.0.consequent i (Each-among (Holds (posed p) place) steps piece.holds one.0 one.1) one.2

-- what holds of each place that is used holds of the place of each step's nogood
pub used-each : (P : ℕ → Type 0) (p : Csp) (place : ℕ) (steps : List Kept) (places : List ℕ) → IsPiece p place steps places → ((i : ℕ) → Among i places → P i)
    → Each (λ k. (j : ℕ) → k.source ≡ Nogood j → P j) steps
used-each P p place steps places piece all =
    Each-from_among (λ (k : Kept). (j : ℕ) → k.source ≡ Nogood j → P j) steps (λ k here j e.
    all j (subst (Among j) (sym piece.used) (among_in_order j (flat_map (λ k. place_of k.source) steps)
    (Among-flat_map (λ (k : Kept). place_of k.source) steps k j here (subst (λ (s : PartId). Among j (place_of s)) (sym e) (inl refl))))))
