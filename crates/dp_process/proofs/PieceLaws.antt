-- What the justification of a nogood has, and when there is one.
use Rattle.std.proofs.Common.{◌≡◌, ℕ, ◌<◌, ◌⊎◌, List, [], Option, Some, None, take, refl, sym, subst, inl, inr, arith}
use Rattle.std.specs.Prelude.{is_some}
use Rattle.std.specs.List.{flat_map}
use Rattle.dp_base.specs.Lists.{Among, Each}
use Rattle.dp_base.proofs.Lists.{Each-among}
use Rattle.dp_base.proofs.ScopeLaws.{among_in_order, among_in_order_out}
use Rattle.dp_domain.specs.Atoms.{Atomic}
use Rattle.dp_domain.specs.States.{AreOf, Domains}
use Rattle.dp_domain.proofs.ExplanationLaws.{Among-flat_map, Among-flat_map_piece}
use Rattle.dp_engine.specs.Runs.{follows, is_failure, run}
use Rattle.dp_engine.specs.Turns.{Taken}
use Rattle.dp_engine.specs.declared.part_id.PartId.{PartId}
use Rattle.dp_engine.specs.declared.part_id.PartId.TheVariants.{Model, Nogood}
use Rattle.dp_engine.specs.declared.turn.Turn.{Turn}
use Rattle.dp_engine.specs.declared.turn.Turn.TheVariants.{Atom, Clash, Quiet, Empty}
use Rattle.dp_justify.specs.Pieces.{answer_of, end_of, justification, kept_steps, nogood_at, parts_before, piece_of, place_of, start_of, uses_of}
use Rattle.dp_justify.specs.Replay.{Holds, HoldsBy, SpeaksOf}
use Rattle.dp_justify.specs.declared.kept.Kept.{Kept}
use Rattle.dp_justify.specs.declared.piece.Piece.{Piece}
use Rattle.dp_justify.proofs.JustifyLaws.{IsAsked, steps-hold, steps-speak}
use Rattle.dp_parts.specs.Posed.{Posed}
use Rattle.dp_parts.specs.Problems.{Csp, IsProblem, posed}
use Rattle.dp_process.specs.Met.{last_of, uses_at, uses_in}
use Rattle.dp_process.proofs.MetLaws.{UsesBelow}

-- ---- there is one exactly where the nogood follows

answer_follows : (end : Turn) (initial : Domains) (ts : List Taken) → is_some (answer_of end initial ts) ≡ is_failure end
answer_follows (Atom id a) initial ts = refl
answer_follows (Clash id) initial ts = refl
answer_follows Quiet initial ts = refl
answer_follows Empty initial ts = refl

pub justified-follows : (p : Posed) (nogoods : List (List Atomic)) (place : ℕ) → is_some (justification p nogoods place) ≡ follows p (take place nogoods) (nogood_at nogoods place)
justified-follows p nogoods place = answer_follows (end_of p nogoods place) p.initial (run (parts_before p nogoods place) (start_of p nogoods place))

-- ---- what it has

same_piece : (q r : Piece) → ◌≡◌ {A = Option Piece} (Some q) (Some r) → q ≡ r
same_piece q r e = cc

no_piece : (r : Piece) → ◌≡◌ {A = Option Piece} None (Some r) → ⊥
no_piece r e = cc

answer_cases : (end : Turn) (initial : Domains) (ts : List Taken) (piece : Piece) → answer_of end initial ts ≡ Some piece → (piece ≡ piece_of (kept_steps initial ts)) ⊎ (piece ≡ piece_of [])
answer_cases (Atom id a) initial ts piece e = absurd (no_piece piece e)
answer_cases (Clash id) initial ts piece e = inl (sym (same_piece (piece_of (kept_steps initial ts)) piece e))
answer_cases Quiet initial ts piece e = absurd (no_piece piece e)
answer_cases Empty initial ts piece e = inr (sym (same_piece (piece_of []) piece e))

-- its steps hold and speak of the problem's variables, and its uses are theirs
pub record IsGood (p : Csp) (place : ℕ) (piece : Piece) : Type 0 where
  pub hold : Each (Holds (posed p) place) piece.steps
  pub speak : Each (SpeaksOf p.initial) piece.steps
  pub uses : piece.uses ≡ uses_of piece.steps

pub justified-good : (p : Csp) (nogoods : List (List Atomic)) (place : ℕ) (piece : Piece) → IsAsked p nogoods place → justification (posed p) nogoods place ≡ Some piece → IsGood p place piece
justified-good p nogoods place piece asked e = elim (answer_cases (end_of (posed p) nogoods place) p.initial (run (parts_before (posed p) nogoods place) (start_of (posed p) nogoods place)) piece e) [
  | inl h ↦ subst (λ (q : Piece). IsGood p place q) (sym h) (record { hold = steps-hold p nogoods place asked; speak = steps-speak p nogoods place asked; uses = refl })
  | inr h ↦ subst (λ (q : Piece). IsGood p place q) (sym h) (record { hold = tt; speak = tt; uses = refl })
]

-- ---- what it uses

source_below : (p : Posed) (place : ℕ) (id : PartId) (premises : List Atomic) (consequent : Option Atomic) (i : ℕ) → HoldsBy p place id premises consequent → Among i (place_of id) → i < place
source_below p place (Model k j) premises consequent i h a = absurd a
source_below p place (Nogood j) premises consequent i h (inl e) = subst (λ (n : ℕ). n < place) (sym e) h
source_below p place (Nogood j) premises consequent i h (inr a) = absurd a

-- what a good justification uses is below its place
pub good-below : (p : Csp) (place : ℕ) (piece : Piece) (i : ℕ) → IsGood p place piece → Among i piece.uses → i < place
good-below p place piece i good a =
    let used = among_in_order_out i (flat_map (λ (k : Kept). place_of k.source) piece.steps) (subst (λ (xs : List ℕ). Among i xs) good.uses a) in
    let k = Among-flat_map_piece (λ (k : Kept). place_of k.source) piece.steps i used in
    source_below (posed p) place k.0.source k.0.premises k.0.consequent i (Each-among (Holds (posed p) place) piece.steps good.hold k.0 k.1) k.2

-- it uses the nogood that gives one of its turns
pub good-uses : (p : Csp) (place : ℕ) (piece : Piece) (k : Kept) (j : ℕ) → IsGood p place piece → Among k piece.steps → k.source ≡ Nogood j → Among j piece.uses
good-uses p place piece k j good a e =
    subst (λ (xs : List ℕ). Among j xs) (sym good.uses)
    (among_in_order j (flat_map (λ (k : Kept). place_of k.source) piece.steps)
    (Among-flat_map (λ (k : Kept). place_of k.source) piece.steps k j a (subst (λ (id : PartId). Among j (place_of id)) (sym e) (inl refl))))

used_below : (p : Csp) (nogoods : List (List Atomic)) (place i : ℕ) (o : Option Piece) → IsAsked p nogoods place → justification (posed p) nogoods place ≡ o → Among i (uses_in o) → i < place
used_below p nogoods place i None asked e a = absurd a
used_below p nogoods place i (Some piece) asked e a = good-below p place piece i (justified-good p nogoods place piece asked e) a

-- so each place uses what is below it
pub uses-below : (p : Csp) (nogoods : List (List Atomic)) → IsProblem p → Each (AreOf p.initial) nogoods → UsesBelow (uses_at (posed p) nogoods) (last_of nogoods)
uses-below p nogoods problem variables = λ j i h a.
    used_below p nogoods j i (justification (posed p) nogoods j) (record { sound = problem; below = variables; within = omega arith }) refl a
