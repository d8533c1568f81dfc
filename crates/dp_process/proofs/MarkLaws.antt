-- Steps of the way down: the marks, and what is found of each place.
use Rattle.std.proofs.Common.{◌≡◌, ℕ, suc, ◌+◌, ◌-◌, ◌<◌, ◌≤◌, Bool, true, false, cond, ◌||◌, ◌&&◌, ◌==◌, List, [], ◌∷◌, ◌++◌, length, get_or, Option, Some, None, refl, sym, ◌∙◌, ap, subst, inl, inr, add-one, arith}
use Rattle.std.specs.Prelude.{is_some, nat_eq}
use Rattle.std.specs.List.{list_any}
use Rattle.std.proofs.lemmas.Bool.{both_ways}
use Rattle.std.proofs.lemmas.Bool.Decides.{eqb_tells}
use Rattle.dp_base.specs.Lists.{Each}
use Rattle.dp_base.proofs.Lists.{Each-from_among}
use Rattle.dp_domain.specs.Atoms.{Atomic}
use Rattle.dp_domain.specs.States.{AreOf}
use Rattle.dp_justify.specs.Pieces.{justification}
use Rattle.dp_justify.specs.declared.piece.Piece.{Piece}
use Rattle.dp_parts.specs.Posed.{Posed}
use Rattle.dp_parts.specs.Problems.{Csp, IsProblem, posed}
use Rattle.dp_process.specs.Met.{EachMetFollows, Follows, IsFailing, is_met, last_of, met_by, uses_at}
use Rattle.dp_process.specs.Marks.{AreJustified, AreMarked, outcome_of, piece_at, pieces_down}
use Rattle.dp_process.specs.declared.met.Outcome.{Outcome}
use Rattle.dp_process.specs.declared.met.Outcome.TheVariants.{Passes, Fails}
use Rattle.dp_process.proofs.MetLaws.{UsesBelow, met-from, met-is, met-known}
use Rattle.dp_process.proofs.PieceLaws.{good-below, justified-follows, justified-good, uses-below}

-- ---- the marks behind one place

-- those are marked that are met so far
pub marks-next : (p : Posed) (nogoods : List (List Atomic)) (marks now : List Bool) (place k : ℕ) → place ≡ last_of nogoods - k → place < length marks → length now ≡ length marks
    → AreMarked marks (met_by (uses_at p nogoods) (last_of nogoods) k)
    → AreMarked now (λ i. get_or marks i false || (get_or marks place false && list_any (nat_eq i) (uses_at p nogoods place)))
    → AreMarked now (met_by (uses_at p nogoods) (last_of nogoods) (k + 1))
marks-next p nogoods marks now place k at within same before after = λ i l.
    let there : i < length marks = omega (arith, l, same) in
    after i l
    ∙ (λ j. before i there j || (before place within j && list_any (nat_eq i) (uses_at p nogoods place)))
    ∙ ap (λ (n : ℕ). met_by (uses_at p nogoods) (last_of nogoods) k i || (met_by (uses_at p nogoods) (last_of nogoods) k n && list_any (nat_eq i) (uses_at p nogoods n))) at
    ∙ ap (λ (n : ℕ). met_by (uses_at p nogoods) (last_of nogoods) n i) (sym (add-one k))

-- ---- what is found of one place

-- the piece is the justification where the place is marked, and then there is one
passes : (b : Bool) (answer piece : Option Piece) → outcome_of b answer ≡ Passes piece → (piece ≡ cond b answer None) × (b ≡ true → is_some answer ≡ true)
passes false answer piece e = let same : ◌≡◌ {A = Outcome} (Passes None) (Passes piece) = e in ((cc), λ h. absurd (both_ways false refl h))
passes true None piece e = let none : ◌≡◌ {A = Outcome} Fails (Passes piece) = e in cc
passes true (Some q) piece e = let same : ◌≡◌ {A = Outcome} (Passes (Some q)) (Passes piece) = e in ((cc), λ h. refl)

fails : (b : Bool) (answer : Option Piece) → outcome_of b answer ≡ Fails → (b ≡ true) × (is_some answer ≡ false)
fails false answer e = let none : ◌≡◌ {A = Outcome} (Passes None) Fails = e in cc
fails true None e = (refl, refl)
fails true (Some q) e = let none : ◌≡◌ {A = Outcome} (Passes (Some q)) Fails = e in cc

-- ---- going down over the nogoods of a problem

-- a problem, and nogoods on its variables
pub record AreGiven (p : Csp) (nogoods : List (List Atomic)) : Type 0 where
  pub problem : IsProblem p
  pub variables : Each (AreOf p.initial) nogoods
  pub some : 0 < length nogoods

pub given-below : (p : Csp) (nogoods : List (List Atomic)) → AreGiven p nogoods → UsesBelow (uses_at (posed p) nogoods) (last_of nogoods)
given-below p nogoods given = uses-below p nogoods given.problem given.variables

-- what so many of the last places have shown
pub record IsDown (p : Posed) (nogoods : List (List Atomic)) (k : ℕ) (marks : List Bool) (pieces : List (Option Piece)) : Type 0 where
  pub count : length marks ≡ length nogoods
  pub marked : AreMarked marks (met_by (uses_at p nogoods) (last_of nogoods) k)
  pub justified : AreJustified p nogoods (length nogoods - k)
  pub found : pieces ≡ pieces_down p nogoods k

-- nothing is known before the first
pub down-start : (p : Posed) (nogoods : List (List Atomic)) (n : ℕ) (marks : List Bool) → n ≡ length nogoods → length marks ≡ n → AreMarked marks (λ i. i == n - 1) → IsDown p nogoods 0 marks []
down-start p nogoods n marks e count h = record {
  count = count ∙ e;
  marked = λ i l. h i l ∙ ap (λ (m : ℕ). i == m - 1) e;
  justified = λ j l m met. absurd (omega arith);
  found = refl;
}

-- whether the place is marked is whether it is met
mark_is : (p : Csp) (nogoods : List (List Atomic)) (k : ℕ) (marks : List Bool) (pieces : List (Option Piece)) (place : ℕ) → AreGiven p nogoods → IsDown (posed p) nogoods k marks pieces
    → k < length nogoods → place ≡ last_of nogoods - k → get_or marks place false ≡ is_met (posed p) nogoods place
mark_is p nogoods k marks pieces place given down h at =
    let within : place < length marks = omega (arith, down.count) in
    down.marked place within
    ∙ ap (met_by (uses_at (posed p) nogoods) (last_of nogoods) k) at
    ∙ met-known (uses_at (posed p) nogoods) (last_of nogoods) (length nogoods) k (given-below p nogoods given) (omega arith)
    ∙ ap (is_met (posed p) nogoods) (sym at)

same_or_later : (p : Posed) (nogoods : List (List Atomic)) (place from : ℕ) → AreJustified p nogoods (suc place) → (is_met p nogoods place ≡ true → is_some (justification p nogoods place) ≡ true) → place ≤ from → AreJustified p nogoods from
same_or_later p nogoods place from later here h = λ j l m met. elim (eqb_tells place j) [
  | inl k ↦ subst (λ (n : ℕ). is_some (justification p nogoods n) ≡ true) k.1 (here (subst (λ (n : ℕ). is_met p nogoods n ≡ true) (sym k.1) met))
  | inr k ↦ later j (omega arith) m met
]

-- one place further down
pub down-next : (p : Csp) (nogoods : List (List Atomic)) (k place : ℕ) (marks now : List Bool) (pieces more : List (Option Piece)) (found : Outcome) (piece : Option Piece)
    → AreGiven p nogoods → IsDown (posed p) nogoods k marks pieces → k < length nogoods → place ≡ last_of nogoods - k
    → found ≡ outcome_of (get_or marks place false) (justification (posed p) nogoods place) → found ≡ Passes piece
    → length now ≡ length marks → AreMarked now (λ i. get_or marks i false || (get_or marks place false && list_any (nat_eq i) (uses_at (posed p) nogoods place)))
    → more ≡ pieces ++ piece ∷ [] → IsDown (posed p) nogoods (k + 1) now more
down-next p nogoods k place marks now pieces more found piece given down h at is passed same after pushed =
    let mark = mark_is p nogoods k marks pieces place given down h at in
    let r = passes (is_met (posed p) nogoods place) (justification (posed p) nogoods place) piece
    (ap (λ (b : Bool). outcome_of b (justification (posed p) nogoods place)) (sym mark) ∙ sym is ∙ passed) in
    let within : place < length marks = omega (arith, down.count) in
    record {
      count = same ∙ down.count;
      marked = marks-next (posed p) nogoods marks now place k at within same down.marked after;
      justified = same_or_later (posed p) nogoods place (length nogoods - (k + 1))
          (let from : length nogoods - k ≡ suc place = omega arith in subst (AreJustified (posed p) nogoods) from down.justified) r.1 (omega arith);
      found = pushed ∙ (λ j. down.found j ++ r.0 j ∷ []) ∙ ap (λ (n : ℕ). pieces_down (posed p) nogoods k ++ piece_at (posed p) nogoods n ∷ []) at
          ∙ ap (pieces_down (posed p) nogoods) (sym (add-one k));
    }

-- each of the last places that is met follows
follow_from : (p : Csp) (nogoods : List (List Atomic)) (from : ℕ) → AreGiven p nogoods → AreJustified (posed p) nogoods from → (j : ℕ) → from ≤ j → j < length nogoods
    → is_met (posed p) nogoods j ≡ true → Follows (posed p) nogoods j
follow_from p nogoods from given all j h l met = sym (justified-follows (posed p) nogoods j) ∙ all j h l met

pub all-follow : (p : Csp) (nogoods : List (List Atomic)) → AreGiven p nogoods → AreJustified (posed p) nogoods 0 → EachMetFollows (posed p) nogoods
all-follow p nogoods given all = λ j l met. follow_from p nogoods 0 given all j (omega arith) l (met-is (posed p) nogoods j (given-below p nogoods given) given.some met)

-- a place that fails is the last that does
pub down-fails : (p : Csp) (nogoods : List (List Atomic)) (k place : ℕ) (marks : List Bool) (pieces : List (Option Piece)) (found : Outcome)
    → AreGiven p nogoods → IsDown (posed p) nogoods k marks pieces → k < length nogoods → place ≡ last_of nogoods - k
    → found ≡ outcome_of (get_or marks place false) (justification (posed p) nogoods place) → found ≡ Fails → IsFailing (posed p) nogoods place
down-fails p nogoods k place marks pieces found given down h at is failed =
    let mark = mark_is p nogoods k marks pieces place given down h at in
    let r = fails (get_or marks place false) (justification (posed p) nogoods place) (sym is ∙ failed) in
    record {
      stands = omega arith;
      met = met-from (posed p) nogoods place (sym mark ∙ r.0);
      fails = λ follows. both_ways (is_some (justification (posed p) nogoods place)) r.1 (justified-follows (posed p) nogoods place ∙ follows);
      last = λ j l m met. follow_from p nogoods (length nogoods - k) given down.justified j (omega arith) m (met-is (posed p) nogoods j (given-below p nogoods given) given.some met);
    }

-- the places that a justification uses have marks
pub uses-within : (p : Csp) (nogoods : List (List Atomic)) (place n : ℕ) (piece : Piece) (answer : Option Piece) (uses : List ℕ) → IsProblem p → Each (AreOf p.initial) nogoods → place < length nogoods → n ≡ length nogoods
    → answer ≡ justification (posed p) nogoods place → answer ≡ Some piece → uses ≡ piece.uses → Each (λ u. u < n) uses
uses-within p nogoods place n piece answer uses problem variables h e is some same =
    let good = justified-good p nogoods place piece (record { sound = problem; below = variables; within = omega arith }) (sym is ∙ some) in
    subst (λ (us : List ℕ). Each (λ u. u < n) us) (sym same)
    (Each-from_among (λ (u : ℕ). u < n) piece.uses (λ u a. let less : u < place = good-below p place piece u good a in omega arith))
