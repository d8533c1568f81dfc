-- Going back one turn, and the turns that are kept.
use Rattle.std.proofs.Common.{◌≡◌, ℕ, ◌<◌, Bool, true, false, Option, Some, None, if◌then◌else◌, List, [], ◌∷◌, ◌++◌, length, map, ℤ, refl, sym, ◌∙◌, ap, append-nil, append_assoc}
use mathlib.Core.List.{reverse}
use Rattle.std.proofs.lemmas.Grind.{reverse_onto}
use Rattle.std.proofs.lemmas.List.{reverse-reverse}
use Rattle.dp_base.proofs.Lists.{Each-from_among}
use Rattle.dp_domain.specs.Atoms.{Atomic}
use Rattle.dp_domain.specs.Explanations.{description, explanation}
use Rattle.dp_domain.specs.Faces.{Covers, Face}
use Rattle.dp_domain.specs.States.{AreOf, Domains}
use Rattle.dp_domain.proofs.ExplanationLaws.{needed-only}
use Rattle.dp_domain.proofs.ScopeLaws.{Covers-at, Covers-count}
use Rattle.dp_justify.specs.Explaining.{IsExplainable}
use Rattle.dp_justify.specs.Keeping.{Explained, before_turn, is_kept, kept, left}
use Rattle.dp_justify.specs.Pairs.{Pairs, pairs_of}
use Rattle.dp_justify.specs.Pieces.{step_of}
use Rattle.dp_justify.specs.Taking.{kept_step, with_some}
use Rattle.dp_justify.specs.declared.kept.Kept.{Kept}
use Rattle.dp_justify.proofs.NarrowLaws.{atom_of}

-- ---- variables

-- an explanation speaks of variables of the initial state
pub explanation-of : (face : Face) (initial d : Domains) (target : Option Atomic) → IsExplainable face initial d target → AreOf initial (explanation face initial d target)
explanation-of face initial d target h =
    let covers : Covers face.scope initial = Covers-count face.scope d initial (sym h.within.count) h.covers in
    Each-from_among (λ (a : Atomic). a.var < length initial) (explanation face initial d target) (λ a k.
    Covers-at face.scope initial a.var covers (atom_of initial d face.scope a (needed-only face initial target (description initial d face.scope) h.lawful covers a k)).0)

-- ---- all turns, from the last one back

reverse_more : {A : Type 0} (x : A) (xs : List A) → reverse (x ∷ xs) ≡ reverse xs ++ x ∷ []
reverse_more x xs = reverse_onto xs x []

written_step : (base : Domains) (later : Pairs) (e : Explained) (es : List Explained) (steps : List Kept) (b : Bool) → is_kept later e.turn.before e.turn.found ≡ b → steps ≡ reverse (map step_of es)
    → with_some steps (if b then Some (step_of e) else None) ≡ reverse (map step_of (if b then e ∷ es else es))
written_step base later e es steps true k h = ap (λ (ks : List Kept). ks ++ step_of e ∷ []) h ∙ sym (reverse_more (step_of e) (map step_of es))
written_step base later e es steps false k h = h

-- all turns are these and those that were passed on the way back; with the pairs that have to be gone before those, and with
-- those of them that are kept, from the last one back
pub record IsBack (base : Domains) (all these : List Explained) (gone : Domains) (steps : List Kept) : Type 0 where
  pub passed : List Explained
  pub whole : all ≡ these ++ passed
  pub are_gone : (x : ℕ) → (v : ℤ) → pairs_of gone x v ≡ left base passed x v
  pub are_kept : steps ≡ reverse (map step_of (kept base passed))

-- before the first step back
pub back-start : (base : Domains) (all : List Explained) (gone : Domains) → ((x : ℕ) (v : ℤ) → pairs_of gone x v ≡ false) → IsBack base all all gone []
back-start base all gone h = record { passed = []; whole = sym (append-nil all); are_gone = h; are_kept = refl }

-- one turn further back
pub back-more : (base : Domains) (all these front : List Explained) (e : Explained) (old now : Domains) (steps next : List Kept) (step : Option Kept) → IsBack base all these old steps → these ≡ front ++ e ∷ []
    → ((x : ℕ) (v : ℤ) → pairs_of now x v ≡ before_turn base (pairs_of old) e x v) → step ≡ kept_step (pairs_of old) e → next ≡ with_some steps step → IsBack base all front now next
back-more base all these front e old now steps next step b h k f g =
    let same : pairs_of old ≡ left base b.passed = λ i x v. b.are_gone x v i in
    record {
      passed = e ∷ b.passed;
      whole = b.whole ∙ ap (λ (es : List Explained). es ++ b.passed) h ∙ append_assoc front (e ∷ []) b.passed;
      are_gone = λ x v. k x v ∙ ap (λ (later : Pairs). before_turn base later e x v) same;
      are_kept = g ∙ ap (with_some steps) (f ∙ ap (λ (later : Pairs). kept_step later e) same)
          ∙ written_step base (left base b.passed) e (kept base b.passed) steps (is_kept (left base b.passed) e.turn.before e.turn.found) refl b.are_kept;
    }

-- at the first turn
pub back-all : (base : Domains) (all : List Explained) (gone : Domains) (steps now : List Kept) → IsBack base all [] gone steps → now ≡ reverse steps → now ≡ map step_of (kept base all)
back-all base all gone steps now b k =
    k ∙ ap reverse b.are_kept ∙ reverse-reverse (map step_of (kept base b.passed)) ∙ ap (λ (es : List Explained). map step_of (kept base es)) (sym b.whole)
