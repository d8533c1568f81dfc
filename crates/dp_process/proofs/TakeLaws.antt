-- Taking in the answers of a wave, the last first: what is found stays right, and less is left at the end.
use Rattle.std.proofs.Common.{◌≡◌, ℕ, ◌<◌, true, ◌⊎◌, List, [], ◌∷◌, ◌++◌, length, Option, refl, sym, ◌∙◌, ap, subst, inl, inr, arith}
use Rattle.std.specs.List.{AllZip}
use Rattle.dp_base.specs.Lists.{Each}
use Rattle.dp_base.proofs.Lists.{Each-append_parts, Each-weaker}
use Rattle.dp_domain.specs.Atoms.{Atomic}
use Rattle.dp_justify.specs.Pieces.{justification}
use Rattle.dp_justify.specs.declared.piece.Piece.{Piece}
use Rattle.dp_parts.specs.Posed.{Posed}
use Rattle.dp_parts.specs.Problems.{Csp, posed}
use Rattle.dp_process.specs.Met.{last_of}
use Rattle.dp_process.specs.Waves.{IsFound, IsMarked, TakesIn, is_pending, left, wave}
use Rattle.dp_process.specs.declared.found.Found.{Found}
use Rattle.dp_process.proofs.MarkLaws.{AreGiven}
use Rattle.dp_process.proofs.WaveLaws.{marked-within, pending-parts, taken-found, taken-less, taken-marked, taken-no_more, wave-each}

-- ---- the last of two lists

not_one : {A B : Type 0} (R : A → B → Type 0) (ys : List B) (y : B) → AllZip R [] (ys ++ y ∷ []) → ⊥
not_one R [] y h = h
not_one R (z ∷ ys) y h = h

not_other : {A B : Type 0} (R : A → B → Type 0) (xs : List A) (x : A) → AllZip R (xs ++ x ∷ []) [] → ⊥
not_other R [] x h = h
not_other R (z ∷ xs) x h = h

zip-last : {A B : Type 0} (R : A → B → Type 0) (xs : List A) (x : A) (ys : List B) (y : B) → AllZip R (xs ++ x ∷ []) (ys ++ y ∷ []) → AllZip R xs ys × R x y
zip-last R [] x [] y h = (tt, h.0)
zip-last R [] x (z ∷ ys) y h = absurd (not_one R ys y h.1)
zip-last R (w ∷ xs) x [] y h = absurd (not_other R xs x h.1)
zip-last R (w ∷ xs) x (z ∷ ys) y h = let r = zip-last R xs x ys y h.1 in ((h.0, r.0), r.1)

-- ---- the answers that are still to be taken in

-- the answer is the justification of the nogood at the place
abbrev pub Answers : Posed → List (List Atomic) → ℕ → Option Piece → Type 0
Answers p nogoods place answer = answer ≡ justification p nogoods place

-- no answer was taken in yet
pub record IsUntouched (before now : Found) (all places : List ℕ) : Type 0 where
  pub rest : places ≡ all
  pub same : left now ≡ left before
  pub pending : Each (λ i. (i < length now.pieces.items) × (is_pending now i ≡ true)) places

-- of a wave these places are left, with these answers
pub record IsTaking (p : Posed) (nogoods : List (List Atomic)) (before now : Found) (all places : List ℕ) (answers : List (Option Piece)) : Type 0 where
  pub found : IsFound p nogoods now
  pub answered : AllZip (Answers p nogoods) places answers
  pub marked : Each (IsMarked now) places
  pub fewer : (left now < left before) ⊎ IsUntouched before now all places

-- nogoods of which something is found are some
pub some-found : (p : Posed) (nogoods : List (List Atomic)) (f : Found) → IsFound p nogoods f → 0 < length nogoods
some-found p nogoods f h =
    let within : last_of nogoods < length f.marks.items = marked-within f (last_of nogoods) h.conclusion in
    omega (arith, h.marks)

-- the places of a wave are those of nogoods
pub wave-within : (f : Found) (n : ℕ) (places : List ℕ) → places ≡ wave f n → Each (λ i. i < n) places
wave-within f n places e =
    subst (λ (is : List ℕ). Each (λ i. i < n) is) (sym e)
    (Each-weaker (λ (i : ℕ). (i < n) × (is_pending f i ≡ true)) (λ (i : ℕ). i < n) (λ i h. h.0) (wave f n) (wave-each f n))

pub taking-start : (p : Posed) (nogoods : List (List Atomic)) (f : Found) (places : List ℕ) (answers : List (Option Piece)) → IsFound p nogoods f → places ≡ wave f (length nogoods)
    → AllZip (Answers p nogoods) places answers → IsTaking p nogoods f f places places answers
taking-start p nogoods f places answers h e answered =
    let each : Each (λ (i : ℕ). (i < length nogoods) × (is_pending f i ≡ true)) places =
    subst (λ (is : List ℕ). Each (λ (i : ℕ). (i < length nogoods) × (is_pending f i ≡ true)) is) (sym e) (wave-each f (length nogoods)) in
    record {
      found = h;
      answered = answered;
      marked = Each-weaker (λ (i : ℕ). (i < length nogoods) × (is_pending f i ≡ true)) (IsMarked f) (λ i q. (pending-parts f i q.1).1) places each;
      fewer = inr (record {
        rest = refl;
        same = refl;
        pending = Each-weaker (λ (i : ℕ). (i < length nogoods) × (is_pending f i ≡ true)) (λ (i : ℕ). (i < length f.pieces.items) × (is_pending f i ≡ true))
            (λ i q. let l : i < length nogoods = q.0 in (omega (arith, h.pieces), q.1)) places each;
      });
    }

-- the last answer and the others
module _ (p : Csp) (nogoods : List (List Atomic)) (before old : Found) (all places rest : List ℕ) (answers others : List (Option Piece)) (place : ℕ) (answer : Option Piece)
    (given : AreGiven p nogoods) (taking : IsTaking (posed p) nogoods before old all places answers) (last : places ≡ rest ++ place ∷ []) (same : answers ≡ others ++ answer ∷ []) where
  parted : AllZip (Answers (posed p) nogoods) rest others × Answers (posed p) nogoods place answer
  parted =
      zip-last (Answers (posed p) nogoods) rest place others answer
      (subst (λ (as' : List (Option Piece)). AllZip (Answers (posed p) nogoods) (rest ++ place ∷ []) as') same
      (subst (λ (is : List ℕ). AllZip (Answers (posed p) nogoods) is answers) last taking.answered))

  marks_parted : Each (IsMarked old) rest × Each (IsMarked old) (place ∷ [])
  marks_parted = Each-append_parts (IsMarked old) rest (place ∷ []) (subst (λ (is : List ℕ). Each (IsMarked old) is) last taking.marked)

  pub taking-answer : answer ≡ justification (posed p) nogoods place
  taking-answer = parted.1

  pub taking-marked : IsMarked old place
  taking-marked = marks_parted.1.0

  less_now : (new : Found) → TakesIn place answer old new → left new < left before
  less_now new taken = elim taking.fewer [
    | inl h ↦ omega (arith, h, taken-no_more place answer old new taken)
    | inr h ↦
        let one = (Each-append_parts (λ (i : ℕ). (i < length old.pieces.items) × (is_pending old i ≡ true)) rest (place ∷ [])
        (subst (λ (is : List ℕ). Each (λ (i : ℕ). (i < length old.pieces.items) × (is_pending old i ≡ true)) is) last h.pending)).1.0 in
        omega (arith, h.same, taken-less place answer old new taken one.1 one.0)
  ]

  pub taking-next : (new : Found) → TakesIn place answer old new → IsTaking (posed p) nogoods before new all rest others
  taking-next new taken = record {
    found = taken-found p nogoods place answer old new given taking.found taking-marked taking-answer taken;
    answered = parted.0;
    marked = Each-weaker (IsMarked old) (IsMarked new) (taken-marked place answer old new taken) rest marks_parted.0;
    fewer = inl (less_now new taken);
  }

pub taking-end : (p : Posed) (nogoods : List (List Atomic)) (before now : Found) (all places : List ℕ) (answers : List (Option Piece)) → IsTaking p nogoods before now all places answers
    → 0 < length all → places ≡ [] → left now < left before
taking-end p nogoods before now all places answers taking some none = elim taking.fewer [
  | inl h ↦ h
  | inr h ↦ let empty : length all ≡ 0 = ap length (sym h.rest ∙ none) in absurd (omega arith)
]
