-- What is found stays right while answers are taken in, and waves end.
use Rattle.std.proofs.Common.{◌≡◌, ℕ, zero, suc, ◌+◌, ◌-◌, ◌<◌, ◌≤◌, max, Bool, true, false, cond, ◌&&◌, ◌⊎◌, List, [], ◌∷◌, length, set, get_or, Option, Some, None, refl, sym, ◌∙◌, ap, subst, inl, inr, arith}
use Rattle.std.specs.Prelude.{is_none, nat_eq, nat_le}
use Rattle.std.specs.List.{list_any}
use Rattle.std.proofs.lemmas.Bool.{and_parts, both_ways, cases_lt, leb-true, or_cases, or_left, or_right}
use Rattle.std.proofs.lemmas.Bool.Decides.{eqb_tells}
use Rattle.std.proofs.lemmas.List.{get_or-set_other, get_or-set_same, length-set}
use Rattle.dp_base.specs.Lists.{Among, Each}
use Rattle.dp_base.proofs.Lists.{Among-append_left, Among-append_right, Each-among, Each-append, Each-from_among, Each-weaker}
use Rattle.dp_domain.specs.Atoms.{Atomic}
use Rattle.dp_justify.specs.Pieces.{justification}
use Rattle.dp_justify.specs.declared.piece.Piece.{Piece}
use Rattle.dp_parts.specs.Posed.{Posed}
use Rattle.dp_parts.specs.Problems.{Csp, posed}
use Rattle.dp_process.specs.Met.{last_of, uses_in}
use Rattle.dp_process.specs.Waves.{Fails, IsFound, IsMarked, Keeps, TakesIn, found_at, is_pending, left, missing, pending_at, wave}
use Rattle.dp_process.specs.declared.found.Found.{Found}
use Rattle.dp_process.proofs.MarkLaws.{AreGiven, uses-within}
use Rattle.dp_process.proofs.MetLaws.{eq_for, eq_of}

-- ---- reads within a list

no_some : {A : Type 0} (x : A) → ◌≡◌ {A = Option A} None (Some x) → ⊥
no_some x e = cc

pub true-within : (xs : List Bool) (i : ℕ) → get_or xs i false ≡ true → i < length xs
true-within [] i e = absurd (both_ways false refl e)
true-within (x ∷ xs) zero e = omega arith
true-within (x ∷ xs) (suc i) e = let within : i < length xs = true-within xs i e in omega arith

pub marked-within : (f : Found) (i : ℕ) → IsMarked f i → i < length f.marks.items
marked-within f i h = true-within f.marks.items i h

-- ---- a justification is kept

module _ (place : ℕ) (piece : Piece) (old new : Found) (k : Keeps place piece old new) where
  kept-marked : (i : ℕ) → IsMarked old i → IsMarked new i
  kept-marked i h =
      let there : i < length old.marks.items = marked-within old i h in
      let within : i < length new.marks.items = omega (arith, k.count) in
      k.marks i within ∙ or_left (get_or old.marks.items i false) (list_any (nat_eq i) piece.uses) h

  kept-uses : (u : ℕ) → u < length old.marks.items → Among u piece.uses → IsMarked new u
  kept-uses u there a =
      let within : u < length new.marks.items = omega (arith, k.count) in
      k.marks u within ∙ or_right (get_or old.marks.items u false) (list_any (nat_eq u) piece.uses) (eq_for u piece.uses a)

  kept-cases : (i : ℕ) → IsMarked new i → IsMarked old i ⊎ Among i piece.uses
  kept-cases i h =
      elim (or_cases (get_or old.marks.items i false) (list_any (nat_eq i) piece.uses) (sym (k.marks i (marked-within new i h)) ∙ h)) [
        | inl e ↦ inl e
        | inr e ↦ inr (eq_of i piece.uses e)
      ]

-- what is kept of a place
abbrev Has : Posed → List (List Atomic) → Found → ℕ → Piece → Type 0
Has p nogoods f i piece = IsMarked f i × (justification p nogoods i ≡ Some piece) × Each (IsMarked f) piece.uses

same_some : {A : Type 0} (x y : A) → ◌≡◌ {A = Option A} (Some x) (Some y) → x ≡ y
same_some x y e = cc

module _ (p : Posed) (nogoods : List (List Atomic)) (place : ℕ) (piece : Piece) (old new : Found)
    (h : IsFound p nogoods old) (marked : IsMarked old place) (is : justification p nogoods place ≡ Some piece) (uses : Each (λ u. u < length old.marks.items) piece.uses) (k : Keeps place piece old new) where
  has_here : Has p nogoods new place piece
  has_here = (
    kept-marked place piece old new k place marked,
    is,
    Each-from_among (IsMarked new) piece.uses (λ u a. kept-uses place piece old new k u (Each-among (λ (v : ℕ). v < length old.marks.items) piece.uses uses u a) a),
  )

  has_there : (i : ℕ) (q : Piece) → found_at old i ≡ Some q → Has p nogoods new i q
  has_there i q e =
      let r = h.justified i q e in
      (kept-marked place piece old new k i r.0, r.1, Each-weaker (IsMarked old) (IsMarked new) (kept-marked place piece old new k) q.uses r.2)

  has_kept : (i : ℕ) (q : Piece) → found_at new i ≡ Some q → Has p nogoods new i q
  has_kept i q e =
      let there : place < length old.marks.items = marked-within old place marked in
      let within : place < length old.pieces.items = omega (arith, h.marks, h.pieces) in
      let set_is : get_or (set old.pieces.items place (Some piece)) i None ≡ Some q = ap (λ (xs : List (Option Piece)). get_or xs i None) (sym k.pieces) ∙ e in
      elim (eqb_tells place i) [
        | inl c ↦
            let same : piece ≡ q = same_some piece q (sym (get_or-set_same old.pieces.items place (Some piece) None within) ∙ (ap (λ (n : ℕ). get_or (set old.pieces.items place (Some piece)) n None) c.1 ∙ set_is)) in
            subst (λ (n : ℕ). Has p nogoods new n q) c.1 (subst (λ (r : Piece). Has p nogoods new place r) same has_here)
        | inr c ↦ has_there i q (sym (get_or-set_other old.pieces.items place i (Some piece) None (λ same. c.1 (sym same))) ∙ set_is)
      ]

  pub keeps-found : IsFound p nogoods new
  keeps-found = record {
    marks = k.count ∙ h.marks;
    pieces = ap length k.pieces ∙ length-set old.pieces.items place (Some piece) ∙ h.pieces;
    conclusion = kept-marked place piece old new k (last_of nogoods) h.conclusion;
    met = λ i m. elim (kept-cases place piece old new k i m) [
      | inl e ↦ h.met i e
      | inr a ↦ λ set closed. closed.used place i (h.met place marked set closed) (subst (λ (o : Option Piece). Among i (uses_in o)) (sym is) a)
    ];
    justified = has_kept;
    within = omega (arith, k.from, h.within);
    failing = λ some.
        let before : 0 < old.from = omega (arith, k.from) in
        let r = h.failing before in
        subst (λ (n : ℕ). IsMarked new (n - 1) × (justification p nogoods (n - 1) ≡ None)) (sym k.from) (kept-marked place piece old new k (old.from - 1) r.0, r.1);
  }

-- ---- a place fails

max_cases : (a b : ℕ) → (max a b ≡ a) ⊎ (max a b ≡ b)
max_cases a b = elim (cases_lt a b) [ inl l ↦ inr (omega arith) | inr l ↦ inl (omega arith) ]

before_next : (P : ℕ → Type 0) (n place : ℕ) → n ≡ place + 1 → P place → P (n - 1)
before_next P n place e h = let same : place ≡ n - 1 = omega arith in subst P same h

module _ (place : ℕ) (old new : Found) (k : Fails place old new) where
  failed-marked : (i : ℕ) → IsMarked old i → IsMarked new i
  failed-marked i h = ap (λ (xs : List Bool). get_or xs i false) k.marks ∙ h

  failed-before : (i : ℕ) → IsMarked new i → IsMarked old i
  failed-before i h = ap (λ (xs : List Bool). get_or xs i false) (sym k.marks) ∙ h

module _ (p : Posed) (nogoods : List (List Atomic)) (place : ℕ) (old new : Found) (h : IsFound p nogoods old) (marked : IsMarked old place) (is : justification p nogoods place ≡ None) (k : Fails place old new) where
  fails_justified : (i : ℕ) (q : Piece) → found_at new i ≡ Some q → Has p nogoods new i q
  fails_justified i q e =
      let r = h.justified i q (ap (λ (xs : List (Option Piece)). get_or xs i None) (sym k.pieces) ∙ e) in
      (failed-marked place old new k i r.0, r.1, Each-weaker (IsMarked old) (IsMarked new) (failed-marked place old new k) q.uses r.2)

  fails_failing : 0 < new.from → IsMarked new (new.from - 1) × (justification p nogoods (new.from - 1) ≡ None)
  fails_failing some = elim (max_cases old.from (place + 1)) [
    | inl e ↦
        let same : new.from ≡ old.from = k.from ∙ e in
        let before : 0 < old.from = omega arith in
        let r = h.failing before in
        subst (λ (n : ℕ). IsMarked new (n - 1) × (justification p nogoods (n - 1) ≡ None)) (sym same) (failed-marked place old new k (old.from - 1) r.0, r.1)
    | inr e ↦ before_next (λ (n : ℕ). IsMarked new n × (justification p nogoods n ≡ None)) new.from place (k.from ∙ e) (failed-marked place old new k place marked, is)
  ]

  pub fails-found : IsFound p nogoods new
  fails-found = record {
    marks = ap length k.marks ∙ h.marks;
    pieces = ap length k.pieces ∙ h.pieces;
    conclusion = failed-marked place old new k (last_of nogoods) h.conclusion;
    met = λ i m. h.met i (failed-before place old new k i m);
    justified = fails_justified;
    within =
        let there : place < length old.marks.items = marked-within old place marked in
        let room : place + 1 ≤ length nogoods = omega (arith, h.marks) in
        elim (max_cases old.from (place + 1)) [ inl e ↦ omega (arith, k.from ∙ e, h.within) | inr e ↦ omega (arith, k.from ∙ e) ];
    failing = fails_failing;
  }

-- ---- an answer is taken in

pub taken-marked : (place : ℕ) (answer : Option Piece) (old new : Found) → TakesIn place answer old new → (i : ℕ) → IsMarked old i → IsMarked new i
taken-marked place (Some piece) old new k i h = kept-marked place piece old new k i h
taken-marked place None old new k i h = failed-marked place old new k i h

-- what an answer uses has marks
pub answer-within : (p : Csp) (nogoods : List (List Atomic)) (f : Found) (place : ℕ) (answer : Option Piece) → AreGiven p nogoods → IsFound (posed p) nogoods f → IsMarked f place
    → answer ≡ justification (posed p) nogoods place → Each (λ u. u < length f.marks.items) (uses_in answer)
answer-within p nogoods f place None given h marked is = tt
answer-within p nogoods f place (Some piece) given h marked is =
    let there : place < length f.marks.items = marked-within f place marked in
    uses-within p nogoods place (length f.marks.items) piece (Some piece) piece.uses given.problem given.variables (omega (arith, h.marks)) h.marks is refl refl

pub taken-found : (p : Csp) (nogoods : List (List Atomic)) (place : ℕ) (answer : Option Piece) (old new : Found) → AreGiven p nogoods → IsFound (posed p) nogoods old → IsMarked old place
    → answer ≡ justification (posed p) nogoods place → TakesIn place answer old new → IsFound (posed p) nogoods new
taken-found p nogoods place (Some piece) old new given h marked is k =
    keeps-found (posed p) nogoods place piece old new h marked (sym is) (answer-within p nogoods old place (Some piece) given h marked is) k
taken-found p nogoods place None old new given h marked is k = fails-found (posed p) nogoods place old new h marked (sym is) k

-- ---- pending places

none_is : {A : Type 0} (o : Option A) → is_none o ≡ true → o ≡ None
none_is None e = refl
none_is (Some x) e = absurd (both_ways false refl e)

pub pending-parts : (f : Found) (i : ℕ) → is_pending f i ≡ true → (f.from ≤ i) × IsMarked f i × (found_at f i ≡ None)
pending-parts f i e =
    let r = and_parts (nat_le f.from i && get_or f.marks.items i false) (is_none (found_at f i)) e in
    let s = and_parts (nat_le f.from i) (get_or f.marks.items i false) r.0 in
    (leb-true f.from i s.0, s.1, none_is (found_at f i) r.1)

one_here : (b : Bool) (i : ℕ) → b ≡ true → Among i (cond b (i ∷ []) [])
one_here b i e = subst (λ (c : Bool). Among i (cond c (i ∷ []) [])) (sym e) (inl refl)

-- each pending place is in the wave
pub wave-has : (f : Found) (n i : ℕ) → i < n → is_pending f i ≡ true → Among i (wave f n)
wave-has f zero i l e = absurd (omega arith)
wave-has f (suc n) i l e = elim (cases_lt i n) [
  | inl below ↦ Among-append_left i (wave f n) (pending_at f n) (wave-has f n i below e)
  | inr at ↦
      let same : i ≡ n = omega arith in
      Among-append_right i (wave f n) (pending_at f n) (subst (λ (m : ℕ). Among i (pending_at f m)) same (one_here (is_pending f i) i e))
]

abbrev IsInWave : Found → ℕ → ℕ → Type 0
IsInWave f n i = (i < n) × (is_pending f i ≡ true)

one_each : (f : Found) (n : ℕ) (b : Bool) → is_pending f n ≡ b → Each (IsInWave f (suc n)) (cond b (n ∷ []) [])
one_each f n false e = tt
one_each f n true e = ((omega arith, e), tt)

-- and each place of the wave is pending
pub wave-each : (f : Found) (n : ℕ) → Each (IsInWave f n) (wave f n)
wave-each f zero = tt
wave-each f (suc n) =
    Each-append (IsInWave f (suc n)) (wave f n) (pending_at f n)
    (Each-weaker (IsInWave f n) (IsInWave f (suc n)) (λ i h. let l : i < n = h.0 in (omega arith, h.1)) (wave f n) (wave-each f n))
    (one_each f n (is_pending f n) refl)

-- ---- what is left

missing_le : (xs : List (Option Piece)) (i : ℕ) (q : Piece) → missing (set xs i (Some q)) ≤ missing xs
missing_le [] i q = omega arith
missing_le (None ∷ xs) zero q = omega arith
missing_le (Some r ∷ xs) zero q = omega arith
missing_le (None ∷ xs) (suc i) q = let less : missing (set xs i (Some q)) ≤ missing xs = missing_le xs i q in omega arith
missing_le (Some r ∷ xs) (suc i) q = missing_le xs i q

missing_lt : (xs : List (Option Piece)) (i : ℕ) (q : Piece) → i < length xs → get_or xs i None ≡ None → missing (set xs i (Some q)) < missing xs
missing_lt [] i q l e = absurd (omega arith)
missing_lt (None ∷ xs) zero q l e = omega arith
missing_lt (Some r ∷ xs) zero q l e = absurd (no_some r (sym e))
missing_lt (None ∷ xs) (suc i) q l e = let less : missing (set xs i (Some q)) < missing xs = missing_lt xs i q (omega arith) e in omega arith
missing_lt (Some r ∷ xs) (suc i) q l e = missing_lt xs i q (omega arith) e

kept_missing : (place : ℕ) (piece : Piece) (old new : Found) → Keeps place piece old new → missing new.pieces.items ≡ missing (set old.pieces.items place (Some piece))
kept_missing place piece old new k = ap missing k.pieces

kept_length : (place : ℕ) (piece : Piece) (old new : Found) → Keeps place piece old new → length new.pieces.items ≡ length old.pieces.items
kept_length place piece old new k = ap length k.pieces ∙ length-set old.pieces.items place (Some piece)

-- no answer leaves more
pub taken-no_more : (place : ℕ) (answer : Option Piece) (old new : Found) → TakesIn place answer old new → left new ≤ left old
taken-no_more place (Some piece) old new k =
    omega (arith, kept_missing place piece old new k, kept_length place piece old new k, missing_le old.pieces.items place piece, k.from)
taken-no_more place None old new k = elim (max_cases old.from (place + 1)) [
  | inl e ↦ omega (arith, ap missing k.pieces, ap length k.pieces, k.from ∙ e)
  | inr e ↦
      let most : old.from ≤ max old.from (place + 1) = elim (cases_lt old.from (place + 1)) [ inl l ↦ omega arith | inr l ↦ omega arith ] in
      omega (arith, ap missing k.pieces, ap length k.pieces, k.from)
]

-- the answer for a pending place leaves less
pub taken-less : (place : ℕ) (answer : Option Piece) (old new : Found) → TakesIn place answer old new → is_pending old place ≡ true → place < length old.pieces.items → left new < left old
taken-less place (Some piece) old new k e l =
    omega (arith, kept_missing place piece old new k, kept_length place piece old new k, missing_lt old.pieces.items place piece l (pending-parts old place e).2, k.from)
taken-less place None old new k e l =
    let from : old.from ≤ place = (pending-parts old place e).0 in
    let next : new.from ≡ place + 1 = k.from ∙ (let m : max old.from (place + 1) ≡ place + 1 = omega arith in m) in
    omega (arith, ap missing k.pieces, ap length k.pieces)
