-- What is told when no place is pending.
use Rattle.std.proofs.Common.{◌≡◌, ℕ, zero, suc, ◌+◌, ◌-◌, ◌<◌, ◌≤◌, Bool, true, false, cond, ◌||◌, ◌&&◌, ◌==◌, ◌⊎◌, List, [], ◌∷◌, ◌++◌, length, replicate, get_or, drop, reverse, Option, Some, None, refl, sym, ◌∙◌, ap, subst, inl, inr, arith}
use Rattle.std.specs.Prelude.{is_none, is_some, nat_le, nat_lt}
use Rattle.std.proofs.lemmas.Bool.{and_from, both_ways, cases_lt, eq-eqb, eqb-true, le-leb, lt-ltb, ltb-true, or_cases, or_left, or_right}
use Rattle.std.proofs.lemmas.List.{drop_all, drop_more, get_or-replicate, get_or_past, length-replicate, reverse-append}
use Rattle.dp_base.specs.Lists.{Among, Each}
use Rattle.dp_base.proofs.Lists.{Each-among}
use Rattle.dp_domain.specs.Atoms.{Atomic}
use Rattle.dp_justify.specs.Pieces.{justification}
use Rattle.dp_justify.specs.declared.piece.Piece.{Piece}
use Rattle.dp_parts.specs.Posed.{Posed}
use Rattle.dp_parts.specs.Problems.{Csp, posed}
use Rattle.dp_process.specs.Marks.{AreJustified, AreMarked, IsJustified, piece_at, pieces_down}
use Rattle.dp_process.specs.Met.{Follows, IsClosed, IsFailing, IsMet, is_met, last_of, uses_at, uses_in}
use Rattle.dp_process.specs.Waves.{IsFound, IsMarked, Tells, found_at, wave}
use Rattle.dp_process.specs.declared.found.Found.{Found}
use Rattle.dp_process.specs.declared.met.Justified.{Justified}
use Rattle.dp_process.specs.declared.met.Justified.TheVariants.{All, Failing}
use Rattle.dp_process.proofs.MarkLaws.{AreGiven, given-below}
use Rattle.dp_process.proofs.MetLaws.{met-from, met-is}
use Rattle.dp_process.proofs.PieceLaws.{justified-follows}
use Rattle.dp_process.proofs.WaveLaws.{marked-within, wave-has}

-- ---- at first

no_some : {A : Type 0} (x : A) → ◌≡◌ {A = Option A} None (Some x) → ⊥
no_some x e = cc

nothing_at : (n i : ℕ) (piece : Piece) → get_or (replicate n None) i None ≡ Some piece → ⊥
nothing_at n i piece e = elim (cases_lt i n) [
  | inl l ↦ no_some piece (sym (get_or-replicate n i None None l) ∙ e)
  | inr l ↦ no_some piece (sym (get_or_past (replicate n None) i None (omega (arith, length-replicate {A = Option Piece} n None))) ∙ e)
]

-- the conclusion alone is marked
pub nothing-found : (p : Posed) (nogoods : List (List Atomic)) (f : Found) (n : ℕ) → n ≡ length nogoods → 0 < n → length f.marks.items ≡ n → AreMarked f.marks.items (λ i. i == n - 1)
    → f.pieces.items ≡ replicate n None → f.from ≡ 0 → IsFound p nogoods f
nothing-found p nogoods f n at some count marks pieces from = record {
  marks = count ∙ at;
  pieces = ap length pieces ∙ length-replicate n None ∙ at;
  conclusion = (let there : last_of nogoods < length f.marks.items = omega arith in let same : last_of nogoods ≡ n - 1 = omega arith in marks (last_of nogoods) there ∙ eq-eqb (last_of nogoods) (n - 1) same);
  met = λ i m set closed.
      let last : i ≡ n - 1 = eqb-true i (n - 1) (sym (marks i (marked-within f i m)) ∙ m) in
      let same : i ≡ last_of nogoods = omega arith in
      subst (λ (j : ℕ). set j ≡ true) (sym same) closed.conclusion;
  justified = λ i piece e. absurd (nothing_at n i piece (ap (λ (xs : List (Option Piece)). get_or xs i None) (sym pieces) ∙ e));
  within = omega arith;
  failing = λ h. absurd (omega arith);
}

-- ---- no place is pending

not_among : {A : Type 0} (x : A) (xs : List A) → xs ≡ [] → Among x xs → ⊥
not_among x xs e a = subst (λ ys. Among x ys) e a

module _ (p : Csp) (nogoods : List (List Atomic)) (f : Found) (given : AreGiven p nogoods) (h : IsFound (posed p) nogoods f) (done : wave f (length nogoods) ≡ []) where
  is_given : (i : ℕ) (o : Option Piece) → f.from ≤ i → IsMarked f i → found_at f i ≡ o → (piece : Piece) × (found_at f i ≡ Some piece)
  is_given i (Some piece) from marked e = (piece, e)
  is_given i None from marked e =
      let there : i < length f.marks.items = marked-within f i marked in
      let within : i < length nogoods = omega (arith, h.marks) in
      absurd (not_among i (wave f (length nogoods)) done (wave-has f (length nogoods) i within
      (and_from (nat_le f.from i && get_or f.marks.items i false) (is_none (found_at f i))
      (and_from (nat_le f.from i) (get_or f.marks.items i false) (le-leb f.from i from) marked)
      (ap is_none e))))

  -- a marked place from there on is justified
  is_justified : (i : ℕ) → f.from ≤ i → IsMarked f i → (piece : Piece) × (found_at f i ≡ Some piece) × (justification (posed p) nogoods i ≡ Some piece) × Each (IsMarked f) piece.uses
  is_justified i from marked =
      let g = is_given i (found_at f i) from marked refl in
      let r = h.justified i g.0 g.1 in
      (g.0, g.1, r.1, r.2)

  -- the places that are marked, and all that stand below
  abbrev covered : ℕ → Bool
  covered i = get_or f.marks.items i false || nat_lt i f.from

  covered_cases : (i : ℕ) → covered i ≡ true → IsMarked f i ⊎ (i < f.from)
  covered_cases i e = elim (or_cases (get_or f.marks.items i false) (nat_lt i f.from) e) [ inl m ↦ inl m | inr l ↦ inr (ltb-true i f.from l) ]

  below_covered : (j u : ℕ) → j < f.from → Among u (uses_at (posed p) nogoods j) → covered u ≡ true
  below_covered j u l a =
      let within : j ≤ last_of nogoods = omega (arith, h.within) in
      let less : u < j = given-below p nogoods given j u within a in
      or_right (get_or f.marks.items u false) (nat_lt u f.from) (lt-ltb u f.from (omega arith))

  marked_covered : (j u : ℕ) → f.from ≤ j → IsMarked f j → Among u (uses_at (posed p) nogoods j) → covered u ≡ true
  marked_covered j u l m a =
      let r = is_justified j l m in
      or_left (get_or f.marks.items u false) (nat_lt u f.from)
      (Each-among (IsMarked f) r.0.uses r.3 u (subst (λ (o : Option Piece). Among u (uses_in o)) r.2 a))

  used_covered : (j u : ℕ) → covered j ≡ true → Among u (uses_at (posed p) nogoods j) → covered u ≡ true
  used_covered j u e a = elim (cases_lt j f.from) [
    | inl l ↦ below_covered j u l a
    | inr l ↦ elim (covered_cases j e) [ inl m ↦ marked_covered j u l m a | inr k ↦ absurd (omega arith) ]
  ]

  covered_closed : IsClosed (posed p) nogoods covered
  covered_closed = record { conclusion = or_left (get_or f.marks.items (last_of nogoods) false) (nat_lt (last_of nogoods) f.from) h.conclusion; used = used_covered }

  -- so each place from there on that is met is marked
  met_marked : (i : ℕ) → f.from ≤ i → IsMet (posed p) nogoods i → IsMarked f i
  met_marked i from met = elim (covered_cases i (met covered covered_closed)) [ inl m ↦ m | inr l ↦ absurd (omega arith) ]

  met_justified : (i : ℕ) → f.from ≤ i → IsMet (posed p) nogoods i → is_some (justification (posed p) nogoods i) ≡ true
  met_justified i from met = ap is_some (is_justified i from (met_marked i from met)).2

  met_follows : (i : ℕ) → f.from ≤ i → IsMet (posed p) nogoods i → Follows (posed p) nogoods i
  met_follows i from met = sym (justified-follows (posed p) nogoods i) ∙ met_justified i from met

  -- ---- the last place that fails

  fails_at : (place : ℕ) → f.from ≡ place + 1 → IsMarked f place × (justification (posed p) nogoods place ≡ None)
  fails_at place e =
      let some : 0 < f.from = omega arith in
      let same : f.from - 1 ≡ place = omega arith in
      subst (λ (n : ℕ). IsMarked f n × (justification (posed p) nogoods n ≡ None)) same (h.failing some)

  told_failing : (place : ℕ) → f.from ≡ place + 1 → IsFailing (posed p) nogoods place
  told_failing place e = record {
    stands = omega (arith, h.within);
    met = h.met place (fails_at place e).0;
    fails = λ follows. both_ways (is_some (justification (posed p) nogoods place)) (ap is_some (fails_at place e).1) (justified-follows (posed p) nogoods place ∙ follows);
    last = λ j l m met. met_follows j (omega arith) met;
  }

  -- ---- all justifications

  piece_is : (none : f.from ≡ 0) (i : ℕ) (b : Bool) (o : Option Piece) → is_met (posed p) nogoods i ≡ b → found_at f i ≡ o → o ≡ cond b (justification (posed p) nogoods i) None
  piece_is none i true o met e =
      let from : f.from ≤ i = omega arith in
      let r = is_justified i from (met_marked i from (met-from (posed p) nogoods i met)) in
      sym e ∙ r.1 ∙ sym r.2
  piece_is none i false None met e = refl
  piece_is none i false (Some piece) met e =
      absurd (both_ways (is_met (posed p) nogoods i) met (met-is (posed p) nogoods i (given-below p nogoods given) given.some (h.met i (h.justified i piece e).0)))

  piece_found : f.from ≡ 0 → (i : ℕ) → found_at f i ≡ piece_at (posed p) nogoods i
  piece_found none i = piece_is none i (is_met (posed p) nogoods i) (found_at f i) refl refl

  pieces_from : f.from ≡ 0 → (k : ℕ) → k ≤ length nogoods → reverse (drop (length nogoods - k) f.pieces.items) ≡ pieces_down (posed p) nogoods k
  pieces_from none zero l = ap reverse (drop_all (length nogoods - zero) f.pieces.items (omega (arith, h.pieces)))
  pieces_from none (suc k) l =
      let at : length nogoods - suc k ≡ last_of nogoods - k = omega arith in
      let next : length nogoods - suc k + 1 ≡ length nogoods - k = omega arith in
      let within : length nogoods - suc k < length f.pieces.items = omega (arith, h.pieces) in
      let piece : Option Piece = found_at f (length nogoods - suc k) in
      ap reverse (drop_more f.pieces.items (length nogoods - suc k) None within)
      ∙ reverse-append (piece ∷ []) (drop (length nogoods - suc k + 1) f.pieces.items)
      ∙ ap (λ (n : ℕ). reverse (drop n f.pieces.items) ++ piece ∷ []) next
      ∙ (λ j. pieces_from none k (omega arith) j ++ (piece_found none (length nogoods - suc k) ∙ ap (piece_at (posed p) nogoods) at) j ∷ [])

  told_all : f.from ≡ 0 → (pieces : List (Option Piece)) → pieces ≡ reverse f.pieces.items → AreJustified (posed p) nogoods 0 × (pieces ≡ pieces_down (posed p) nogoods (length nogoods))
  told_all none pieces e = (
    (λ j l m met. let from : f.from ≤ j = omega arith in met_justified j from (met-from (posed p) nogoods j met)),
    e
        ∙ ap (λ (n : ℕ). reverse (drop n f.pieces.items)) (let none : 0 ≡ length nogoods - length nogoods = omega arith in none)
        ∙ pieces_from none (length nogoods) (omega arith),
  )

  pub told : (r : Justified) → Tells f r → IsJustified (posed p) nogoods r
  told (All pieces) t = told_all t.0 pieces.items t.1
  told (Failing place) t = told_failing place t
