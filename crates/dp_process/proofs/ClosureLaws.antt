-- The places that are met: what is computed is in each closed set, and with a met place it has those that it uses.
use Rattle.std.proofs.Common.{◌≡◌, ℕ, zero, suc, ◌+◌, ◌-◌, ◌<◌, ◌≤◌, Bool, true, ◌&&◌, ◌⊎◌, List, length, refl, sym, ◌∙◌, ap, subst, inl, inr, arith}
use Rattle.std.specs.Prelude.{nat_eq}
use Rattle.std.specs.List.{list_any}
use Rattle.std.proofs.lemmas.Bool.{and_from, and_parts, eq-eqb, eqb-true, or_cases, or_left, or_right}
use Rattle.dp_base.specs.Lists.{Among}
use Rattle.dp_base.proofs.Lists.{list_any-at, list_any-some}
use Rattle.dp_domain.specs.Atoms.{Atomic}
use Rattle.dp_parts.specs.Posed.{Posed}
use Rattle.dp_process.specs.Met.{IsClosed, IsMet, is_met, last_of, met_by, uses_at}

-- a number that a test finds is listed
listed : (i : ℕ) (xs : List ℕ) → list_any (nat_eq i) xs ≡ true → Among i xs
listed i xs e = let s = list_any-some (nat_eq i) xs e in subst (λ (x : ℕ). Among x xs) (sym (eqb-true i s.0 s.2)) s.1

-- each place uses places below it alone
abbrev pub UsesBelow : (ℕ → List ℕ) → ℕ → Type 0
UsesBelow uses last = (j i : ℕ) → j ≤ last → Among i (uses j) → i < j

module _ (uses : ℕ → List ℕ) (last : ℕ) where
  -- a place that is met after one more place was, or is used by that one
  cases_met : (k i : ℕ) → met_by uses last (suc k) i ≡ true → (met_by uses last k i ≡ true) ⊎ ((met_by uses last k (last - k) ≡ true) × Among i (uses (last - k)))
  cases_met k i e = elim (or_cases (met_by uses last k i) (met_by uses last k (last - k) && list_any (nat_eq i) (uses (last - k))) e) [
    | inl h ↦ inl h
    | inr h ↦ let r = and_parts (met_by uses last k (last - k)) (list_any (nat_eq i) (uses (last - k))) h in inr (r.0, listed i (uses (last - k)) r.1)
  ]

  -- a place stays met with more places
  met-later : (n k m i : ℕ) → n + k ≡ m → met_by uses last k i ≡ true → met_by uses last m i ≡ true
  met-later zero k m i h e = let same : k ≡ m = omega arith in subst (λ (x : ℕ). met_by uses last x i ≡ true) same e
  met-later (suc n) k zero i h e = absurd (omega arith)
  met-later (suc n) k (suc m) i h e =
      or_left (met_by uses last m i) (met_by uses last m (last - m) && list_any (nat_eq i) (uses (last - m))) (met-later n k m i (omega arith) e)

  -- the last place is met
  pub met-last : (m : ℕ) → met_by uses last m last ≡ true
  met-last m = met-later m zero m last (omega arith) (eq-eqb last last refl)

  -- a place that is met is met by the places above it
  met-early : UsesBelow uses last → (m j : ℕ) → j ≤ last → met_by uses last m j ≡ true → met_by uses last (last - j) j ≡ true
  met-early below zero j within e = met-later (last - j) zero (last - j) j (omega arith) e
  met-early below (suc k) j within e = elim (cases_met k j e) [
    | inl h ↦ met-early below k j within h
    | inr h ↦ let less : j < last - k = below (last - k) j (omega arith) h.1 in met-later ((last - j) - suc k) (suc k) (last - j) j (omega arith) e
  ]

  -- what a met place uses is met
  pub met-used : UsesBelow uses last → (m j i : ℕ) → last < m → j ≤ last → met_by uses last m j ≡ true → Among i (uses j) → met_by uses last m i ≡ true
  met-used below m j i enough within e used =
      let same : j ≡ last - (last - j) = omega arith in
      let early : met_by uses last (last - j) (last - (last - j)) ≡ true =
      subst (λ (x : ℕ). met_by uses last (last - j) x ≡ true) same (met-early below m j within e) in
      let one : met_by uses last (suc (last - j)) i ≡ true =
      or_right (met_by uses last (last - j) i) (met_by uses last (last - j) (last - (last - j)) && list_any (nat_eq i) (uses (last - (last - j))))
      (and_from (met_by uses last (last - j) (last - (last - j))) (list_any (nat_eq i) (uses (last - (last - j)))) early
      (list_any-at (nat_eq i) (uses (last - (last - j))) i (subst (λ (x : ℕ). Among i (uses x)) same used) (eq-eqb i i refl))) in
      met-later (m - suc (last - j)) (suc (last - j)) m i (omega arith) one

-- what is computed is in each closed set
met-closed : (p : Posed) (nogoods : List (List Atomic)) (set : ℕ → Bool) → IsClosed p nogoods set → (k i : ℕ) → met_by (uses_at p nogoods) (last_of nogoods) k i ≡ true → set i ≡ true
met-closed p nogoods set closed zero i e = ap set (eqb-true i (last_of nogoods) e) ∙ closed.conclusion
met-closed p nogoods set closed (suc k) i e = elim (cases_met (uses_at p nogoods) (last_of nogoods) k i e) [
  | inl h ↦ met-closed p nogoods set closed k i h
  | inr h ↦ closed.used (last_of nogoods - k) i (met-closed p nogoods set closed k (last_of nogoods - k) h.0) h.1
]

-- and so it is met
pub met-is : (p : Posed) (nogoods : List (List Atomic)) (i : ℕ) → is_met p nogoods i ≡ true → IsMet p nogoods i
met-is p nogoods i e set closed = met-closed p nogoods set closed (length nogoods) i e
