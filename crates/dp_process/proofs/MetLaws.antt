-- The places that are found going down are those that are met, where each place is used from above.
use Rattle.std.proofs.Common.{◌≡◌, ℕ, zero, suc, ◌-◌, ◌<◌, ◌≤◌, Bool, true, ◌&&◌, ◌⊎◌, List, length, refl, sym, subst, inl, inr, arith}
use Rattle.std.specs.Prelude.{nat_eq}
use Rattle.std.specs.List.{list_any}
use Rattle.std.proofs.Math.Nat.{le-suc_iff}
use Rattle.std.proofs.lemmas.Bool.{and_parts, and_from, eq-eqb, eqb-true, or_cases, or_left, or_right}
use Rattle.dp_base.specs.Lists.{Among}
use Rattle.dp_base.proofs.Lists.{list_any-at, list_any-some}
use Rattle.dp_domain.specs.Atoms.{Atomic}
use Rattle.dp_justify.proofs.NarrowLaws.{same_answer}
use Rattle.dp_parts.specs.Posed.{Posed}
use Rattle.dp_process.specs.Met.{IsClosed, IsMet, is_met, last_of, met_by, uses_at}

-- ---- the place is one of these

pub eq_of : (i : ℕ) (xs : List ℕ) → list_any (nat_eq i) xs ≡ true → Among i xs
eq_of i xs h =
    let found = list_any-some (nat_eq i) xs h in
    subst (λ (x : ℕ). Among x xs) (sym (eqb-true i found.0 found.2)) found.1

pub eq_for : (i : ℕ) (xs : List ℕ) → Among i xs → list_any (nat_eq i) xs ≡ true
eq_for i xs h = list_any-at (nat_eq i) xs i h (eq-eqb i i refl)

-- ---- going down

-- no place uses one that is not below it
abbrev pub UsesBelow : (ℕ → List ℕ) → ℕ → Type 0
UsesBelow uses last = (j i : ℕ) → j ≤ last → Among i (uses j) → i < j

-- what is met stays met further down
pub met-later : (uses : ℕ → List ℕ) (last m k i : ℕ) → k ≤ m → met_by uses last k i ≡ true → met_by uses last m i ≡ true
met-later uses last zero k i h e = let at : k ≡ 0 = omega arith in subst (λ (n : ℕ). met_by uses last n i ≡ true) at e
met-later uses last (suc m) k i h e = elim ((le-suc_iff {m = k} {n = m}).0 h) [
  | inl l ↦ or_left (met_by uses last m i) (met_by uses last m (last - m) && list_any (nat_eq i) (uses (last - m))) (met-later uses last m k i l e)
  | inr at ↦ subst (λ (n : ℕ). met_by uses last n i ≡ true) at e
]

-- it was met before, or the place that was looked at last uses it
step_cases : (uses : ℕ → List ℕ) (last k i : ℕ) → met_by uses last (suc k) i ≡ true
    → (met_by uses last k i ≡ true) ⊎ ((met_by uses last k (last - k) ≡ true) × Among i (uses (last - k)))
step_cases uses last k i e = elim (or_cases (met_by uses last k i) (met_by uses last k (last - k) && list_any (nat_eq i) (uses (last - k))) e) [
  | inl h ↦ inl h
  | inr h ↦ let used = and_parts (met_by uses last k (last - k)) (list_any (nat_eq i) (uses (last - k))) h in inr (used.0, eq_of i (uses (last - k)) used.1)
]

-- no place behind the last is met
pub met-within : (uses : ℕ → List ℕ) (last k i : ℕ) → UsesBelow uses last → met_by uses last k i ≡ true → i ≤ last
met-within uses last zero i below e = let at : i ≡ last = eqb-true i last e in omega arith
met-within uses last (suc k) i below e = elim (step_cases uses last k i e) [
  | inl h ↦ met-within uses last k i below h
  | inr h ↦ let less : i < last - k = below (last - k) i (omega arith) h.1 in omega arith
]

-- a place that is met is met before it is looked at
pub met-settled : (uses : ℕ → List ℕ) (last m k : ℕ) → UsesBelow uses last → k ≤ m → met_by uses last m (last - k) ≡ true → met_by uses last k (last - k) ≡ true
met-settled uses last zero k below h e = let at : 0 ≡ k = omega arith in subst (λ (n : ℕ). met_by uses last n (last - k) ≡ true) at e
met-settled uses last (suc m) k below h e = elim ((le-suc_iff {m = k} {n = m}).0 h) [
  | inl l ↦ elim (step_cases uses last m (last - k) e) [
    | inl g ↦ met-settled uses last m k below l g
    | inr g ↦ let less : last - k < last - m = below (last - m) (last - k) (omega arith) g.1 in absurd (omega arith)
  ]
  | inr at ↦ subst (λ (n : ℕ). met_by uses last n (last - k) ≡ true) (sym at) e
]

-- so whether it is met is known then
pub met-known : (uses : ℕ → List ℕ) (last m k : ℕ) → UsesBelow uses last → k ≤ m → met_by uses last k (last - k) ≡ met_by uses last m (last - k)
met-known uses last m k below h =
    same_answer (met_by uses last k (last - k)) (met_by uses last m (last - k)) (met-later uses last m k (last - k) h) (met-settled uses last m k below h)

-- and what it uses is met
used_next : (uses : ℕ → List ℕ) (last m k i : ℕ) → UsesBelow uses last → k < m → met_by uses last m (last - k) ≡ true → Among i (uses (last - k)) → met_by uses last m i ≡ true
used_next uses last m k i below h e a =
    met-later uses last m (suc k) i (omega arith)
    (or_right (met_by uses last k i) (met_by uses last k (last - k) && list_any (nat_eq i) (uses (last - k)))
    (and_from (met_by uses last k (last - k)) (list_any (nat_eq i) (uses (last - k))) (met-settled uses last m k below (omega arith) e) (eq_for i (uses (last - k)) a)))

pub met-uses : (uses : ℕ → List ℕ) (last m j i : ℕ) → UsesBelow uses last → last < m → met_by uses last m j ≡ true → Among i (uses j) → met_by uses last m i ≡ true
met-uses uses last m j i below h e a =
    let within : j ≤ last = met-within uses last m j below e in
    let at : j ≡ last - (last - j) = omega arith in
    used_next uses last m (last - j) i below (omega arith)
    (subst (λ (n : ℕ). met_by uses last m n ≡ true) at e) (subst (λ (n : ℕ). Among i (uses n)) at a)

-- ---- the places that are met

-- a place that is found lies in each set that has the conclusion's place and what it uses
met_set : (p : Posed) (nogoods : List (List Atomic)) (set : ℕ → Bool) → IsClosed p nogoods set → (k i : ℕ) → met_by (uses_at p nogoods) (last_of nogoods) k i ≡ true → set i ≡ true
met_set p nogoods set closed zero i e = subst (λ (n : ℕ). set n ≡ true) (sym (eqb-true i (last_of nogoods) e)) closed.conclusion
met_set p nogoods set closed (suc k) i e = elim (step_cases (uses_at p nogoods) (last_of nogoods) k i e) [
  | inl h ↦ met_set p nogoods set closed k i h
  | inr h ↦ closed.used (last_of nogoods - k) i (met_set p nogoods set closed k (last_of nogoods - k) h.0) h.1
]

pub met-from : (p : Posed) (nogoods : List (List Atomic)) (i : ℕ) → is_met p nogoods i ≡ true → IsMet p nogoods i
met-from p nogoods i e = λ set closed. met_set p nogoods set closed (length nogoods) i e

-- those that are found are such a set
pub met-last : (p : Posed) (nogoods : List (List Atomic)) → is_met p nogoods (last_of nogoods) ≡ true
met-last p nogoods = met-later (uses_at p nogoods) (last_of nogoods) (length nogoods) 0 (last_of nogoods) (omega arith) (eq-eqb (last_of nogoods) (last_of nogoods) refl)

pub met-closed : (p : Posed) (nogoods : List (List Atomic)) → UsesBelow (uses_at p nogoods) (last_of nogoods) → 0 < length nogoods → IsClosed p nogoods (is_met p nogoods)
met-closed p nogoods below some = record {
  conclusion = met-last p nogoods;
  used = λ j i e a. met-uses (uses_at p nogoods) (last_of nogoods) (length nogoods) j i below (omega arith) e a;
}

pub met-is : (p : Posed) (nogoods : List (List Atomic)) (i : ℕ) → UsesBelow (uses_at p nogoods) (last_of nogoods) → 0 < length nogoods → IsMet p nogoods i → is_met p nogoods i ≡ true
met-is p nogoods i below some met = met (is_met p nogoods) (met-closed p nogoods below some)
