-- r goes on through each block, so it holds at last, which the model forbids.
use Rattle.std.proofs.Common.{◌≡◌, ℕ, zero, suc, ◌+◌, ◌-◌, Bool, true, false, not, ◌&&◌, ◌||◌, List, [], ◌∷◌, ◌++◌, refl, sym, ◌∙◌, subst, arith}
use Rattle.std.specs.List.{flat_map, list_all, range_with_len}
use Rattle.std.proofs.lemmas.List.Folds.{list_all-append}
use Rattle.dp_gen.specs.Family.{clauses, links, or_not, q, r}
use Rattle.dp_gen.specs.Laws.{GoesOn, NoSolution, meets}

-- ---- truth values

no : {A : Type 0} → false ≡ true → A
no h = cc

both : (a b : Bool) → (a && b) ≡ true → (a ≡ true) × (b ≡ true)
both true b h = (refl, h)
both false b h = (h, no h)

-- from the two clauses of a block, by what q says
through : (before after split : Bool)
    → (((after || (split || false)) || (not before || false)) && (((after || false) || (not before || (not split || false))) && true)) ≡ true
    → before ≡ true → after ≡ true
through before true split met held = refl
through false false split met held = held
through true false false met held = met
through true false true met held = met

holds : (b : Bool) → ((b || false) || false) ≡ true → b ≡ true
holds true h = refl
holds false h = h

clash : (b : Bool) → ((false || (not b || false)) && true) ≡ true → b ≡ true → ⊥
clash true met held = no met
clash false met held = no held

is_false : (b : Bool) → (b ≡ true → ⊥) → b ≡ false
is_false true h = absurd (h refl)
is_false false h = refl

-- ---- the blocks

pub goes_on : GoesOn
goes_on k value met held = through (value (r (k - 1))) (value (r k)) (value (q k)) met held

-- from r of j to r of the block m further on
chain : (value : List ℕ → Bool) (j m : ℕ) → list_all (meets value) (flat_map links (range_with_len (j + 1) m)) ≡ true → value (r j) ≡ true
    → value (r (j + m)) ≡ true
chain value j zero met held =
    let e : j ≡ j + 0 = omega arith in
    subst (λ (k : ℕ). value (r k) ≡ true) e held
chain value j (suc m) met held =
    let further = flat_map links (range_with_len (j + 1 + 1) m) in
    let parts = both (list_all (meets value) (links (j + 1))) (list_all (meets value) further) (sym (list_all-append (meets value) (links (j + 1)) further) ∙ met) in
    let back : j ≡ j + 1 - 1 = omega arith in
    let next : value (r (j + 1)) ≡ true = goes_on (j + 1) value parts.0 (subst (λ (k : ℕ). value (r k) ≡ true) back held) in
    let e : j + 1 + m ≡ j + suc m = omega arith in
    subst (λ (k : ℕ). value (r k) ≡ true) e (chain value (j + 1) m parts.1 next)

-- values that meet all clauses
refuted : (n : ℕ) (value : List ℕ → Bool) → list_all (meets value) (clauses n) ≡ true → ⊥
refuted n value met =
    let linked = flat_map links (range_with_len 1 n) in
    let last = or_not [] (r n ∷ []) ∷ [] in
    let first = both (meets value (or_not (r 0 ∷ []) [])) (list_all (meets value) (linked ++ last)) met in
    let parts = both (list_all (meets value) linked) (list_all (meets value) last) (sym (list_all-append (meets value) linked last) ∙ first.1) in
    let e : 0 + n ≡ n = omega arith in
    clash (value (r n)) parts.1 (subst (λ (k : ℕ). value (r k) ≡ true) e (chain value 0 n parts.0 (holds (value (r 0)) first.0)))

pub no_solution : NoSolution
no_solution n value = is_false (list_all (meets value) (clauses n)) (refuted n value)
