-- What a hint takes away: values of the one variable on which it still has an open atom.
use Rattle.std.proofs.Common.{◌≡◌, ℕ, ◌<◌, Bool, true, false, not, ◌&&◌, ◌||◌, List, [], ◌∷◌, length, ℤ, eqb, cond, refl, sym, ◌∙◌, ap, subst, inl, inr}
use Rattle.std.specs.List.{filter, list_all}
use Rattle.std.proofs.lemmas.Bool.{both_ways, cases_eq, eqb-true, eq-eqb, false_from_ne_true, not_from_false, not_from_true, and_from, and_parts, or_cases, or_parts}
use Rattle.std.proofs.lemmas.List.{length-set, get_or-set_same, get_or-set_other, get_or_default, same_lists}
use Rattle.dp_base.specs.Lists.{Among}
use Rattle.dp_base.proofs.Lists.{filter-whole, list_all-at, list_all-from, list_all-fails, list_all-not, list_any-at, list_any-not}
use Rattle.dp_domain.specs.Atoms.{Atomic, meets}
use Rattle.dp_domain.specs.States.{Domains, values, cut, entails, entails_all, fails_one, refuted}
use Rattle.dp_domain.proofs.AtomLaws.{meets-eq}
use Rattle.dp_domain.proofs.StateLaws.{Among-cut_all, Among-cut_meets, values-cut_other, entails-at, entails-from}
use Rattle.dp_parts.specs.Rules.{cut_hint, «is»}
use Rattle.dp_parts.proofs.RuleLaws.{length-keep_where, values-keep_where, entails-is_other, one_meets, meets_one}

filter-whole_list : (p : ℤ → Bool) (xs : List ℤ) → ((v : ℤ) → Among v xs → p v ≡ true) → filter p xs ≡ xs
filter-whole_list p xs f = filter-whole p xs (list_all-from p xs f)

keep_one : (b : Bool) (x : ℤ) (xs ys : List ℤ) → xs ≡ ys → (cond b (x ∷ xs) xs) ≡ (cond b (x ∷ ys) ys)
keep_one b x xs ys e = ap (λ (zs : List ℤ). cond b (x ∷ zs) zs) e

-- filters by tests that agree on the items are one
filter-agree : (p q : ℤ → Bool) (xs : List ℤ) → ((v : ℤ) → Among v xs → p v ≡ q v) → filter p xs ≡ filter q xs
filter-agree p q [] f = refl
filter-agree p q (x ∷ xs) f =
    ap (λ (b : Bool). cond b (x ∷ filter p xs) (filter p xs)) (f x (inl refl))
    ∙ keep_one (q x) x (filter p xs) (filter q xs) (filter-agree p q xs (λ v h. f v (inr h)))

same_states : (d e : Domains) → length d ≡ length e → ((x : ℕ) → x < length d → values d x ≡ values e x) → d ≡ e
same_states d e count f = same_lists d e count (λ k vs h.
    get_or_default d k vs [] h ∙ f k h ∙ sym (get_or_default e k vs [] (subst (λ (n : ℕ). k < n) count h)))

module _ (d : Domains) (denial : List Atomic) where
  -- a variable that is not an open atom's loses nothing
  kept_by_open : (a : Atomic) → Among a denial → entails d a ≡ false → (x : ℕ) (v : ℤ) → (a.var ≡ x → ⊥) → not (entails_all (cut d («is» x v)) denial) ≡ true
  kept_by_open a here lacks x v apart =
      not_from_false (entails_all (cut d («is» x v)) denial) (list_all-not (entails (cut d («is» x v))) denial a here (entails-is_other d x v a apart ∙ lacks))

  -- with open atoms on two variables a hint takes nothing away
  pub cut_hint-passed : (a : Atomic) → Among a denial → entails d a ≡ false
      → list_all (λ b. eqb b.var a.var || entails d b) denial ≡ false → cut_hint d denial ≡ d
  cut_hint-passed a here lacks rests =
      let other : (b : Atomic) × Among b denial × ((eqb b.var a.var || entails d b) ≡ false) = list_all-fails (λ b. eqb b.var a.var || entails d b) denial rests in
      let parts : (eqb other.0.var a.var ≡ false) × (entails d other.0 ≡ false) = or_parts (eqb other.0.var a.var) (entails d other.0) other.2 in
      same_states (cut_hint d denial) d (length-keep_where (λ x v. not (entails_all (cut d («is» x v)) denial)) d) (λ x lt.
      values-keep_where (λ y v. not (entails_all (cut d («is» y v)) denial)) d x
      ∙ filter-whole_list (λ v. not (entails_all (cut d («is» x v)) denial)) (values d x) (λ v h.
      elim (cases_eq a.var x) [
        | inl e ↦ kept_by_open other.0 other.1 parts.1 x v (λ k. both_ways (eqb other.0.var a.var) parts.0 (eq-eqb other.0.var a.var (k ∙ sym e)))
        | inr n ↦ kept_by_open a here lacks x v n
      ]))

  fails_none : (x : ℕ) (v : ℤ) → Among v (values d x) → entails_all (cut d («is» x v)) denial ≡ true → fails_one x denial v ≡ false
  fails_none x v h e = list_any-not (λ a. eqb a.var x && not (meets a v)) denial (λ a here.
      false_from_ne_true (eqb a.var x && not (meets a v)) (λ both.
      let so : (eqb a.var x ≡ true) × (not (meets a v) ≡ true) = and_parts (eqb a.var x) (not (meets a v)) both in
      let m : meets a v ≡ true = one_meets d x v a h (eqb-true a.var x so.0) (list_all-at (entails (cut d («is» x v))) denial a e here) in
      both_ways (not (meets a v)) (not_from_true (meets a v) m) so.1))

  fails_some : (x : ℕ) (v : ℤ) → list_all (λ b. eqb b.var x || entails d b) denial ≡ true → entails_all (cut d («is» x v)) denial ≡ false → fails_one x denial v ≡ true
  fails_some x v rests e =
      let found : (a : Atomic) × Among a denial × (entails (cut d («is» x v)) a ≡ false) = list_all-fails (entails (cut d («is» x v))) denial e in
      let a : Atomic = found.0 in
      elim (cases_eq a.var x) [
        | inl on ↦
            let m : meets a v ≡ false = false_from_ne_true (meets a v) (λ t. both_ways (entails (cut d («is» x v)) a) found.2 (meets_one d x v a on t)) in
            list_any-at (λ b. eqb b.var x && not (meets b v)) denial a found.1
            (and_from (eqb a.var x) (not (meets a v)) (eq-eqb a.var x on) (not_from_false (meets a v) m))
        | inr off ↦ absurd (elim (or_cases (eqb a.var x) (entails d a) (list_all-at (λ b. eqb b.var x || entails d b) denial a rests found.1)) [
          | inl on ↦ off (eqb-true a.var x on)
          | inr t ↦ both_ways (entails d a) (sym (entails-is_other d x v a off) ∙ found.2) t
        ])
      ]

  stays_where_fails : (x : ℕ) (v : ℤ) → Among v (values d x) → list_all (λ b. eqb b.var x || entails d b) denial ≡ true
      → (t : Bool) → entails_all (cut d («is» x v)) denial ≡ t → not (entails_all (cut d («is» x v)) denial) ≡ fails_one x denial v
  stays_where_fails x v h rests true e = ap not e ∙ sym (fails_none x v h e)
  stays_where_fails x v h rests false e = ap not e ∙ sym (fails_some x v rests e)

  -- with open atoms on one variable a hint takes away the values that meet all of its atoms there
  pub cut_hint-refuted : (a : Atomic) → Among a denial → entails d a ≡ false → a.var < length d
      → list_all (λ b. eqb b.var a.var || entails d b) denial ≡ true → cut_hint d denial ≡ refuted d a.var denial
  cut_hint-refuted a here lacks within rests =
      let keep : ℕ → ℤ → Bool = λ x v. not (entails_all (cut d («is» x v)) denial) in
      let left : List ℤ = filter (fails_one a.var denial) (values d a.var) in
      same_states (cut_hint d denial) (refuted d a.var denial) (length-keep_where keep d ∙ sym (length-set d a.var left)) (λ x lt.
      values-keep_where keep d x ∙ elim (cases_eq x a.var) [
        | inl e ↦
            subst (λ (y : ℕ). filter (keep y) (values d y) ≡ values (refuted d a.var denial) y) (sym e)
            (filter-agree (keep a.var) (fails_one a.var denial) (values d a.var) (λ v h. stays_where_fails a.var v h rests (entails_all (cut d («is» a.var v)) denial) refl)
            ∙ sym (get_or-set_same d a.var left [] within))
        | inr n ↦
            filter-whole_list (keep x) (values d x) (λ v h. kept_by_open a here lacks x v (λ k. n (sym k)))
            ∙ sym (get_or-set_other d a.var x left [] n)
      ])
