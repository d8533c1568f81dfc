-- States that differ on one variable: where one of its sets has become smaller.
use Rattle.std.proofs.Common.{◌≡◌, ℕ, ◌<◌, Bool, true, false, List, [], ◌∷◌, length, set, Option, Some, None, map, ℤ, pos, ◌+ℤ◌, ◌*ℤ◌, refl, sym, ◌∙◌, ap, subst, inl, inr, arith}
use Rattle.std.specs.List.{filter, list_all}
use Rattle.std.specs.Prelude.{unwrap_or}
use Rattle.std.proofs.lemmas.Int.{ints}
use Rattle.std.proofs.lemmas.Bool.{both_ways, cases_eq, false_from_ne_true}
use Rattle.std.proofs.lemmas.List.{get_or-set_same, get_or-set_other, length-set}
use Rattle.dp_base.specs.Lists.{Among, Climbs, Each}
use Rattle.dp_base.proofs.Lists.{Among-filter_all, Each-among}
use Rattle.dp_domain.specs.Atoms.{Atomic, meets, negated}
use Rattle.dp_domain.specs.Conditions.{IsApart, in_force}
use Rattle.dp_domain.specs.Sets.{least}
use Rattle.dp_domain.specs.States.{Domains, cut, entails, is_dead, values}
use Rattle.dp_domain.proofs.AtomLaws.{negated-negated}
use Rattle.dp_domain.proofs.StateLaws.{alive-from, alive-value, entails-from_dead_cut, values-cut_other}
use Rattle.dp_rule_linear.specs.Forms.{least_product, least_sum, variables}
use Rattle.dp_rule_linear.specs.FormLaws.{least_sum-local, variable_of}

-- the second state is not dead, and the variables but one have the same values in both
pub record IsNarrowed (d e : Domains) (x : ℕ) : Type 0 where
  pub alive : is_dead e ≡ false
  pub others : (y : ℕ) → ¬ (y ≡ x) → values e y ≡ values d y

-- ---- narrowed states

-- a cut that does not empty the set
pub narrowed-cut : (d : Domains) (a : Atomic) → is_dead d ≡ false → entails d a ≡ false → IsNarrowed d (cut d (negated a)) a.var
narrowed-cut d a alive open_ = record {
  alive = false_from_ne_true (is_dead (cut d (negated a))) (λ t.
      both_ways (entails d a) open_ (subst (λ b. entails d b ≡ true) (negated-negated a) (entails-from_dead_cut d (negated a) alive t)));
  others = λ y n. values-cut_other d (negated a) y n;
}

-- the variable has these values
pub values-kept : (d : Domains) (x : ℕ) (ys : List ℤ) → x < length d → values (set d x ys) x ≡ ys
values-kept d x ys h = get_or-set_same d x ys [] h

kept_value : (d : Domains) (x : ℕ) (ys : List ℤ) (v : ℤ) → is_dead d ≡ false → Among v ys → (y : ℕ) → y < length (set d x ys) → (w : ℤ) × Among w (values (set d x ys) y)
kept_value d x ys v alive here y h =
    let l : y < length d = subst (λ n. y < n) (length-set d x ys) h in
    elim (cases_eq y x) [
      | inl e ↦ (v, subst (λ zs. Among v zs) (sym (values-kept d y ys l) ∙ ap (λ z. values (set d z ys) y) e) here)
      | inr n ↦ let r = alive-value d y alive l in (r.0, subst (λ zs. Among r.0 zs) (sym (get_or-set_other d x y ys [] n)) r.1)
    ]

-- a set of which some value is kept
pub narrowed-kept : (d : Domains) (x : ℕ) (p : ℤ → Bool) (v : ℤ) → is_dead d ≡ false → Among v (values d x) → p v ≡ true → IsNarrowed d (set d x (filter p (values d x))) x
narrowed-kept d x p v alive here t = record {
  alive = alive-from (set d x (filter p (values d x))) (kept_value d x (filter p (values d x)) v alive (Among-filter_all p (values d x) v here t));
  others = λ y n. get_or-set_other d x y (filter p (values d x)) [] n;
}

-- ---- conditions

-- a condition on another variable
pub in_force-other : (c : Option Atomic) (xs : List ℕ) (d e : Domains) (x : ℕ) → IsApart c xs → Among x xs → IsNarrowed d e x → in_force e c ≡ in_force d c
in_force-other None xs d e x apart here n = refl
in_force-other (Some a) xs d e x apart here n = ap (list_all (meets a)) (n.others a.var (λ same. apart (subst (λ y. Among y xs) (sym same) here)))

-- ---- sums

not_same : (x : ℕ) (xs : List ℕ) (y : ℕ) → ¬ (Among x xs) → Among y xs → ¬ (y ≡ x)
not_same x xs y apart here = λ e. apart (subst (λ z. Among z xs) e here)

-- where the variable is no term's, the sum stays
pub least_sum-apart : (ts : List (ℤ × ℕ)) (d e : Domains) (x : ℕ) → ¬ (Among x (variables ts)) → IsNarrowed d e x → least_sum e ts ≡ least_sum d ts
least_sum-apart ts d e x apart n = least_sum-local ts e d (λ y here. n.others y (not_same x (variables ts) y apart here))

first_moves : (p p' r r' s : ℤ) → r' ≡ r → (p' +ℤ r') +ℤ p ≡ (p +ℤ r) +ℤ p'
first_moves p p' r r' s e = omega (arith, ints)

later_moves : (q q' r r' p p' : ℤ) → q' ≡ q → r' +ℤ p ≡ r +ℤ p' → (q' +ℤ r') +ℤ p ≡ (q +ℤ r) +ℤ p'
later_moves q q' r r' p p' e f = omega (arith, ints)

least_product-other : (d e : Domains) (x : ℕ) (u : ℤ × ℕ) → ¬ (u.1 ≡ x) → IsNarrowed d e x → least_product e u ≡ least_product d u
least_product-other d e x u n narrowed = ap (λ xs. unwrap_or (least (map (λ v. u.0 *ℤ v) xs)) (pos 0)) (narrowed.others u.1 n)

later_apart : (x : ℕ) (xs : List ℕ) → Each (λ y. x < y) xs → ¬ (Among x xs)
later_apart x xs climbs here = let h : x < x = Each-among (λ y. x < y) xs climbs x here in omega arith

before_apart : (y : ℕ) (xs : List ℕ) (x : ℕ) → Each (λ z. y < z) xs → Among x xs → ¬ (y ≡ x)
before_apart y xs x climbs here e = let h : y < x = Each-among (λ z. y < z) xs climbs x here in omega arith

-- where it is a term's, the sum moves as the term's least value does
pub least_sum-moves : (ts : List (ℤ × ℕ)) (d e : Domains) (t : ℤ × ℕ) → Climbs (variables ts) → Among t ts → IsNarrowed d e t.1 → least_sum e ts +ℤ least_product d t ≡ least_sum d ts +ℤ least_product e t
least_sum-moves [] d e t climbs here n = absurd here
least_sum-moves (u ∷ us) d e t climbs (inl k) n =
    ap (λ (w : ℤ × ℕ). (least_product e u +ℤ least_sum e us) +ℤ least_product d w) k
    ∙ first_moves (least_product d u) (least_product e u) (least_sum d us) (least_sum e us) (pos 0)
    (least_sum-apart us d e t.1 (subst (λ (w : ℤ × ℕ). ¬ (Among w.1 (variables us))) (sym k) (later_apart u.1 (variables us) climbs.0)) n)
    ∙ ap (λ (w : ℤ × ℕ). (least_product d u +ℤ least_sum d us) +ℤ least_product e w) (sym k)
least_sum-moves (u ∷ us) d e t climbs (inr here) n =
    later_moves (least_product d u) (least_product e u) (least_sum d us) (least_sum e us) (least_product d t) (least_product e t)
    (least_product-other d e t.1 u (before_apart u.1 (variables us) t.1 climbs.0 (variable_of us t here)) n)
    (least_sum-moves us d e t climbs.1 here n)
