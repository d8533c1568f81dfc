-- Sums in a map from variables to coefficients, one term on.
use Rattle.std.proofs.Common.{◌≡◌, ℕ, suc, ◌+◌, ◌*◌, ◌^◌, ◌<◌, ◌≤◌, Bool, true, false, List, [], ◌∷◌, length, map, get_or, drop, None, ℤ, pos, neg_ℤ, ◌+ℤ◌, ◌-ℤ◌, ◌*ℤ◌, refl, sym, ◌∙◌, ap, subst, inl, inr, arith}
use Rattle.std.specs.Prelude.{◌==◌, nat_lt, unwrap_or, FitsSigned}
use mir.Syntax.{w128}
use mir.Val.{of_z, to_z}
use Rattle.std.specs.BTreeMap.{insert_entry, is_at}
use Rattle.std.specs.Map.{lookup}
use Rattle.std.specs.Ordering.{nat_cmp}
use Rattle.std.proofs.lemmas.Int.{ints, to_z-of_z}
use Rattle.std.proofs.lemmas.Bool.{cases_lt, eqb-false, eqb-true, le-ltb, lt-ltb, ltb-false, ltb-true}
use Rattle.std.proofs.lemmas.List.{drop_more, length-map}
use Rattle.dp_base.specs.Lists.{Climbs, Each}
use Rattle.dp_base.specs.Scopes.{with_variable}
use Rattle.dp_base.proofs.Lists.{Each-get_or, Each-weaker}
use Rattle.dp_base.proofs.ScopeLaws.{climbs_with}
use Rattle.dp_domain.specs.Sets.{IsSmall}
use Rattle.dp_domain.specs.declared.term.Term.{Term}
use Rattle.dp_domain.specs.declared.term.Term.TheVariants.{Var, Const}
use Rattle.dp_rule_linear.specs.Forms.{IsBounded, variables}
use Rattle.dp_rule_linear.proofs.SumSteps.{times_bounded}
use Rattle.dp_lower.specs.Merged.{IsMerged, IsWord, sum_in, terms_in}
use Rattle.dp_lower.specs.Sums.{Sum, no_sum, opposite, plus, plus_all, sum_of, with_term}

-- ---- the entries of a map

-- no entry is at a lesser variable
below_none : (k : ℕ) (es : List (ℕ × ℤ)) → Each (λ y. k < y) (variables (terms_in es)) → lookup (is_at (nat_cmp k)) es ≡ None
below_none k [] h = refl
below_none k (e ∷ es) h = rw (lt-ltb k e.0 h.0) (below_none k es h.1)

zero_and : (c : ℤ) → pos 0 +ℤ c ≡ c
zero_and c = omega (arith, ints)

insert_by : (e : ℕ × ℤ) (es : List (ℕ × ℤ)) (k : ℕ) (c : ℤ) (before same after : Bool) → nat_lt k e.0 ≡ before → (k == e.0) ≡ same → nat_lt e.0 k ≡ after →
    (before ≡ false → same ≡ false → after ≡ true) → (before ≡ false → same ≡ true → after ≡ false) → Climbs (variables (terms_in (e ∷ es))) →
    terms_in (insert_entry nat_cmp es k (unwrap_or (lookup (is_at (nat_cmp k)) es) (pos 0) +ℤ c)) ≡ with_term (c, k) (terms_in es) →
    terms_in (insert_entry nat_cmp (e ∷ es) k (unwrap_or (lookup (is_at (nat_cmp k)) (e ∷ es)) (pos 0) +ℤ c)) ≡ with_term (c, k) (terms_in (e ∷ es))
insert_by e es k c true same after f g h apart one climbs later =
    let below = below_none k es (Each-weaker (λ y. e.0 < y) (λ y. k < y) (λ y less. less_than k e.0 y (ltb-true k e.0 f) less) (variables (terms_in es)) climbs.0) in
    rw (f, below) (ap (λ v. (v, k) ∷ (e.1, e.0) ∷ terms_in es) (zero_and c))
  where
    less_than : (x y z : ℕ) → x < y → y < z → x < z
    less_than x y z p q = omega arith
insert_by e es k c false true after f g h apart one climbs later =
    rw (f, g, h ∙ one refl refl) refl
insert_by e es k c false false after f g h apart one climbs later =
    rw (f, g, h ∙ apart refl refl) (ap (λ us. (e.1, e.0) ∷ us) later)

after_by : (x y : ℕ) → nat_lt x y ≡ false → (x == y) ≡ false → nat_lt y x ≡ true
after_by x y f g = lt-ltb y x (strictly (ltb-false x y f) (eqb-false x y g))
  where
    strictly : y ≤ x → (x ≡ y → ⊥) → y < x
    strictly h apart = elim (cases_lt y x) [ inl k ↦ k | inr k ↦ absurd (apart (omega arith)) ]

not_after_by : (x y : ℕ) → (x == y) ≡ true → nat_lt y x ≡ false
not_after_by x y g = le-ltb y x (let e = eqb-true x y g in omega arith)

-- a coefficient with what was there is put in as the term joins the others
pub insert-with_term : (es : List (ℕ × ℤ)) (k : ℕ) (c : ℤ) → Climbs (variables (terms_in es)) →
    terms_in (insert_entry nat_cmp es k (unwrap_or (lookup (is_at (nat_cmp k)) es) (pos 0) +ℤ c)) ≡ with_term (c, k) (terms_in es)
insert-with_term [] k c climbs = ap (λ v. (v, k) ∷ []) (zero_and c)
insert-with_term (e ∷ es) k c climbs =
    insert_by e es k c (nat_lt k e.0) (k == e.0) (nat_lt e.0 k) refl refl refl (after_by k e.0) (λ f g. not_after_by k e.0 g) climbs (insert-with_term es k c climbs.1)

-- ---- how large

-- the variables of terms that another joined
variables-with_term : (t : ℤ × ℕ) (us : List (ℤ × ℕ)) → variables (with_term t us) ≡ with_variable t.1 (variables us)
variables-with_term t [] = refl
variables-with_term t (u ∷ us) = by (nat_lt t.1 u.1) (nat_lt u.1 t.1) refl refl (variables-with_term t us)
  where
    by : (b a : Bool) → nat_lt t.1 u.1 ≡ b → nat_lt u.1 t.1 ≡ a → variables (with_term t us) ≡ with_variable t.1 (variables us) → variables (with_term t (u ∷ us)) ≡ with_variable t.1 (variables (u ∷ us))
    by true a e f h = rw e refl
    by false true e f h = rw (e, f) (ap (λ xs. u.1 ∷ xs) h)
    by false false e f h = rw (e, f) refl

length-with_term : (t : ℤ × ℕ) (us : List (ℤ × ℕ)) → length (with_term t us) ≤ suc (length us)
length-with_term t [] = omega arith
length-with_term t (u ∷ us) = by (nat_lt t.1 u.1) (nat_lt u.1 t.1) refl refl (length-with_term t us)
  where
    by : (b a : Bool) → nat_lt t.1 u.1 ≡ b → nat_lt u.1 t.1 ≡ a → length (with_term t us) ≤ suc (length us) → length (with_term t (u ∷ us)) ≤ suc (length (u ∷ us))
    by true a e f h = rw e (omega arith)
    by false true e f h = rw (e, f) (omega arith)
    by false false e f h = rw (e, f) (omega arith)

wider : (n : ℕ) (v : ℤ) → IsBounded (n * 1000000000) v → IsBounded ((n + 1) * 1000000000) v
wider n v h = (omega (arith, ints), omega (arith, ints))

with_small : (n : ℕ) (v a : ℤ) → IsBounded (n * 1000000000) v → IsSmall a → IsBounded ((n + 1) * 1000000000) (v +ℤ a)
with_small n v a h small = let x = h.0 in let y = h.1 in let p = small.0 in let q = small.1 in (omega (arith, ints), omega (arith, ints))

alone_small : (n : ℕ) (a : ℤ) → IsSmall a → IsBounded ((n + 1) * 1000000000) a
alone_small n a small = let p = small.0 in let q = small.1 in (omega (arith, ints), omega (arith, ints))

bounded-with_term : (n : ℕ) (t : ℤ × ℕ) (us : List (ℤ × ℕ)) → IsSmall t.0 → Each (λ u. IsBounded (n * 1000000000) u.0) us → Each (λ u. IsBounded ((n + 1) * 1000000000) u.0) (with_term t us)
bounded-with_term n t [] small h = (alone_small n t.0 small, tt)
bounded-with_term n t (u ∷ us) small h = by (nat_lt t.1 u.1) (nat_lt u.1 t.1) refl refl (bounded-with_term n t us small h.1)
  where
    rest : Each (λ v. IsBounded ((n + 1) * 1000000000) v.0) us
    rest = Each-weaker (λ v. IsBounded (n * 1000000000) v.0) (λ v. IsBounded ((n + 1) * 1000000000) v.0) (λ v k. wider n v.0 k) us h.1

    by : (b a : Bool) → nat_lt t.1 u.1 ≡ b → nat_lt u.1 t.1 ≡ a → Each (λ v. IsBounded ((n + 1) * 1000000000) v.0) (with_term t us) → Each (λ v. IsBounded ((n + 1) * 1000000000) v.0) (with_term t (u ∷ us))
    by true a e f later = rw e (alone_small n t.0 small, (wider n u.0 h.0, rest))
    by false true e f later = rw (e, f) (wider n u.0 h.0, later)
    by false false e f later = rw (e, f) (with_small n u.0 t.0 h.0 small, rest)

larger : (n : ℕ) (v : ℤ) → IsBounded (n * 100000000000000000000000000000) v → IsBounded ((n + 1) * 100000000000000000000000000000) v
larger n v h = (omega (arith, ints), omega (arith, ints))

with_product : (n : ℕ) (v p : ℤ) → IsBounded (n * 100000000000000000000000000000) v → IsBounded 10000000000000000000000000000 p → IsBounded ((n + 1) * 100000000000000000000000000000) (v +ℤ p)
with_product n v p h k = let x = h.0 in let y = h.1 in let s = k.0 in let t = k.1 in (omega (arith, ints), omega (arith, ints))

pub product_bounded : (a v : ℤ) → IsSmall a → IsBounded 10000000000000000000 v → IsBounded 10000000000000000000000000000 (a *ℤ v)
product_bounded a v small word = times_bounded 1000000000 10000000000000000000 a v small word

-- one term on
pub merged_plus : (n : ℕ) (q : Sum) (a : ℤ) (t : Term) → IsSmall a → IsWord t → IsMerged n q → IsMerged (n + 1) (plus q a t)
merged_plus n q a (Var x) small word h = record {
  few = let few : length q.terms ≤ n = h.few in let more = length-with_term (a, x) q.terms in omega arith;
  bounded = bounded-with_term n (a, x) q.terms small h.bounded;
  climbing = subst Climbs (sym (variables-with_term (a, x) q.terms)) (climbs_with x (variables q.terms) h.climbing);
  constant = larger n q.constant h.constant;
}
merged_plus n q a (Const v) small word h = record {
  few = let few : length q.terms ≤ n = h.few in omega arith;
  bounded = Each-weaker (λ u. IsBounded (n * 1000000000) u.0) (λ u. IsBounded ((n + 1) * 1000000000) u.0) (λ u k. wider n u.0 k) q.terms h.bounded;
  climbing = h.climbing;
  constant = with_product n q.constant (a *ℤ v) h.constant (product_bounded a v small word);
}

pub merged_none : IsMerged 0 no_sum
merged_none = record { few = omega arith; bounded = tt; climbing = tt; constant = (omega (arith, ints), omega (arith, ints)) }

-- ---- loops over terms

-- the sum so far with what is left is the whole
pub record IsSummed (ts : List (ℤ × Term)) (i : ℕ) (q : Sum) : Type 0 where
  pub whole : plus_all q (drop i ts) ≡ sum_of ts
  pub merged : IsMerged i q

pub summed_none : (ts : List (ℤ × Term)) → IsSummed ts 0 no_sum
summed_none ts = record { whole = refl; merged = merged_none }

pub summed_more : (ts : List (ℤ × Term)) (i : ℕ) (t : ℤ × Term) (q : Sum) → i < length ts → t ≡ get_or ts i t → IsSmall t.0 → IsWord t.1 → IsSummed ts i q → IsSummed ts (i + 1) (plus q t.0 t.1)
summed_more ts i t q h e small word so_far = record {
  whole = sym (ap (plus_all q) (drop_more ts i t h ∙ ap (λ u. u ∷ drop (i + 1) ts) (sym e))) ∙ so_far.whole;
  merged = merged_plus i q t.0 t.1 small word so_far.merged;
}

fewer : (i n : ℕ) (v : ℤ) → i ≤ n → IsBounded (i * 1000000000) v → IsBounded (n * 1000000000) v
fewer i n v h k = let a = k.0 in let b = k.1 in (omega (arith, ints), omega (arith, ints))

fewer_constants : (i n : ℕ) (v : ℤ) → i ≤ n → IsBounded (i * 100000000000000000000000000000) v → IsBounded (n * 100000000000000000000000000000) v
fewer_constants i n v h k = let a = k.0 in let b = k.1 in (omega (arith, ints), omega (arith, ints))

-- a sum of fewer terms is one of at most more
pub merged_fewer : (i n : ℕ) (q : Sum) → i ≤ n → IsMerged i q → IsMerged n q
merged_fewer i n q h m = record {
  few = let few : length q.terms ≤ i = m.few in omega arith;
  bounded = Each-weaker (λ u. IsBounded (i * 1000000000) u.0) (λ u. IsBounded (n * 1000000000) u.0) (λ u k. fewer i n u.0 h k) q.terms m.bounded;
  climbing = m.climbing;
  constant = fewer_constants i n q.constant h m.constant;
}

within_word : (v : ℤ) → IsBounded (2000000 * 1000000000) v → IsBounded (10 ^ 16) v
within_word v h = let a = h.0 in let b = h.1 in (omega (arith, ints), omega (arith, ints))

-- its coefficients are within 10^16
pub merged_words : (q : Sum) → IsMerged 2000000 q → Each (λ t. IsBounded (10 ^ 16) t.0) q.terms
merged_words q m = Each-weaker (λ u. IsBounded (2000000 * 1000000000) u.0) (λ u. IsBounded (10 ^ 16) u.0) (λ u k. within_word u.0 k) q.terms m.bounded

turned : (n : ℕ) (v : ℤ) → IsBounded n v → IsBounded n (neg_ℤ v)
turned n v h = let a = h.0 in let b = h.1 in (omega (arith, ints), omega (arith, ints))

each_turned : (n : ℕ) (ts : List (ℤ × ℕ)) → Each (λ (t : ℤ × ℕ). IsBounded n t.0) ts → Each (λ (t : ℤ × ℕ). IsBounded n t.0) (map (λ t. (neg_ℤ t.0, t.1)) ts)
each_turned n [] h = tt
each_turned n (t ∷ ts) h = (turned n t.0 h.0, each_turned n ts h.1)

pub same_variables : (ts : List (ℤ × ℕ)) → variables ts ≡ variables (map (λ t. (neg_ℤ t.0, t.1)) ts)
same_variables [] = refl
same_variables (t ∷ ts) = ap (λ xs. t.1 ∷ xs) (same_variables ts)

-- the opposite is as large
pub merged_opposite : (n : ℕ) (q : Sum) → IsMerged n q → IsMerged n (opposite q)
merged_opposite n q m = record {
  few = let few : length q.terms ≤ n = m.few in rw length-map few;
  bounded = each_turned (n * 1000000000) q.terms m.bounded;
  climbing = subst Climbs (same_variables q.terms) m.climbing;
  constant = turned (n * 100000000000000000000000000000) q.constant m.constant;
}

fits_128 : (z : ℤ) → IsBounded 10000000000000000000000000000 z → FitsSigned w128 z
fits_128 z h = let a = h.0 in let b = h.1 in omega (arith, ints)

-- a product in 128 bits of numbers that came from 64
pub product_read : (a v x y : ℤ) → x ≡ a → y ≡ v → IsSmall a → IsBounded 10000000000000000000 v →
    IsBounded 10000000000000000000000000000 (to_z w128 (of_z w128 (to_z w128 (of_z w128 x) *ℤ to_z w128 (of_z w128 y))))
product_read a v x y e f h k =
    let b = product_bounded a v h k in
    let left : to_z w128 (of_z w128 x) ≡ a = omega (arith, ints, h.0, h.1) in
    let right : to_z w128 (of_z w128 y) ≡ v = omega (arith, ints, k.0, k.1) in
    let both : to_z w128 (of_z w128 x) *ℤ to_z w128 (of_z w128 y) ≡ a *ℤ v = ap (λ z. z *ℤ to_z w128 (of_z w128 y)) left ∙ ap (λ z. a *ℤ z) right in
    subst (IsBounded 10000000000000000000000000000) (sym (ap (λ z. to_z w128 (of_z w128 z)) both ∙ to_z-of_z w128 (a *ℤ v) (fits_128 (a *ℤ v) b))) b

-- ---- what the code reads

neg_read : (v : ℤ) → IsBounded (2000000 * 100000000000000000000000000000) v → to_z w128 (of_z w128 (pos 0 -ℤ to_z w128 (of_z w128 v))) ≡ neg_ℤ v
neg_read v h = let a = h.0 in let b = h.1 in omega (arith, ints)

-- a sum negated in 128 bits
pub negated_read : (q : Sum) (ts : List (ℤ × ℕ)) → IsMerged 2000000 q → ts ≡ map (λ t. (neg_ℤ t.0, t.1)) q.terms →
    IsMerged 2000000 (record { terms = ts; constant = to_z w128 (of_z w128 (pos 0 -ℤ to_z w128 (of_z w128 q.constant))) })
negated_read q ts m e =
    subst (IsMerged 2000000) (sym (ap (λ (us : List (ℤ × ℕ)). let r : Sum = record { terms = us; constant = to_z w128 (of_z w128 (pos 0 -ℤ to_z w128 (of_z w128 q.constant))) } in r) e
    ∙ ap (λ (v : ℤ). let r : Sum = record { terms = map (λ t. (neg_ℤ t.0, t.1)) q.terms; constant = v } in r) (neg_read q.constant m.constant))) (merged_opposite 2000000 q m)

bounded_none : (n : ℕ) → IsBounded n (pos 0)
bounded_none n = (omega (arith, ints), omega (arith, ints))

-- what is found among bounded coefficients is bounded
pub found_bounded : (n : ℕ) (test : ℕ → Bool) (es : List (ℕ × ℤ)) → Each (λ (t : ℤ × ℕ). IsBounded n t.0) (terms_in es) → IsBounded n (unwrap_or (lookup test es) (pos 0))
found_bounded n test [] h = bounded_none n
found_bounded n test (e ∷ es) h = by (test e.0) refl (found_bounded n test es h.1)
  where
    by : (b : Bool) → test e.0 ≡ b → IsBounded n (unwrap_or (lookup test es) (pos 0)) → IsBounded n (unwrap_or (lookup test (e ∷ es)) (pos 0))
    by true f later = rw f h.0
    by false f later = rw f later

-- a coefficient put in with what was there
pub added_read : (es new : List (ℕ × ℤ)) (k : ℕ) (v b c : ℤ) → Climbs (variables (terms_in es)) → new ≡ insert_entry nat_cmp es k v → v ≡ b +ℤ c → b ≡ unwrap_or (lookup (is_at (nat_cmp k)) es) (pos 0) →
    terms_in new ≡ with_term (c, k) (terms_in es)
added_read es new k v b c climbs e f g =
    ap terms_in (e ∙ ap (insert_entry nat_cmp es k) (f ∙ ap (λ x. x +ℤ c) g)) ∙ insert-with_term es k c climbs

-- a constant added
pub const_read : (es : List (ℕ × ℤ)) (k n a v p : ℤ) (t : Term) → t ≡ Const v → n ≡ k +ℤ p → p ≡ a *ℤ v → sum_in es n ≡ plus (sum_in es k) a t
const_read es k n a v p t is e f = rw is (ap (sum_in es) (e ∙ ap (λ x. k +ℤ x) f))

read_again : (n : ℕ) (v : ℤ) → n ≤ 2000000 → IsBounded (n * 100000000000000000000000000000) v → to_z w128 (of_z w128 v) ≡ v
read_again n v h k = let a = k.0 in let b = k.1 in omega (arith, ints)

-- one term on, as the code reads it
pub summed_next : (ts : List (ℤ × Term)) (i : ℕ) (t : ℤ × Term) (es new : List (ℕ × ℤ)) (k v a : ℤ) → i < length ts → length ts ≤ 2000000 → t ≡ get_or ts i t → Each (λ (u : ℤ × Term). IsSmall u.0) ts → IsWord t.1 →
    a ≡ t.0 → sum_in new v ≡ plus (sum_in es k) a t.1 → IsSummed ts i (sum_in es k) → IsSummed ts (i + 1) (sum_in new (to_z w128 (of_z w128 v)))
summed_next ts i t es new k v a h few e small word same sum so_far =
    let here : IsSmall t.0 = subst (λ (u : ℤ × Term). IsSmall u.0) (sym e) (Each-get_or (λ (u : ℤ × Term). IsSmall u.0) ts i t h small) in
    let now : IsSummed ts (i + 1) (sum_in new v) = subst (IsSummed ts (i + 1)) (sym (sum ∙ ap (λ b. plus (sum_in es k) b t.1) same)) (summed_more ts i t (sum_in es k) h e here word so_far) in
    subst (λ w. IsSummed ts (i + 1) (sum_in new w)) (sym (read_again (i + 1) v (omega arith) now.merged.constant)) now

-- all terms summed
pub summed_all : (ts : List (ℤ × Term)) (i : ℕ) (q : Sum) → length ts ≤ i → i ≤ length ts → length ts ≤ 2000000 → IsSummed ts i q → IsMerged 2000000 q
summed_all ts i q h k few so_far = merged_fewer i 2000000 q (omega arith) so_far.merged
