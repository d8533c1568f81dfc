-- What the normal form of a weighted sum is worth at an assignment.
use Rattle.std.proofs.Common.{◌≡◌, ℕ, Bool, true, false, List, [], ◌∷◌, map, ℤ, pos, neg_ℤ, ◌+ℤ◌, ◌*ℤ◌, refl, sym, ◌∙◌, ap, arith}
use Rattle.std.specs.Prelude.{nat_lt}
use Rattle.std.specs.Ordering.{int_eq}
use Rattle.std.proofs.lemmas.Int.{ints}
use Rattle.std.proofs.lemmas.Bool.{ltb-false}
use Rattle.std.proofs.lemmas.Bool.Decides.{Decides-int_eq}
use Rattle.dp_base.specs.Lists.{Each}
use Rattle.dp_domain.specs.Terms.{term_at}
use Rattle.dp_domain.specs.declared.term.Term.{Term}
use Rattle.dp_domain.specs.declared.term.Term.TheVariants.{Var, Const}
use Rattle.dp_rule_linear.specs.Forms.{sum_at}
use Rattle.fz_sat.specs.Globals.{weighted_sum}
use Rattle.fz_facts.specs.Facts.{IsConst}
use Rattle.dp_lower.specs.Sums.{Sum, no_sum, nonzero, number_in, opposite, plus, plus_all, sum_of, weighted, with_term}
use Rattle.dp_lower.proofs.Products.{times_none, times_opposite, times_plus}

-- the value of the sum at an assignment
abbrev pub value_at : (ℕ → ℤ) → Sum → ℤ
value_at s q = sum_at s q.terms +ℤ q.constant

-- ---- one more term

merged : (s : ℕ → ℤ) (a b : ℤ) (x : ℕ) (rest : ℤ) → ((a +ℤ b) *ℤ s x) +ℤ rest ≡ ((a *ℤ s x) +ℤ rest) +ℤ (b *ℤ s x)
merged s a b x rest = let e = times_plus a b (s x) in regroup ((a +ℤ b) *ℤ s x) (a *ℤ s x) (b *ℤ s x) rest e
  where
    regroup : (w x y z : ℤ) → w ≡ x +ℤ y → w +ℤ z ≡ (x +ℤ z) +ℤ y
    regroup w x y z e = omega (arith, ints)

front : (a b : ℤ) → a +ℤ b ≡ b +ℤ a
front a b = omega (arith, ints)

behind : (a b c d : ℤ) → b ≡ c +ℤ d → a +ℤ b ≡ (a +ℤ c) +ℤ d
behind a b c d e = omega (arith, ints)

with_term-by : (s : ℕ → ℤ) (t u : ℤ × ℕ) (us : List (ℤ × ℕ)) (before after : Bool) → nat_lt t.1 u.1 ≡ before → nat_lt u.1 t.1 ≡ after →
    (before ≡ false → after ≡ false → t.1 ≡ u.1) → sum_at s (with_term t us) ≡ sum_at s us +ℤ (t.0 *ℤ s t.1) →
    sum_at s (with_term t (u ∷ us)) ≡ sum_at s (u ∷ us) +ℤ (t.0 *ℤ s t.1)
with_term-by s t u us true after e f same h = rw e (front (t.0 *ℤ s t.1) (sum_at s (u ∷ us)))
with_term-by s t u us false true e f same h = rw (e, f) (behind (u.0 *ℤ s u.1) (sum_at s (with_term t us)) (sum_at s us) (t.0 *ℤ s t.1) h)
with_term-by s t u us false false e f same h =
    rw (e, f) (merged s u.0 t.0 u.1 (sum_at s us) ∙ ap (λ x. sum_at s (u ∷ us) +ℤ (t.0 *ℤ s x)) (sym (same refl refl)))

same_by : (x y : ℕ) → nat_lt x y ≡ false → nat_lt y x ≡ false → x ≡ y
same_by x y e f = let h = ltb-false x y e in let k = ltb-false y x f in omega arith

-- a term that joins others adds its value
pub sum_at-with_term : (s : ℕ → ℤ) (t : ℤ × ℕ) (us : List (ℤ × ℕ)) → sum_at s (with_term t us) ≡ sum_at s us +ℤ (t.0 *ℤ s t.1)
sum_at-with_term s t [] = front (t.0 *ℤ s t.1) (pos 0)
sum_at-with_term s t (u ∷ us) =
    with_term-by s t u us (nat_lt t.1 u.1) (nat_lt u.1 t.1) refl refl (λ e f. same_by t.1 u.1 e f) (sum_at-with_term s t us)

swapped : (a b c d : ℤ) → a ≡ b +ℤ d → a +ℤ c ≡ (b +ℤ c) +ℤ d
swapped a b c d e = omega (arith, ints)

-- a multiple of a term adds so much
pub value-plus : (s : ℕ → ℤ) (q : Sum) (a : ℤ) (t : Term) → value_at s (plus q a t) ≡ value_at s q +ℤ (a *ℤ term_at s t)
value-plus s q a (Var x) = swapped (sum_at s (with_term (a, x) q.terms)) (sum_at s q.terms) q.constant (a *ℤ s x) (sum_at-with_term s (a, x) q.terms)
value-plus s q a (Const v) = regroup (sum_at s q.terms) q.constant (a *ℤ v)
  where
    regroup : (x y z : ℤ) → x +ℤ (y +ℤ z) ≡ (x +ℤ y) +ℤ z
    regroup x y z = omega (arith, ints)

-- what multiples of terms are worth together
abbrev pub worth : (ℕ → ℤ) → List (ℤ × Term) → ℤ
worth s [] = pos 0
worth s (t ∷ ts) = (t.0 *ℤ term_at s t.1) +ℤ worth s ts

pub value-plus_all : (s : ℕ → ℤ) (q : Sum) (ts : List (ℤ × Term)) → value_at s (plus_all q ts) ≡ value_at s q +ℤ worth s ts
value-plus_all s q [] = nothing (value_at s q)
  where
    nothing : (x : ℤ) → x ≡ x +ℤ pos 0
    nothing x = omega (arith, ints)
value-plus_all s q (t ∷ ts) = value-plus_all s (plus q t.0 t.1) ts ∙ regroup (value_at s (plus q t.0 t.1)) (value_at s q) (t.0 *ℤ term_at s t.1) (worth s ts) (value-plus s q t.0 t.1)
  where
    regroup : (w x y z : ℤ) → w ≡ x +ℤ y → w +ℤ z ≡ x +ℤ (y +ℤ z)
    regroup w x y z e = omega (arith, ints)

-- the normal form is worth what the terms are
pub value-sum_of : (s : ℕ → ℤ) (ts : List (ℤ × Term)) → value_at s (sum_of ts) ≡ worth s ts
value-sum_of s ts = value-plus_all s no_sum ts ∙ regroup (worth s ts)
  where
    regroup : (x : ℤ) → (pos 0 +ℤ pos 0) +ℤ x ≡ x
    regroup x = omega (arith, ints)

pub const_value : (s : ℕ → ℤ) (t : Term) → IsConst t → number_in t ≡ term_at s t
const_value s (Const v) const = refl
const_value s (Var x) const = absurd const

-- of constant coefficients, that is the weighted sum
pub worth-weighted : (s : ℕ → ℤ) (cs ts : List Term) → Each IsConst cs → worth s (weighted cs ts) ≡ weighted_sum (map (term_at s) cs) (map (term_at s) ts)
worth-weighted s [] ts consts = refl
worth-weighted s (c ∷ cs) [] consts = refl
worth-weighted s (c ∷ cs) (t ∷ ts) consts =
    ap (λ n. (n *ℤ term_at s t) +ℤ worth s (weighted cs ts)) (const_value s c consts.0)
    ∙ ap (λ n. (term_at s c *ℤ term_at s t) +ℤ n) (worth-weighted s cs ts consts.1)

-- ---- the opposite, and zero coefficients

sum_at-opposite : (s : ℕ → ℤ) (ts : List (ℤ × ℕ)) → sum_at s (map (λ t. (neg_ℤ t.0, t.1)) ts) ≡ neg_ℤ (sum_at s ts)
sum_at-opposite s [] = refl
sum_at-opposite s (t ∷ ts) =
    both (neg_ℤ t.0 *ℤ s t.1) (t.0 *ℤ s t.1) (sum_at s (map (λ u. (neg_ℤ u.0, u.1)) ts)) (sum_at s ts) (times_opposite t.0 (s t.1)) (sum_at-opposite s ts)
  where
    both : (w x y z : ℤ) → w ≡ neg_ℤ x → y ≡ neg_ℤ z → w +ℤ y ≡ neg_ℤ (x +ℤ z)
    both w x y z e f = omega (arith, ints)

-- the opposite is worth the opposite
pub value-opposite : (s : ℕ → ℤ) (q : Sum) → value_at s (opposite q) ≡ neg_ℤ (value_at s q)
value-opposite s q = both (sum_at s (opposite q).terms) (sum_at s q.terms) q.constant (sum_at-opposite s q.terms)
  where
    both : (x y c : ℤ) → x ≡ neg_ℤ y → x +ℤ neg_ℤ c ≡ neg_ℤ (y +ℤ c)
    both x y c e = omega (arith, ints)

nonzero-by : (s : ℕ → ℤ) (t : ℤ × ℕ) (ts : List (ℤ × ℕ)) (b : Bool) → int_eq t.0 (pos 0) ≡ b → sum_at s (nonzero ts) ≡ sum_at s ts → sum_at s (nonzero (t ∷ ts)) ≡ sum_at s (t ∷ ts)
nonzero-by s t ts true e h = rw e (nothing (t.0 *ℤ s t.1) (sum_at s (nonzero ts)) (sum_at s ts) (ap (λ a. a *ℤ s t.1) ((Decides-int_eq t.0 (pos 0)).0 e) ∙ times_none (s t.1)) h)
  where
    nothing : (x y z : ℤ) → x ≡ pos 0 → y ≡ z → y ≡ x +ℤ z
    nothing x y z e f = omega (arith, ints)
nonzero-by s t ts false e h = rw e (ap (λ n. (t.0 *ℤ s t.1) +ℤ n) h)

-- terms of coefficient zero are worth nothing
pub sum_at-nonzero : (s : ℕ → ℤ) (ts : List (ℤ × ℕ)) → sum_at s (nonzero ts) ≡ sum_at s ts
sum_at-nonzero s [] = refl
sum_at-nonzero s (t ∷ ts) = nonzero-by s t ts (int_eq t.0 (pos 0)) refl (sum_at-nonzero s ts)
