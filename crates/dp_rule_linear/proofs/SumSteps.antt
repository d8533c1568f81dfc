-- What the loops over terms add up, and how large it grows.
use Rattle.std.proofs.Common.{◌≡◌, ℕ, suc, ◌+◌, ◌*◌, ◌^◌, ◌<◌, ◌≤◌, Bool, true, false, List, [], ◌∷◌, Option, Some, None, length, get_or, drop, ℤ, pos, negsuc, ◌+ℤ◌, ◌*ℤ◌, ◌≤ℤ◌, refl, sym, ◌∙◌, ap, subst, inl, inr, arith}
use Rattle.std.specs.Prelude.{IfSome, nat_eq, unwrap_or, ◌&&◌, FitsSigned}
use mir.Syntax.{w64, w128}
use mir.Val.{of_z, to_z}
use Rattle.std.specs.List.{list_all}
use Rattle.std.proofs.lemmas.Int.{ints, to_z-of_z}
use Rattle.std.proofs.lemmas.Bool.{cases_eq, both_ways}
use Rattle.std.proofs.lemmas.Bool.Decides.{Decides-eqb, same_from_decides}
use Rattle.std.proofs.lemmas.List.{get_or_default, drop_all, drop_more}
use Rattle.std.proofs.Math.Nat.{mul-le-mul_left, mul-le-mul_right}
use Rattle.dp_base.specs.Lists.{Among, Each}
use Rattle.dp_base.proofs.Lists.{Among-get_or, Each-among, list_all-from}
use Rattle.dp_domain.specs.Sets.{IsDomain, IsSmall, greatest, least}
use Rattle.dp_domain.specs.States.{Domains, values}
use Rattle.dp_domain.proofs.SetLaws.{IsSmall-among, greatest-among, greatest-bound, least-among, least-bound}
use Rattle.dp_rule_linear.specs.Differs.{is_same, is_single}
use Rattle.dp_rule_linear.specs.DiffersLaws.{first, is_same_where, only_first}
use Rattle.dp_rule_linear.specs.FormLaws.{variable_of}
use Rattle.dp_rule_linear.specs.Forms.{HaveDomains, IsBounded, least_product, least_sum, total, variables}
use Rattle.dp_rule_linear.specs.IntLaws.{least-times, least-times_back}

-- ---- terms at a place

pub among_at : (ts : List (ℤ × ℕ)) (i : ℕ) (t : ℤ × ℕ) → i < length ts → t ≡ get_or ts i t → Among t ts
among_at ts i t h e = subst (λ u. Among u ts) (sym e) (Among-get_or ts i t h)

-- the variable of a term at a place is covered
pub covered_at : (n : ℕ) (ts : List (ℤ × ℕ)) (i : ℕ) (t : ℤ × ℕ) → Each (λ x. x < n) (variables ts) → i < length ts → t ≡ get_or ts i t → t.1 < n
covered_at n ts i t all h e = Each-among (λ x. x < n) (variables ts) all t.1 (variable_of ts t (among_at ts i t h e))

-- ---- size

times_below : (a b m n : ℕ) → a ≤ m → b ≤ n → a * b ≤ m * n
times_below a b m n h k = omega (arith, mul-le-mul_left a k, mul-le-mul_right n h)

-- a product of bounded numbers is bounded
pub times_bounded : (m n : ℕ) (a v : ℤ) → IsBounded m a → IsBounded n v → IsBounded (m * n) (a *ℤ v)
times_bounded m n (pos a) (pos v) h k = let b : a * v ≤ m * n = times_below a v m n (omega (arith, ints)) (omega (arith, ints)) in (omega (arith, ints), omega (arith, ints))
times_bounded m n (pos a) (negsuc v) h k = let b : a * suc v ≤ m * n = times_below a (suc v) m n (omega (arith, ints)) (omega (arith, ints)) in (omega (arith, ints), omega (arith, ints))
times_bounded m n (negsuc a) (pos v) h k = let b : suc a * v ≤ m * n = times_below (suc a) v m n (omega (arith, ints)) (omega (arith, ints)) in (omega (arith, ints), omega (arith, ints))
times_bounded m n (negsuc a) (negsuc v) h k = let b : suc a * suc v ≤ m * n = times_below (suc a) (suc v) m n (omega (arith, ints)) (omega (arith, ints)) in (omega (arith, ints), omega (arith, ints))

-- a product in 128 bits of numbers that came from 64
pub product_read : (a v x y : ℤ) → x ≡ a → y ≡ v → IsBounded (10 ^ 16) a → IsSmall v → IsBounded (10 ^ 25) (to_z w128 (of_z w128 (to_z w128 (of_z w128 x) *ℤ to_z w128 (of_z w128 y))))
product_read a v x y e f h k =
    let b = times_bounded (10 ^ 16) (10 ^ 9) a v h k in
    let left : to_z w128 (of_z w128 x) ≡ a = omega (arith, ints, h.0, h.1) in
    let right : to_z w128 (of_z w128 y) ≡ v = omega (arith, ints, k.0, k.1) in
    let both : to_z w128 (of_z w128 x) *ℤ to_z w128 (of_z w128 y) ≡ a *ℤ v = ap (λ z. z *ℤ to_z w128 (of_z w128 y)) left ∙ ap (λ z. a *ℤ z) right in
    subst (IsBounded (10 ^ 25)) (sym (ap (λ z. to_z w128 (of_z w128 z)) both ∙ to_z-of_z w128 (a *ℤ v) (bounded_fits (a *ℤ v) b))) b
  where
    bounded_fits : (z : ℤ) → IsBounded (10 ^ 25) z → FitsSigned w128 z
    bounded_fits z h = omega (arith, ints)

-- ---- least values

-- the least value of a term, at the least value of its variable or at the greatest
pub lower_least : (d : Domains) (a : ℤ) (x : ℕ) (o : Option ℤ) → pos 0 ≤ℤ a → o ≡ least (values d x) → IfSome o (λ v. a *ℤ v ≡ least_product d (a, x))
lower_least d a x None sign e = tt
lower_least d a x (Some v) sign e = sym (ap (λ o. unwrap_or o (pos 0)) (least-times a (values d x) v sign (sym e)))

pub upper_least : (d : Domains) (a : ℤ) (x : ℕ) (o : Option ℤ) → a ≤ℤ pos 0 → o ≡ greatest (values d x) → IfSome o (λ v. a *ℤ v ≡ least_product d (a, x))
upper_least d a x None sign e = tt
upper_least d a x (Some v) sign e = sym (ap (λ o. unwrap_or o (pos 0)) (least-times_back a (values d x) v sign (sym e)))

pub lower_small : (xs : List ℤ) (o : Option ℤ) → IsDomain xs → o ≡ least xs → IfSome o IsSmall
lower_small xs None domain e = tt
lower_small xs (Some v) domain e = IsSmall-among xs domain v (least-among xs v (sym e))

pub upper_small : (xs : List ℤ) (o : Option ℤ) → IsDomain xs → o ≡ greatest xs → IfSome o IsSmall
upper_small xs None domain e = tt
upper_small xs (Some v) domain e = IsSmall-among xs domain v (greatest-among xs v (sym e))

-- ---- loops over terms

pub left_at : (ts : List (ℤ × ℕ)) (i : ℕ) (t : ℤ × ℕ) → i < length ts → t ≡ get_or ts i t → drop i ts ≡ t ∷ drop (i + 1) ts
left_at ts i t h e = drop_more ts i t h ∙ ap (λ u. u ∷ drop (i + 1) ts) (sym e)

-- what is left to add, one term on
pub total_more : (f : ℤ × ℕ → ℤ) (ts : List (ℤ × ℕ)) (i : ℕ) (t : ℤ × ℕ) → i < length ts → t ≡ get_or ts i t → total f (drop i ts) ≡ f t +ℤ total f (drop (i + 1) ts)
total_more f ts i t h e = ap (total f) (left_at ts i t h e)

-- a test of what is left, one term on
pub all_more : (p : ℤ × ℕ → Bool) (ts : List (ℤ × ℕ)) (i : ℕ) (t : ℤ × ℕ) → i < length ts → t ≡ get_or ts i t → list_all p (drop i ts) ≡ (p t && list_all p (drop (i + 1) ts))
all_more p ts i t h e = ap (list_all p) (left_at ts i t h e)

-- a variable among those left and not the one here is among those left after it
pub among_more : (x : ℕ) (ts : List (ℤ × ℕ)) (i : ℕ) (t : ℤ × ℕ) → i < length ts → t ≡ get_or ts i t → ¬ (t.1 ≡ x) → Among x (variables (drop i ts)) → Among x (variables (drop (i + 1) ts))
among_more x ts i t h e other here =
    elim (subst (λ us. Among x (variables us)) (left_at ts i t h e) here) [ inl same ↦ absurd (other (sym same)) | inr later ↦ later ]

-- the variable here is among the terms'
pub among_here : (x : ℕ) (ts : List (ℤ × ℕ)) (i : ℕ) (t : ℤ × ℕ) → i < length ts → t ≡ get_or ts i t → t.1 ≡ x → Among x (variables ts)
among_here x ts i t h e same = subst (λ y. Among y (variables ts)) same (variable_of ts t (among_at ts i t h e))

-- the sum so far with what is left is the whole, and it has not grown too large
pub record IsSumSoFar (d : Domains) (ts : List (ℤ × ℕ)) (i : ℕ) (sum : ℤ) : Type 0 where
  pub whole : sum +ℤ least_sum d (drop i ts) ≡ least_sum d ts
  pub bounded : IsBounded (i * 10 ^ 25) sum
  pub domains : (k : ℕ) → k < i → IsDomain (values d (get_or ts k (pos 0, 0)).1)

pub sum_none : (d : Domains) (ts : List (ℤ × ℕ)) → IsSumSoFar d ts 0 (pos 0)
sum_none d ts = record { whole = omega (arith, ints); bounded = (omega (arith, ints), omega (arith, ints)); domains = λ k h. absurd (omega arith) }

more_whole : (s p r w n : ℤ) → s +ℤ r ≡ w → r ≡ p +ℤ n → (s +ℤ p) +ℤ n ≡ w
more_whole s p r w n e f = omega (arith, ints)

more_bounded : (i : ℕ) (s p : ℤ) → IsBounded (i * 10 ^ 25) s → IsBounded (10 ^ 25) p → IsBounded ((i + 1) * 10 ^ 25) (s +ℤ p)
more_bounded i s p h k = (omega (arith, ints), omega (arith, ints))

more_domains : (d : Domains) (ts : List (ℤ × ℕ)) (i : ℕ) (t : ℤ × ℕ) → i < length ts → t ≡ get_or ts i t → IsDomain (values d t.1) → ((k : ℕ) → k < i → IsDomain (values d (get_or ts k (pos 0, 0)).1)) → (k : ℕ) → k < i + 1 → IsDomain (values d (get_or ts k (pos 0, 0)).1)
more_domains d ts i t h e domain so_far k l = elim (cases_eq k i) [
  | inl same ↦ subst (λ (u : ℤ × ℕ). IsDomain (values d u.1)) (e ∙ get_or_default ts i t (pos 0, 0) h ∙ ap (λ (j : ℕ). get_or ts j (pos 0, 0)) (sym same)) domain
  | inr other ↦ so_far k (omega arith)
]

pub sum_more : (d : Domains) (ts : List (ℤ × ℕ)) (i : ℕ) (t : ℤ × ℕ) (s p : ℤ) → i < length ts → t ≡ get_or ts i t → p ≡ least_product d t → IsBounded (10 ^ 25) p → IsDomain (values d t.1) → IsSumSoFar d ts i s → IsSumSoFar d ts (i + 1) (s +ℤ p)
sum_more d ts i t s p h e f bounded domain so_far = record {
  whole = more_whole s p (least_sum d (drop i ts)) (least_sum d ts) (least_sum d (drop (i + 1) ts)) so_far.whole (total_more (least_product d) ts i t h e ∙ ap (λ n. n +ℤ least_sum d (drop (i + 1) ts)) (sym f));
  bounded = more_bounded i s p so_far.bounded bounded;
  domains = more_domains d ts i t h e domain so_far.domains;
}

-- the variables of all terms have domains
pub have_domains : (d : Domains) (ts : List (ℤ × ℕ)) → ((k : ℕ) → k < length ts → IsDomain (values d (get_or ts k (pos 0, 0)).1)) → HaveDomains ts d
have_domains d [] each = tt
have_domains d (t ∷ ts) each = (each 0 (omega arith), have_domains d ts (λ k h. each (suc k) (omega arith)))

pub sum_all : (d : Domains) (ts : List (ℤ × ℕ)) (i : ℕ) (s : ℤ) → length ts ≤ i → IsSumSoFar d ts i s → s ≡ least_sum d ts
sum_all d ts i s h so_far = none_left s (least_sum d ts) (subst (λ us. s +ℤ least_sum d us ≡ least_sum d ts) (drop_all i ts h) so_far.whole)
  where
    none_left : (s w : ℤ) → s +ℤ pos 0 ≡ w → s ≡ w
    none_left s w e = omega (arith, ints)

-- the next sum fits 128 bits
pub sum_fits : (i : ℕ) (s p : ℤ) → i < 2000000 → IsBounded (i * 10 ^ 25) s → IsBounded (10 ^ 25) p → FitsSigned w128 (s +ℤ p)
sum_fits i s p h k l = omega (arith, ints)

-- the sum as it is read again from its bits
pub sum_read : (i : ℕ) (s p : ℤ) → i < 2000000 → IsBounded (i * 10 ^ 25) s → IsBounded (10 ^ 25) p → to_z w128 (of_z w128 (s +ℤ to_z w128 (of_z w128 p))) ≡ s +ℤ p
sum_read i s p h k l = omega (arith, ints)

-- ---- one value

pub all_same : (xs : List ℤ) (v : ℤ) → ((w : ℤ) → Among w xs → w ≡ v) → Among v xs → is_single xs ≡ true
all_same [] v same here = absurd here
all_same (x ∷ xs) v same here = list_all-from (λ y. is_same y x) xs (λ w there. is_same_where w x (same w (inr there) ∙ sym (same x (inl refl))))

between : (w a : ℤ) → a ≤ℤ w → w ≤ℤ a → w ≡ a
between w a h k = omega (arith, ints)

-- least and greatest are one where there is one value
pub single_from_ends : (xs : List ℤ) (a b : ℤ) → Some a ≡ least xs → Some b ≡ greatest xs → a ≡ b → is_single xs ≡ true
single_from_ends xs a b e f same =
    all_same xs a (λ w here. between w a (least-bound xs a (sym e) w here) (subst (λ z. w ≤ℤ z) (sym same) (greatest-bound xs b (sym f) w here))) (least-among xs a (sym e))

ends_of_only : (xs : List ℤ) (v a b : ℤ) → Each (λ w. w ≡ v) xs → Among a xs → Among b xs → a ≡ b
ends_of_only xs v a b each here there = Each-among (λ w. w ≡ v) xs each a here ∙ sym (Each-among (λ w. w ≡ v) xs each b there)

pub ends_from_single : (xs : List ℤ) (a b : ℤ) → Some a ≡ least xs → Some b ≡ greatest xs → is_single xs ≡ true → a ≡ b
ends_from_single xs a b e f single =
    let only = only_first xs single in
    ends_of_only xs (first xs) a b only.1 (least-among xs a (sym e)) (greatest-among xs b (sym f))

-- the bits of the ends are compared
pub single_bits : (xs : List ℤ) (a b : ℤ) → IsDomain xs → Some a ≡ least xs → Some b ≡ greatest xs → nat_eq (of_z w64 a) (of_z w64 b) ≡ is_single xs
single_bits xs a b domain e f =
    let fits : FitsSigned w64 a = small_fits a (IsSmall-among xs domain a (least-among xs a (sym e))) in
    let fits' : FitsSigned w64 b = small_fits b (IsSmall-among xs domain b (greatest-among xs b (sym f))) in
    same_from_decides {P = a ≡ b} (nat_eq (of_z w64 a) (of_z w64 b)) (is_single xs)
    (λ t. sym (to_z-of_z w64 a fits) ∙ ap (to_z w64) ((Decides-eqb (of_z w64 a) (of_z w64 b)).0 t) ∙ to_z-of_z w64 b fits', λ s. (Decides-eqb (of_z w64 a) (of_z w64 b)).1 (ap (of_z w64) s))
    (ends_from_single xs a b e f, single_from_ends xs a b e f)
  where
    small_fits : (v : ℤ) → IsSmall v → FitsSigned w64 v
    small_fits v h = omega (arith, ints)

-- ---- equal variables

pub eq_true : (x y : ℕ) (r : Bool) → r ≡ nat_eq x y → r ≡ true → x ≡ y
eq_true x y r e t = (Decides-eqb x y).0 (sym e ∙ t)

pub eq_false : (x y : ℕ) (r : Bool) → r ≡ nat_eq x y → r ≡ false → ¬ (x ≡ y)
eq_false x y r e t = λ same. both_ways (nat_eq x y) (sym e ∙ t) ((Decides-eqb x y).1 same)
