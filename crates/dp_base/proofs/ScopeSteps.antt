-- Sorted variables without doubles are the variables in order.
use Rattle.std.proofs.Common.{◌≡◌, ℕ, ◌<◌, Bool, true, false, cond, nat_lt, ◌==◌, List, [], ◌∷◌, IsPermutation, refl, sym, inl, inr, arith}
use Rattle.std.specs.declared.cmp.Ordering.TheVariants.{Less, Equal, Greater}
use Rattle.std.specs.Ordering.{nat_cmp, is_eq}
use Rattle.std.specs.Cmp.{nat_cmp_total}
use Rattle.std.specs.Prelude.{nat_eq}
use Rattle.std.specs.List.{dedup, AllByRecursion}
use Rattle.std.specs.List.Sorted.{IsSorted, IsStrictlySortedBy}
use Rattle.std.proofs.lemmas.Bool.Decides.{nat_tests}
use Rattle.std.proofs.lemmas.List.Kept.{Contains-dedup_nat, Contains-from_dedup, IsStrictlySortedBy-dedup}
use Rattle.std.proofs.lemmas.List.Sorted.{Contains-permutation, IsPermutation-sym}
use Rattle.dp_base.specs.Lists.{Among, Climbs, Each}
use Rattle.dp_base.specs.Scopes.{in_order}
use Rattle.dp_base.proofs.Lists.{Among-from_contains, Contains-from_among, Each-among}
use Rattle.dp_base.proofs.ScopeLaws.{among_in_order, among_in_order_out, climbs_in_order}

-- ---- one list in order for one set

same_heads : (x y : ℕ) (xs ys : List ℕ) → Each (λ z. x < z) xs → Each (λ z. y < z) ys → Among x (y ∷ ys) → Among y (x ∷ xs) → x ≡ y
same_heads x y xs ys a b (inl e) k = e
same_heads x y xs ys a b (inr h) (inl e) = sym e
same_heads x y xs ys a b (inr h) (inr k) =
    let p : y < x = Each-among (λ z. y < z) ys b x h in
    let q : x < y = Each-among (λ z. x < z) xs a y k in
    absurd (omega (arith, p, q))

tail_among : (x y v : ℕ) (xs ys : List ℕ) → x ≡ y → Each (λ z. x < z) xs → Among v xs → Among v (y ∷ ys) → Among v ys
tail_among x y v xs ys e a h (inl k) =
    let p : x < v = Each-among (λ z. x < z) xs a v h in
    absurd (omega (arith, p, k, e))
tail_among x y v xs ys e a h (inr k) = k

same_lists : (x y : ℕ) (xs ys : List ℕ) → x ≡ y → xs ≡ ys → x ∷ xs ≡ y ∷ ys
same_lists x y xs ys e f = cc

climbs_same : (xs ys : List ℕ) → Climbs xs → Climbs ys → ((v : ℕ) → Among v xs → Among v ys) → ((v : ℕ) → Among v ys → Among v xs) → xs ≡ ys
climbs_same [] [] a b f g = refl
climbs_same [] (y ∷ ys) a b f g = absurd (g y (inl refl))
climbs_same (x ∷ xs) [] a b f g = absurd (f x (inl refl))
climbs_same (x ∷ xs) (y ∷ ys) a b f g =
    let e : x ≡ y = same_heads x y xs ys a.0 b.0 (f x (inl refl)) (g y (inl refl)) in
    same_lists x y xs ys e
    (climbs_same xs ys a.1 b.1
    (λ v h. tail_among x y v xs ys e a.0 h (f v (inr h)))
    (λ v h. tail_among y x v ys xs (sym e) b.0 h (g v (inr h))))

-- ---- sorting

less_by : (a e : Bool) → cond a Less (cond e Equal Greater) ≡ Less → a ≡ true
less_by true e h = refl
less_by false true h = cc
less_by false false h = cc

less_where : (x y : ℕ) → nat_lt x y ≡ true → x < y
less_where x y e = grind (arith, nat_tests)

each_later : (x : ℕ) (xs : List ℕ) → AllByRecursion (λ y. nat_cmp x y ≡ Less) xs → Each (λ y. x < y) xs
each_later x [] h = tt
each_later x (y ∷ ys) h = (less_where x y (less_by (nat_lt x y) (x == y) h.0), each_later x ys h.1)

climbs_strict : (xs : List ℕ) → IsStrictlySortedBy nat_cmp xs → Climbs xs
unfolding IsStrictlySortedBy
climbs_strict [] h = tt
climbs_strict (x ∷ xs) h = (each_later x xs h.0, climbs_strict xs h.1)

ties_by : (x y : ℕ) (a e : Bool) → nat_lt x y ≡ a → nat_eq x y ≡ e → e ≡ is_eq (cond a Less (cond e Equal Greater))
ties_by x y true true p q = absurd (grind (arith, nat_tests, p, q))
ties_by x y true false p q = refl
ties_by x y false true p q = refl
ties_by x y false false p q = refl

-- what is left of sorted variables without doubles
pub sorted_scope : (ws xs : List ℕ) → IsPermutation ws xs → IsSorted nat_cmp xs → dedup nat_eq xs ≡ in_order ws
sorted_scope ws xs p s = climbs_same (dedup nat_eq xs) (in_order ws)
    (climbs_strict (dedup nat_eq xs) (IsStrictlySortedBy-dedup nat_cmp_total (λ x y. ties_by x y (nat_lt x y) (nat_eq x y) refl refl) xs s))
    (climbs_in_order ws)
    (λ v h. among_in_order v ws (Among-from_contains v ws (Contains-permutation xs ws v (IsPermutation-sym ws xs p) (Contains-from_dedup nat_eq xs v (Contains-from_among v (dedup nat_eq xs) h)))))
    (λ v h. Among-from_contains v (dedup nat_eq xs) (Contains-dedup_nat xs v (Contains-permutation ws xs v p (Contains-from_among v ws (among_in_order_out v ws h)))))
