-- Laws of sets of integers as ascending lists: one list for one set, least and greatest, what a filter keeps.
use Rattle.std.proofs.Common.{◌≡◌, ℕ, suc, ◌-◌, Bool, true, false, cond, ◌⊎◌, List, [], ◌∷◌, ◌++◌, length, ℤ, ◌≤ℤ◌, ◌<ℤ◌, int_lt, slice_get, Some, refl, sym, ◌∙◌, ap, subst, inl, inr, arith}
use Rattle.std.specs.Int.{int_min, int_max}
use Rattle.std.specs.List.{filter}
use Rattle.std.proofs.lemmas.Int.{ints}
use Rattle.std.proofs.lemmas.Bool.{cases_Bool, cond-true, cond-false}
use Rattle.std.proofs.lemmas.Option.{same_Some, none-some}
use Rattle.dp_base.specs.Lists.{Among, Each}
use Rattle.dp_base.proofs.Lists.{Each-among, Each-append, Each-filter}
use Rattle.dp_domain.specs.Sets.{IsAscending, IsSmall, IsDomain, Collects, least_from, least, greatest_from, greatest}

-- ---- one ascending list for one set

same_heads : (x y : ℤ) (xs ys : List ℤ) → Each (λ z. x <ℤ z) xs → Each (λ z. y <ℤ z) ys → Among x (y ∷ ys) → Among y (x ∷ xs) → x ≡ y
same_heads x y xs ys a b (inl e) k = e
same_heads x y xs ys a b (inr h) (inl e) = sym e
same_heads x y xs ys a b (inr h) (inr k) =
    let p : y <ℤ x = Each-among (λ z. y <ℤ z) ys b x h in
    let q : x <ℤ y = Each-among (λ z. x <ℤ z) xs a y k in
    absurd (omega (arith, ints))

tail_among : (x y v : ℤ) (xs ys : List ℤ) → x ≡ y → Each (λ z. x <ℤ z) xs → Among v xs → Among v (y ∷ ys) → Among v ys
tail_among x y v xs ys e a h (inl k) =
    let p : x <ℤ v = Each-among (λ z. x <ℤ z) xs a v h in
    absurd (omega (arith, ints))
tail_among x y v xs ys e a h (inr k) = k

same_lists_step : (x y : ℤ) (xs ys : List ℤ) → x ≡ y → xs ≡ ys → x ∷ xs ≡ y ∷ ys
same_lists_step x y xs ys e f = cc

-- two ascending lists with the same members are equal
pub ascending-same : (xs ys : List ℤ) → IsAscending xs → IsAscending ys → ((v : ℤ) → Among v xs → Among v ys) → ((v : ℤ) → Among v ys → Among v xs) → xs ≡ ys
ascending-same [] [] a b f g = refl
ascending-same [] (y ∷ ys) a b f g = absurd (g y (inl refl))
ascending-same (x ∷ xs) [] a b f g = absurd (f x (inl refl))
ascending-same (x ∷ xs) (y ∷ ys) a b f g =
    let e : x ≡ y = same_heads x y xs ys a.0 b.0 (f x (inl refl)) (g y (inl refl)) in
    same_lists_step x y xs ys e
    (ascending-same xs ys a.1 b.1
    (λ v h. tail_among x y v xs ys e a.0 h (f v (inr h)))
    (λ v h. tail_among y x v ys xs (sym e) b.0 h (g v (inr h))))

-- two domains that collect the same numbers are equal
pub Collects-same : (xs ys : List ℤ) (P : ℤ → Type 0) → IsDomain xs → IsDomain ys → Collects xs P → Collects ys P → xs ≡ ys
Collects-same xs ys P a b c d = ascending-same xs ys a.ascending b.ascending (λ v h. d.all v (c.only v h)) (λ v h. c.all v (d.only v h))

-- ---- order

-- the head is less than what follows it
pub ascending-head : (x : ℤ) (xs : List ℤ) → IsAscending (x ∷ xs) → (v : ℤ) → Among v xs → x <ℤ v
ascending-head x xs a v h = Each-among (λ z. x <ℤ z) xs a.0 v h

-- the head is at most each value
pub ascending-first : (x : ℤ) (xs : List ℤ) → IsAscending (x ∷ xs) → (v : ℤ) → Among v (x ∷ xs) → x ≤ℤ v
ascending-first x xs a v (inl e) = omega (arith, ints)
ascending-first x xs a v (inr h) = let p = ascending-head x xs a v h in omega (arith, ints)

-- a list with one more value at its end, greater than all, ascends
pub IsAscending-push : (xs : List ℤ) (v : ℤ) → IsAscending xs → Each (λ x. x <ℤ v) xs → IsAscending (xs ++ v ∷ [])
IsAscending-push [] v a e = (tt, tt)
IsAscending-push (x ∷ xs) v a e = (Each-append (λ y. x <ℤ y) xs (v ∷ []) a.0 (e.0, tt), IsAscending-push xs v a.1 e.1)

ascending_filter_step : (p : ℤ → Bool) (x : ℤ) (xs : List ℤ) (b : Bool) → Each (λ y. x <ℤ y) xs → IsAscending (filter p xs) → IsAscending (cond b (x ∷ filter p xs) (filter p xs))
ascending_filter_step p x xs true e a = (Each-filter (λ y. x <ℤ y) p xs e, a)
ascending_filter_step p x xs false e a = a

-- a filter keeps an ascending list ascending
pub IsAscending-filter : (p : ℤ → Bool) (xs : List ℤ) → IsAscending xs → IsAscending (filter p xs)
IsAscending-filter p [] a = tt
IsAscending-filter p (x ∷ xs) a = ascending_filter_step p x xs (p x) a.0 (IsAscending-filter p xs a.1)

-- a filter keeps a domain a domain
pub IsDomain-filter : (p : ℤ → Bool) (xs : List ℤ) → IsDomain xs → IsDomain (filter p xs)
IsDomain-filter p xs d = record { ascending = IsAscending-filter p xs d.ascending; small = Each-filter IsSmall p xs d.small }

-- a value of a domain lies within ±10^9
pub IsSmall-among : (xs : List ℤ) → IsDomain xs → (v : ℤ) → Among v xs → IsSmall v
IsSmall-among xs d v h = Each-among IsSmall xs d.small v h

-- ---- least and greatest

lesser : (x m : ℤ) → (int_min x m ≤ℤ x) × (int_min x m ≤ℤ m) × ((int_min x m ≡ x) ⊎ (int_min x m ≡ m))
lesser x m = elim (cases_Bool (int_lt m x)) [
  | inl e ↦ let c : int_min x m ≡ m = cond-true (int_lt m x) m x e in (omega (arith, ints), omega (arith, ints), inr c)
  | inr e ↦ let c : int_min x m ≡ x = cond-false (int_lt m x) m x e in (omega (arith, ints), omega (arith, ints), inl c)
]

greater : (x m : ℤ) → (x ≤ℤ int_max x m) × (m ≤ℤ int_max x m) × ((int_max x m ≡ x) ⊎ (int_max x m ≡ m))
greater x m = elim (cases_Bool (int_lt m x)) [
  | inl e ↦ let c : int_max x m ≡ x = cond-true (int_lt m x) x m e in (omega (arith, ints), omega (arith, ints), inl c)
  | inr e ↦ let c : int_max x m ≡ m = cond-false (int_lt m x) x m e in (omega (arith, ints), omega (arith, ints), inr c)
]

-- the least is at most each value
pub least_from-bound : (x : ℤ) (xs : List ℤ) (v : ℤ) → Among v (x ∷ xs) → least_from x xs ≤ℤ v
least_from-bound x [] v (inl e) = omega (arith, ints)
least_from-bound x [] v (inr h) = absurd h
least_from-bound x (y ∷ ys) v (inl e) = let p = (lesser x (least_from y ys)).0 in omega (arith, ints)
least_from-bound x (y ∷ ys) v (inr h) = let p = (lesser x (least_from y ys)).1 in let q = least_from-bound y ys v h in omega (arith, ints)

-- the least is one of the values
pub least_from-among : (x : ℤ) (xs : List ℤ) → Among (least_from x xs) (x ∷ xs)
least_from-among x [] = inl refl
least_from-among x (y ∷ ys) = elim ((lesser x (least_from y ys)).2) [
  | inl e ↦ inl e
  | inr e ↦ inr (subst (λ m. Among m (y ∷ ys)) (sym e) (least_from-among y ys))
]

-- the greatest is at least each value
pub greatest_from-bound : (x : ℤ) (xs : List ℤ) (v : ℤ) → Among v (x ∷ xs) → v ≤ℤ greatest_from x xs
greatest_from-bound x [] v (inl e) = omega (arith, ints)
greatest_from-bound x [] v (inr h) = absurd h
greatest_from-bound x (y ∷ ys) v (inl e) = let p = (greater x (greatest_from y ys)).0 in omega (arith, ints)
greatest_from-bound x (y ∷ ys) v (inr h) = let p = (greater x (greatest_from y ys)).1 in let q = greatest_from-bound y ys v h in omega (arith, ints)

-- the greatest is one of the values
pub greatest_from-among : (x : ℤ) (xs : List ℤ) → Among (greatest_from x xs) (x ∷ xs)
greatest_from-among x [] = inl refl
greatest_from-among x (y ∷ ys) = elim ((greater x (greatest_from y ys)).2) [
  | inl e ↦ inl e
  | inr e ↦ inr (subst (λ m. Among m (y ∷ ys)) (sym e) (greatest_from-among y ys))
]

-- a value that is at most each is the least
pub least_from-is : (x : ℤ) (xs : List ℤ) (m : ℤ) → Among m (x ∷ xs) → ((v : ℤ) → Among v (x ∷ xs) → m ≤ℤ v) → least_from x xs ≡ m
least_from-is x xs m h b =
    let p : least_from x xs ≤ℤ m = least_from-bound x xs m h in
    let q : m ≤ℤ least_from x xs = b (least_from x xs) (least_from-among x xs) in
    omega (arith, ints)

-- a value that is at least each is the greatest
pub greatest_from-is : (x : ℤ) (xs : List ℤ) (m : ℤ) → Among m (x ∷ xs) → ((v : ℤ) → Among v (x ∷ xs) → v ≤ℤ m) → greatest_from x xs ≡ m
greatest_from-is x xs m h b =
    let p : m ≤ℤ greatest_from x xs = greatest_from-bound x xs m h in
    let q : greatest_from x xs ≤ℤ m = b (greatest_from x xs) (greatest_from-among x xs) in
    omega (arith, ints)

-- a value of a list that is at most each is its least
pub least-is : (xs : List ℤ) (m : ℤ) → Among m xs → ((v : ℤ) → Among v xs → m ≤ℤ v) → least xs ≡ Some m
least-is [] m h b = absurd h
least-is (x ∷ xs) m h b = ap Some (least_from-is x xs m h b)

-- a value of a list that is at least each is its greatest
pub greatest-is : (xs : List ℤ) (m : ℤ) → Among m xs → ((v : ℤ) → Among v xs → v ≤ℤ m) → greatest xs ≡ Some m
greatest-is [] m h b = absurd h
greatest-is (x ∷ xs) m h b = ap Some (greatest_from-is x xs m h b)

-- the least of the values is at most each
pub least-bound : (xs : List ℤ) (m : ℤ) → least xs ≡ Some m → (v : ℤ) → Among v xs → m ≤ℤ v
least-bound [] m e v h = absurd h
least-bound (x ∷ xs) m e v h = subst (λ k. k ≤ℤ v) (same_Some (least_from x xs) m e) (least_from-bound x xs v h)

-- the least of the values is one of them
pub least-among : (xs : List ℤ) (m : ℤ) → least xs ≡ Some m → Among m xs
least-among [] m e = absurd (none-some m e)
least-among (x ∷ xs) m e = subst (λ k. Among k (x ∷ xs)) (same_Some (least_from x xs) m e) (least_from-among x xs)

-- the greatest of the values is at least each
pub greatest-bound : (xs : List ℤ) (m : ℤ) → greatest xs ≡ Some m → (v : ℤ) → Among v xs → v ≤ℤ m
greatest-bound [] m e v h = absurd h
greatest-bound (x ∷ xs) m e v h = subst (λ k. v ≤ℤ k) (same_Some (greatest_from x xs) m e) (greatest_from-bound x xs v h)

-- the greatest of the values is one of them
pub greatest-among : (xs : List ℤ) (m : ℤ) → greatest xs ≡ Some m → Among m xs
greatest-among [] m e = absurd (none-some m e)
greatest-among (x ∷ xs) m e = subst (λ k. Among k (x ∷ xs)) (same_Some (greatest_from x xs) m e) (greatest_from-among x xs)

-- the least of ascending values is the first
pub least-first : (xs : List ℤ) → IsAscending xs → least xs ≡ slice_get xs 0
least-first [] a = refl
least-first (x ∷ xs) a = ap Some (least_from-is x xs x (inl refl) (ascending-first x xs a))

later_bound : (x y : ℤ) (ys : List ℤ) → IsAscending (x ∷ y ∷ ys) → (v : ℤ) → Among v (x ∷ y ∷ ys) → v ≤ℤ greatest_from y ys
later_bound x y ys a v (inl e) =
    let p : x <ℤ y = a.0.0 in
    let q = greatest_from-bound y ys y (inl refl) in
    omega (arith, ints)
later_bound x y ys a v (inr h) = greatest_from-bound y ys v h

suc_front : (n : ℕ) → suc (suc n - 1) ≡ suc (suc n) - 1
suc_front n = omega arith

last_step : (x y : ℤ) (ys : List ℤ) → IsAscending (x ∷ y ∷ ys) → greatest_from x (y ∷ ys) ≡ greatest_from y ys
last_step x y ys a = greatest_from-is x (y ∷ ys) (greatest_from y ys) (inr (greatest_from-among y ys)) (later_bound x y ys a)

-- ascending values of which the greatest is at the end
pub greatest-last : (xs : List ℤ) → IsAscending xs → greatest xs ≡ slice_get xs (length xs - 1)
greatest-last [] a = refl
greatest-last (x ∷ []) a = refl
greatest-last (x ∷ y ∷ ys) a = ap Some (last_step x y ys a) ∙ greatest-last (y ∷ ys) a.1 ∙ ap (λ k. slice_get (x ∷ y ∷ ys) k) (suc_front (length ys))
