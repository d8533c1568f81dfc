-- How many items of a list pass a test.
use Rattle.std.specs.Prelude.{◌≡◌, ℕ, suc, ◌+◌, ◌≤◌, Bool, true, false, ◌⊎◌, List, [], ◌∷◌, length, filter}
use Rattle.std.proofs.Common.{refl, sym, ◌∙◌, ap, subst, inl, inr, arith, cond}
use Rattle.std.proofs.lemmas.Bool.{false≢true}
use Rattle.dp_base.specs.Lists.{Among}

count_step : (b c : Bool) (n m : ℕ) → (b ≡ true → c ≡ true) → n ≤ m → cond b (suc n) n ≤ cond c (suc m) m
count_step true true n m h k = omega arith
count_step true false n m h k = absurd (false≢true (h refl))
count_step false true n m h k = omega arith
count_step false false n m h k = k

-- an item is counted where it passes
pub count_is : {A : Type 0} (p : A → Bool) (x : A) (xs : List A) (b : Bool) → p x ≡ b → length (filter p (x ∷ xs)) ≡ cond b (suc (length (filter p xs))) (length (filter p xs))
count_is p x xs true e = ap (λ c. length (cond c (x ∷ filter p xs) (filter p xs))) e
count_is p x xs false e = ap (λ c. length (cond c (x ∷ filter p xs) (filter p xs))) e

-- no more items pass the stronger of two tests
pub count-within : {A : Type 0} (p q : A → Bool) (xs : List A) → ((x : A) → Among x xs → p x ≡ true → q x ≡ true) → length (filter p xs) ≤ length (filter q xs)
count-within p q [] h = omega arith
count-within p q (x ∷ xs) h =
    let first : length (filter p (x ∷ xs)) ≡ cond (p x) (suc (length (filter p xs))) (length (filter p xs)) = count_is p x xs (p x) refl in
    let second : length (filter q (x ∷ xs)) ≡ cond (q x) (suc (length (filter q xs))) (length (filter q xs)) = count_is q x xs (q x) refl in
    let step = count_step (p x) (q x) (length (filter p xs)) (length (filter q xs)) (h x (inl refl)) (count-within p q xs (λ y here. h y (inr here))) in
    subst (λ n. n ≤ length (filter q (x ∷ xs))) (sym first) (subst (λ n. cond (p x) (suc (length (filter p xs))) (length (filter p xs)) ≤ n) (sym second) step)

either_step : (b c e : Bool) (n m k : ℕ) → (b ≡ true → (c ≡ true) ⊎ (e ≡ true)) → n ≤ m + k → cond b (suc n) n ≤ cond c (suc m) m + cond e (suc k) k
either_step false false false n m k h less = less
either_step false false true n m k h less = omega arith
either_step false true false n m k h less = omega arith
either_step false true true n m k h less = omega arith
either_step true true false n m k h less = omega arith
either_step true true true n m k h less = omega arith
either_step true false true n m k h less = omega arith
either_step true false false n m k h less = elim (h refl) [ inl e ↦ absurd (false≢true e) | inr e ↦ absurd (false≢true e) ]

-- where what passes a test passes one of two, no more pass it than pass these
pub count-either : {A : Type 0} (p q r : A → Bool) (xs : List A) → ((x : A) → p x ≡ true → (q x ≡ true) ⊎ (r x ≡ true)) → length (filter p xs) ≤ length (filter q xs) + length (filter r xs)
count-either p q r [] h = omega arith
count-either p q r (x ∷ xs) h =
    let first = count_is p x xs (p x) refl in
    let second = count_is q x xs (q x) refl in
    let third = count_is r x xs (r x) refl in
    let step = either_step (p x) (q x) (r x) (length (filter p xs)) (length (filter q xs)) (length (filter r xs)) (h x) (count-either p q r xs h) in
    joined (length (filter p (x ∷ xs))) (length (filter q (x ∷ xs))) (length (filter r (x ∷ xs))) _ _ _ first second third step
  where
    joined : (n m k a b c : ℕ) → n ≡ a → m ≡ b → k ≡ c → a ≤ b + c → n ≤ m + k
    joined n m k a b c e f g h = omega arith

-- where no item passes, none is counted
pub count-none : {A : Type 0} (p : A → Bool) (xs : List A) → ((x : A) → Among x xs → p x ≡ false) → length (filter p xs) ≡ 0
count-none p [] h = refl
count-none p (x ∷ xs) h = count_is p x xs false (h x (inl refl)) ∙ count-none p xs (λ y here. h y (inr here))

-- an item that passes is counted
pub count-some : {A : Type 0} (p : A → Bool) (xs : List A) (x : A) → Among x xs → p x ≡ true → 1 ≤ length (filter p xs)
count-some p [] x here e = absurd here
count-some p (y ∷ ys) x (inl same) e = counted (length (filter p (y ∷ ys))) (length (filter p ys)) (count_is p y ys true (ap p (sym same) ∙ e))
  where
    counted : (n m : ℕ) → n ≡ suc m → 1 ≤ n
    counted n m e = omega arith
count-some p (y ∷ ys) x (inr here) e = more (p y) (length (filter p (y ∷ ys))) (length (filter p ys)) (count_is p y ys (p y) refl) (count-some p ys x here e)
  where
    more : (b : Bool) (n m : ℕ) → n ≡ cond b (suc m) m → 1 ≤ m → 1 ≤ n
    more true n m e h = omega arith
    more false n m e h = omega arith
