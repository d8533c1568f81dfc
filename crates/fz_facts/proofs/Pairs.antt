-- Two lists side by side, and what stands at a place of a longer list.
use Rattle.std.proofs.Common.{◌≡◌, ℕ, zero, suc, ◌<◌, List, [], ◌∷◌, ◌++◌, length, slice_get, refl, ap, arith}
use Rattle.dp_base.specs.Lists.{Each}

-- each of the first with each of the second, in order
abbrev pub Pairs : {A B : Type 0} → (A → B → Type 0) → List A → List B → Type 0
Pairs R [] [] = Unit {0}
Pairs R [] (y ∷ ys) = ⊥
Pairs R (x ∷ xs) [] = ⊥
Pairs R (x ∷ xs) (y ∷ ys) = R x y × Pairs R xs ys

pub Pairs-push : {A B : Type 0} (R : A → B → Type 0) (xs : List A) (ys : List B) (x : A) (y : B) → Pairs R xs ys → R x y → Pairs R (xs ++ x ∷ []) (ys ++ y ∷ [])
Pairs-push R [] [] x y p r = (r, tt)
Pairs-push R [] (z ∷ ys) x y p r = absurd p
Pairs-push R (w ∷ xs) [] x y p r = absurd p
Pairs-push R (w ∷ xs) (z ∷ ys) x y p r = (p.0, Pairs-push R xs ys x y p.1 r)

pub Pairs-weaker : {A B : Type 0} (R S : A → B → Type 0) → ((x : A) (y : B) → R x y → S x y) → (xs : List A) (ys : List B) → Pairs R xs ys → Pairs S xs ys
Pairs-weaker R S h [] [] p = tt
Pairs-weaker R S h [] (z ∷ ys) p = absurd p
Pairs-weaker R S h (w ∷ xs) [] p = absurd p
Pairs-weaker R S h (w ∷ xs) (z ∷ ys) p = (h w z p.0, Pairs-weaker R S h xs ys p.1)

-- the same for items of the second list that have a property
pub Pairs-weaker_each : {A B : Type 0} (R S : A → B → Type 0) (P : B → Type 0) → ((x : A) (y : B) → P y → R x y → S x y)
    → (xs : List A) (ys : List B) → Each P ys → Pairs R xs ys → Pairs S xs ys
Pairs-weaker_each R S P h [] [] q p = tt
Pairs-weaker_each R S P h [] (z ∷ ys) q p = absurd p
Pairs-weaker_each R S P h (w ∷ xs) [] q p = absurd p
Pairs-weaker_each R S P h (w ∷ xs) (z ∷ ys) q p = (h w z q.0 p.0, Pairs-weaker_each R S P h xs ys q.1 p.1)

pub Pairs-each : {A B : Type 0} (R : A → B → Type 0) (P : B → Type 0) → ((x : A) (y : B) → R x y → P y) → (xs : List A) (ys : List B) → Pairs R xs ys → Each P ys
Pairs-each R P h [] [] p = tt
Pairs-each R P h [] (z ∷ ys) p = absurd p
Pairs-each R P h (w ∷ xs) [] p = absurd p
Pairs-each R P h (w ∷ xs) (z ∷ ys) p = (h w z p.0, Pairs-each R P h xs ys p.1)

pub Pairs-length : {A B : Type 0} (R : A → B → Type 0) (xs : List A) (ys : List B) → Pairs R xs ys → length xs ≡ length ys
Pairs-length R [] [] p = refl
Pairs-length R [] (z ∷ ys) p = absurd p
Pairs-length R (w ∷ xs) [] p = absurd p
Pairs-length R (w ∷ xs) (z ∷ ys) p = ap suc (Pairs-length R xs ys p.1)

-- what stands in a list stands at the same place in a longer one
pub slice_get-append : {A : Type 0} (xs ys : List A) (k : ℕ) → k < length xs → slice_get (xs ++ ys) k ≡ slice_get xs k
slice_get-append [] ys k h = absurd (omega arith)
slice_get-append (x ∷ xs) ys zero h = refl
slice_get-append (x ∷ xs) ys (suc k) h = slice_get-append xs ys k (omega arith)
