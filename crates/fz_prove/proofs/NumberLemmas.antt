-- The numbers of nogoods, and room for one more.
use Rattle.std.proofs.Common.{◌≡◌, ℕ, ◌+◌, ◌<◌, ◌≤◌, true, false, ◌&&◌, ◌||◌, List, [], ◌∷◌, ◌++◌, length, nat_eq, nat_le, nat_lt, ap, ◌∙◌, refl, arith}
use Rattle.std.specs.List.{list_any, sum_by}
use Rattle.std.proofs.lemmas.Bool.{and_from, ne_eqb}
use Rattle.std.proofs.lemmas.Bool.Decides.{nat_tests}
use Rattle.std.proofs.lemmas.List.Sums.{sum_by-append, sum_by-cons}
use Rattle.std.proofs.lemmas.List.{length-append}
use Rattle.dp_scaffold.specs.Gathering.{most_literals, most_nogoods}

-- as many numbers as there are items, from n + 1 on
abbrev pub numbers : {A : Type 0} → ℕ → List A → List ℕ
numbers n [] = []
numbers n (x ∷ xs) = (n + 1) ∷ numbers (n + 1) xs

-- one item more takes the next number
pub numbers_push : {A : Type 0} (n m : ℕ) (xs : List A) (x : A) → m ≡ n + length xs + 1 → numbers n xs ++ m ∷ [] ≡ numbers n (xs ++ x ∷ [])
numbers_push n m [] x e = let same : m ≡ n + 1 = omega arith in ap (λ (k : ℕ). k ∷ []) same
numbers_push n m (y ∷ xs) x e = ap (λ (l : List ℕ). (n + 1) ∷ l) (numbers_push (n + 1) m xs x (omega arith))

-- behind the last number none is taken
pub number_new : {A : Type 0} (n m : ℕ) (xs : List A) → n + length xs < m → list_any (nat_eq m) (numbers n xs) ≡ false
number_new n m [] h = refl
number_new n m (x ∷ xs) h =
    let apart : nat_eq m (n + 1) ≡ false = ne_eqb m (n + 1) (λ e. omega arith) in
    let rest : list_any (nat_eq m) (numbers (n + 1) xs) ≡ false = number_new (n + 1) m xs (omega arith) in
    λ j. apart j || rest j

-- fewer than the most
below : (n : ℕ) → n < most_nogoods → nat_lt n most_nogoods ≡ true
below n h = grind (arith, nat_tests, h)

-- no more than the most
within : (m : ℕ) → m ≤ most_literals → nat_le m most_literals ≡ true
within m h = grind (arith, nat_tests, h)

-- there is room for a nogood below the limits
pub has_place : (n m : ℕ) → n < most_nogoods → m ≤ most_literals → (nat_lt n most_nogoods && nat_le m most_literals) ≡ true
has_place n m h k = and_from (nat_lt n most_nogoods) (nat_le m most_literals) (below n h) (within m k)

-- where all of them are within the limits, one is not too many
pub few_so_far : {A : Type 0} (limit : ℕ) (xs : List A) (x : A) (ys : List A) → length (xs ++ x ∷ ys) ≤ limit → length xs < limit
few_so_far limit xs x ys h = let e : length (xs ++ x ∷ ys) ≡ length xs + length (x ∷ ys) = length-append xs (x ∷ ys) in omega (arith, e, h)

-- and its literals are not too many
pub small_so_far : {A : Type 0} (f : A → ℕ) (limit : ℕ) (xs : List A) (x : A) (ys : List A) → sum_by f (xs ++ x ∷ ys) ≤ limit → sum_by f xs + f x ≤ limit
small_so_far f limit xs x ys h =
    let e : sum_by f (xs ++ x ∷ ys) ≡ sum_by f xs + (f x + sum_by f ys) =
    sum_by-append f xs (x ∷ ys) ∙ ap (λ (k : ℕ). sum_by f xs + k) (sum_by-cons f x ys) in
    omega (arith, e, h)
