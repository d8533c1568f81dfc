-- The product of the sizes of ranges, up to the greatest number that the code counts to.
use Rattle.std.proofs.Common.{◌≡◌, ℕ, zero, suc, ◌+◌, ◌*◌, ◌≤◌, ◌<◌, ◌==◌, ◌⊎◌, inl, inr, min, List, [], ◌∷◌, map, length, Some, refl, ap, sym, ◌∙◌, arith}
use Rattle.std.proofs.Math.Nat.{mul_assoc}
use Rattle.std.proofs.lemmas.Bool.Decides.{nat_tests}
use Rattle.std.specs.List.{fold}
use Rattle.fz_model.specs.Arrays.{product}
use Rattle.fz_model.specs.Items.{IntText}
use Rattle.fz_items.specs.Arrays.{elements_fit, most, times, width_of}
use Rattle.fz_items.specs.Literals.{range_of}
use Rattle.fz_items.specs.declared.text.Number.{Number}

grows : (m x p : ℕ) → m ≤ x → m ≤ x * suc p
grows m x p h = let e : x * suc p ≡ x * p + x = omega arith in omega (arith, e, h)

capped_twice : (m x p : ℕ) → (x ≤ m) ⊎ (m ≤ x) → min (min x m * p) m ≡ min (x * p) m
capped_twice m x p (inl h) = let e : min x m ≡ x = omega arith in ap (λ n. min (n * p) m) e
capped_twice m x zero (inr h) = let a : min x m * 0 ≡ 0 = omega arith in let b : x * 0 ≡ 0 = omega arith in ap (λ n. min n m) (a ∙ sym b)
capped_twice m x (suc p) (inr h) =
    let e : min x m ≡ m = omega arith in
    let one = grows m m p (omega arith) in
    let two = grows m x p h in
    ap (λ n. min (n * suc p) m) e ∙ omega (arith, one, two)

either_way : (x m : ℕ) → (x ≤ m) ⊎ (m ≤ x)
either_way x m = grind arith

capped : (m n : ℕ) (ranges : List (IntText × IntText)) → n ≤ m → fold (λ n p. min (n * width_of p) m) n ranges ≡ min (n * product ranges) m
capped m n [] h = omega arith
capped m n (p ∷ ranges) h =
    let bound : min (n * width_of p) m ≤ m = omega arith in
    capped m (min (n * width_of p) m) ranges bound
    ∙ capped_twice m (n * width_of p) (product ranges) (either_way (n * width_of p) m)
    ∙ ap (λ k. min k m) (mul_assoc n (width_of p) (product ranges))

seen_so : (n : ℕ) (ranges : List (Number × Number)) → fold (λ n r. times n (range_of r)) n ranges ≡ fold times n (map range_of ranges)
seen_so n [] = refl
seen_so n (r ∷ ranges) = seen_so (times n (range_of r)) ranges

within : (m p count : ℕ) → count < m → (min (1 * p) m == count) ≡ (p == count)
within m p count h = grind (arith, nat_tests)

pub fits_is : (count : ℕ) (ranges : List (Number × Number)) → count < most → 0 < length ranges → (fold (λ n r. times n (range_of r)) 1 ranges == count) ≡ elements_fit count (Some (map range_of ranges))
fits_is count [] h some = absurd (omega arith)
fits_is count (r ∷ ranges) h some =
    ap (λ n. n == count) (seen_so 1 (r ∷ ranges) ∙ capped most 1 (map range_of (r ∷ ranges)) (omega arith))
    ∙ within most (product (map range_of (r ∷ ranges))) count h
