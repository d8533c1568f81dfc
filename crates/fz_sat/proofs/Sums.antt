-- Sums of products, pair by pair.
use Rattle.std.proofs.Common.{◌≡◌, ℕ, ◌+◌, ◌<◌, ◌≤◌, min, length, get_or, drop, List, [], ◌∷◌, map, ℤ, pos, ◌+ℤ◌, ◌*ℤ◌, refl, sym, ◌∙◌, ap, subst, arith}
use Rattle.std.specs.List.{zip}
use Rattle.std.proofs.lemmas.Int.{ints}
use Rattle.std.proofs.lemmas.List.{at_drop_more, at_drop_all}
use Rattle.std.proofs.lemmas.Slice.Zip.{length-zip, get_or-zip}
use Rattle.fz_model.specs.declared.model.Basic.{Basic}
use Rattle.fz_model.specs.declared.model.Item.{Item}
use Rattle.dp_domain.specs.Terms.{term_at}
use Rattle.fz_sat.specs.Args.{terms_of}
use Rattle.fz_sat.specs.Globals.{total, weighted_sum}
use Rattle.fz_sat.specs.Satisfies.{value_of}
use Rattle.fz_sat.specs.Sums.{IsBounded, IsNear, IsReduced, number_of, product_of, sum_of_products}
use Rattle.fz_sat.specs.declared.wide.Wide.{Wide}

-- what is left to add, one element on
pub total_more : {A : Type 0} (f : A → ℤ) (xs : List A) (i : ℕ) (d : A) → i < length xs → total (map f (drop i xs)) ≡ f (get_or xs i d) +ℤ total (map f (drop (i + 1) xs))
total_more f xs i d h = at_drop_more (λ ys. total (map f ys)) xs i d h

-- nothing is left at the end
pub total_none : {A : Type 0} (f : A → ℤ) (xs : List A) (i : ℕ) → length xs ≤ i → total (map f (drop i xs)) ≡ pos 0
total_none f xs i h = at_drop_all (λ ys. total (map f ys)) xs i h

-- the sum of a linear row is that of the products of its elements
pub weighted_sum-elements : (items : List Item) (s : ℕ → ℤ) (first second : List Basic) → weighted_sum (map (term_at s) (terms_of items first)) (map (term_at s) (terms_of items second)) ≡ sum_of_products items s first second
weighted_sum-elements items s [] second = refl
weighted_sum-elements items s (b ∷ first) [] = refl
weighted_sum-elements items s (b ∷ first) (e ∷ second) = ap (λ z. (value_of items s b *ℤ value_of items s e) +ℤ z) (weighted_sum-elements items s first second)

-- the sum so far with what is left is the whole
pub record IsSumSoFar (items : List Item) (s : ℕ → ℤ) (first second : List Basic) (i : ℕ) (sum : Wide) : Type 0 where
  pub whole : number_of sum +ℤ total (map (product_of items s) (drop i (zip first second))) ≡ sum_of_products items s first second
  pub reduced : IsReduced sum
  pub turns : IsBounded i sum.turns

more_whole : (s p r w n t : ℤ) → s +ℤ r ≡ w → r ≡ p +ℤ n → t ≡ s +ℤ p → t +ℤ n ≡ w
more_whole s p r w n t e f g = omega (arith, ints)

more_turns : (i : ℕ) (t u : ℤ) → IsBounded i t → IsNear t u → IsBounded (i + 1) u
more_turns i t u h k = (omega (arith, ints, h.0, h.1, k.0, k.1), omega (arith, ints, h.0, h.1, k.0, k.1))

pub sum_more : (items : List Item) (s : ℕ → ℤ) (first second : List Basic) (i : ℕ) (d : Basic) (p : ℤ) (before now : Wide) → i < min (length first) (length second) → p ≡ value_of items s (get_or first i d) *ℤ value_of items s (get_or second i d) → number_of now ≡ number_of before +ℤ p → IsReduced now → IsNear before.turns now.turns → IsSumSoFar items s first second i before → IsSumSoFar items s first second (i + 1) now
sum_more items s first second i d p before now h e sum reduced near so_far = record {
  whole =
      let later = total (map (product_of items s) (drop (i + 1) (zip first second))) in
      more_whole (number_of before) p (total (map (product_of items s) (drop i (zip first second)))) (sum_of_products items s first second) later (number_of now)
      so_far.whole
      (total_more (product_of items s) (zip first second) i (d, d) (subst (λ n. i < n) (sym (length-zip first second)) h)
      ∙ ap (λ q. product_of items s q +ℤ later) (get_or-zip first second i (d, d) (omega arith) (omega arith))
      ∙ ap (λ z. z +ℤ later) (sym e))
      sum;
  reduced = reduced;
  turns = more_turns i before.turns now.turns so_far.turns near;
}

pub sum_all : (items : List Item) (s : ℕ → ℤ) (first second : List Basic) (i : ℕ) (sum : Wide) → min (length first) (length second) ≤ i → IsSumSoFar items s first second i sum → number_of sum ≡ sum_of_products items s first second
sum_all items s first second i sum h so_far =
    none_left (number_of sum) (total (map (product_of items s) (drop i (zip first second)))) (sum_of_products items s first second) so_far.whole (total_none (product_of items s) (zip first second) i (subst (λ n. n ≤ i) (sym (length-zip first second)) h))
  where
    none_left : (s r w : ℤ) → s +ℤ r ≡ w → r ≡ pos 0 → s ≡ w
    none_left s r w e f = omega (arith, ints)
