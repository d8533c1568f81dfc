-- The numbers within ±10^9 are in order, and they are all of them.
use Rattle.std.proofs.Common.{◌≡◌, ℕ, zero, suc, Bool, true, filter, ℤ, pos, neg_ℤ, ◌+ℤ◌, ◌≤ℤ◌, refl, sym, subst, inl, inr, arith}
use Rattle.std.specs.Prelude.{◌^◌, ◌⊎◌, ◌<ℤ◌}
use Rattle.std.proofs.lemmas.Int.{ints}
use Rattle.dp_base.specs.Lists.{Among}
use Rattle.dp_base.proofs.Lists.{Among-filter_all, Among-filter_only, Each-from_among}
use Rattle.dp_domain.specs.Sets.{Collects, IsAscending, IsDomain, IsSmall}
use Rattle.dp_domain.proofs.AtomLaws.{order_cases}
use Rattle.dp_domain.proofs.SetLaws.{IsDomain-filter}
use Rattle.dp_lower.specs.Small.{count_up, small_numbers}

first_of : (v : ℤ) (n : ℕ) → (v ≤ℤ v) × (v <ℤ (v +ℤ pos (suc n)))
first_of v n = (omega (arith, ints), omega (arith, ints))

later_of : (v x : ℤ) (n : ℕ) → ((v +ℤ pos 1) ≤ℤ x) × (x <ℤ ((v +ℤ pos 1) +ℤ pos n)) → (v ≤ℤ x) × (x <ℤ (v +ℤ pos (suc n)))
later_of v x n h = let low = h.0 in let high = h.1 in (omega (arith, ints), omega (arith, ints))

-- what is counted up lies in the range
pub range_of : (v : ℤ) (n : ℕ) (x : ℤ) → Among x (count_up v n) → (v ≤ℤ x) × (x <ℤ (v +ℤ pos n))
unfolding count_up
range_of v zero x here = absurd here
range_of v (suc n) x (inl e) = subst (λ y. (v ≤ℤ y) × (y <ℤ (v +ℤ pos (suc n)))) (sym e) (first_of v n)
range_of v (suc n) x (inr here) = later_of v x n (range_of (v +ℤ pos 1) n x here)

none_between : (v x : ℤ) → v ≤ℤ x → x <ℤ (v +ℤ pos 0) → ⊥
none_between v x h k = absurd (omega (arith, ints))

next_between : (v x : ℤ) (n : ℕ) → v ≤ℤ x → x <ℤ (v +ℤ pos (suc n)) → (x ≡ v) ⊎ (((v +ℤ pos 1) ≤ℤ x) × (x <ℤ ((v +ℤ pos 1) +ℤ pos n)))
next_between v x n h k = elim (order_cases x v) [
  | inl e ↦ inl e
  | inr (inl below) ↦ absurd (omega (arith, ints))
  | inr (inr above) ↦ inr (omega (arith, ints), omega (arith, ints))
]

-- and everything in the range is counted
pub in_range : (v : ℤ) (n : ℕ) (x : ℤ) → v ≤ℤ x → x <ℤ (v +ℤ pos n) → Among x (count_up v n)
unfolding count_up
in_range v zero x h k = none_between v x h k
in_range v (suc n) x h k = elim (next_between v x n h k) [
  | inl e ↦ inl e
  | inr r ↦ inr (in_range (v +ℤ pos 1) n x r.0 r.1)
]

above : (v x : ℤ) → (v +ℤ pos 1) ≤ℤ x → v <ℤ x
above v x h = omega (arith, ints)

-- in order
pub count_up-ascending : (v : ℤ) (n : ℕ) → IsAscending (count_up v n)
unfolding count_up
count_up-ascending v zero = tt
count_up-ascending v (suc n) =
    (Each-from_among (λ y. v <ℤ y) (count_up (v +ℤ pos 1) n) (λ x here. above v x (range_of (v +ℤ pos 1) n x here).0), count_up-ascending (v +ℤ pos 1) n)

counted_small : (n : ℕ) → n ≡ 2000000001 → (x : ℤ) → (neg_ℤ (pos (10 ^ 9)) ≤ℤ x) × (x <ℤ (neg_ℤ (pos (10 ^ 9)) +ℤ pos n)) → IsSmall x
counted_small n e x h = let low = h.0 in let high = h.1 in (low, omega (arith, ints))

small_counted : (n : ℕ) → n ≡ 2000000001 → (x : ℤ) → IsSmall x → x <ℤ (neg_ℤ (pos (10 ^ 9)) +ℤ pos n)
small_counted n e x h = let low = h.0 in let high = h.1 in omega (arith, ints)

counted_domain : (n : ℕ) → n ≡ 2000000001 → IsDomain (count_up (neg_ℤ (pos (10 ^ 9))) n)
counted_domain n e = record {
  ascending = count_up-ascending (neg_ℤ (pos (10 ^ 9))) n;
  small = Each-from_among IsSmall (count_up (neg_ℤ (pos (10 ^ 9))) n) (λ x here. counted_small n e x (range_of (neg_ℤ (pos (10 ^ 9))) n x here));
}

counted_collects : (n : ℕ) → n ≡ 2000000001 → Collects (count_up (neg_ℤ (pos (10 ^ 9))) n) IsSmall
counted_collects n e = record {
  only = λ x here. counted_small n e x (range_of (neg_ℤ (pos (10 ^ 9))) n x here);
  all = λ x small. in_range (neg_ℤ (pos (10 ^ 9))) n x small.0 (small_counted n e x small);
}

-- they are a domain
pub small_domain : IsDomain small_numbers
unfolding small_numbers
small_domain = counted_domain 2000000001 refl

-- of the numbers within ±10^9
pub small_collects : Collects small_numbers IsSmall
unfolding small_numbers
small_collects = counted_collects 2000000001 refl

-- those that pass a test are a domain, too
pub passing_domain : (test : ℤ → Bool) → IsDomain (filter test small_numbers)
passing_domain test = IsDomain-filter test small_numbers small_domain

pub passing_only : (test : ℤ → Bool) (v : ℤ) → Among v (filter test small_numbers) → IsSmall v × (test v ≡ true)
passing_only test v here = let r = Among-filter_only test small_numbers v here in (small_collects.only v r.0, r.1)

pub passing_all : (test : ℤ → Bool) (v : ℤ) → IsSmall v → test v ≡ true → Among v (filter test small_numbers)
passing_all test v small e = Among-filter_all test small_numbers v (small_collects.all v small) e
