-- Steps of the code that lists the numbers of intervals.
use Rattle.std.proofs.Common.{◌≡◌, ℕ, suc, ◌+◌, ◌<◌, ◌⊎◌, List, [], ◌∷◌, ◌++◌, length, get_or, take, ℤ, pos, ◌+ℤ◌, ◌-ℤ◌, ◌≤ℤ◌, ◌<ℤ◌, sym, ◌∙◌, ap, inl, inr, arith}
use Rattle.std.proofs.lemmas.Int.{ints}
use Rattle.std.proofs.lemmas.List.{append-nil, append_assoc}
use Rattle.dp_domain.specs.Sets.{count_of, expand, numbers_between, numbers_from}
use Rattle.dp_domain.proofs.ExpandLaws.{count_is, count_more, count_none, from_push}
use Rattle.dp_domain.proofs.IntervalSteps.{flat_more}

-- after the numbers that were there stand those from the first up to the next, which goes past the last by one at most
pub record Runs (before now : List ℤ) (first last next : ℤ) : Type 0 where
  pub numbers : now ≡ before ++ numbers_from first (count_of (next -ℤ first))
  pub above : first ≤ℤ next
  pub below : (next ≡ first) ⊎ (next ≤ℤ (last +ℤ pos 1))

counted : (first : ℤ) (n m : ℕ) → n ≡ m → numbers_from first n ≡ numbers_from first m
counted first n m e = ap (λ (k : ℕ). numbers_from first k) e

pub Runs-none : (before : List ℤ) (first last next : ℤ) → next ≡ first → Runs before before first last next
Runs-none before first last next e = record {
  numbers = sym (append-nil before) ∙ ap (λ ys. before ++ ys) (sym (counted first (count_of (next -ℤ first)) 0 (count_none (next -ℤ first) (omega (arith, ints)))));
  above = omega (arith, ints);
  below = inl e;
}

ended : (first next : ℤ) (n : ℕ) → pos n ≡ next -ℤ first → first +ℤ pos n ≡ next
ended first next n e = omega (arith, ints)

pub Runs-more : (before now later : List ℤ) (first last next after : ℤ) → next <ℤ (last +ℤ pos 1) → after ≡ next +ℤ pos 1 → later ≡ now ++ next ∷ [] → Runs before now first last next → Runs before later first last after
Runs-more before now later first last next after h e i r =
    let n = count_of (next -ℤ first) in
    let above = r.above in
    let low : pos 0 ≤ℤ (next -ℤ first) = omega (arith, ints) in
    let c : count_of (after -ℤ first) ≡ suc n = count_more (next -ℤ first) (after -ℤ first) low (omega (arith, ints)) in
    let l : first +ℤ pos n ≡ next = ended first next n (count_is (next -ℤ first) low) in
    record {
      numbers = i ∙ ap (λ ys. ys ++ next ∷ []) r.numbers ∙ append_assoc before (numbers_from first n) (next ∷ [])
          ∙ ap (λ ys. before ++ ys) (ap (λ (v : ℤ). numbers_from first n ++ v ∷ []) (sym l) ∙ sym (from_push first n) ∙ counted first (suc n) (count_of (after -ℤ first)) (sym c));
      above = omega (arith, ints);
      below = inr (omega (arith, ints));
    }

run_count : (first last next : ℤ) → first ≤ℤ next → (last +ℤ pos 1) ≤ℤ next → (next ≡ first) ⊎ (next ≤ℤ (last +ℤ pos 1)) → count_of (next -ℤ first) ≡ count_of ((last +ℤ pos 1) -ℤ first)
run_count first last next a h (inl e) = count_none (next -ℤ first) (omega (arith, ints)) ∙ sym (count_none ((last +ℤ pos 1) -ℤ first) (omega (arith, ints)))
run_count first last next a h (inr l) = let e : next -ℤ first ≡ (last +ℤ pos 1) -ℤ first = omega (arith, ints) in ap count_of e

runs_between : (before now : List ℤ) (first last next : ℤ) → (last +ℤ pos 1) ≤ℤ next → Runs before now first last next → now ≡ before ++ numbers_between (first, last)
unfolding numbers_between
runs_between before now first last next h r = r.numbers ∙ ap (λ ys. before ++ ys) (counted first (count_of (next -ℤ first)) (count_of ((last +ℤ pos 1) -ℤ first)) (run_count first last next r.above h r.below))

pub Runs-all : (before now : List ℤ) (first last next : ℤ) (ends : ℤ × ℤ) → first ≡ ends.0 → last ≡ ends.1 → (last +ℤ pos 1) ≤ℤ next → Runs before now first last next → now ≡ before ++ numbers_between ends
Runs-all before now first last next ends e f h r =
    runs_between before now first last next h r ∙ ap (λ (x : ℤ). before ++ numbers_between (x, last)) e ∙ ap (λ (y : ℤ). before ++ numbers_between (ends.0, y)) f

-- the numbers of one interval more
pub expand_more : (xs : List (ℤ × ℤ)) (i : ℕ) (d : ℤ × ℤ) (old now : List ℤ) → i < length xs → old ≡ expand (take i xs) → now ≡ old ++ numbers_between (get_or xs i d) → now ≡ expand (take (i + 1) xs)
unfolding expand
expand_more xs i d old now h k n = flat_more numbers_between xs i d [] old now h k n

-- no interval has no number
pub expand_none : (xs : List ℤ) → xs ≡ [] → xs ≡ expand []
unfolding expand
expand_none xs e = e
