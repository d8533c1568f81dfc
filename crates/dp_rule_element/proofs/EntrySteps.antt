-- The entries one by one.
use Rattle.std.proofs.Common.{◌≡◌, ℕ, suc, ◌+◌, ◌<◌, ◌≤◌, Bool, true, false, ◌||◌, List, length, get_or, drop, drop-cons, sym, ◌∙◌, ap, subst, arith}
use Rattle.std.specs.List.{list_any}
use Rattle.std.proofs.lemmas.List.{drop_all}
use Rattle.std.proofs.lemmas.List.FromFn.{get_or-enumerate_from, length-enumerate_from}
use Rattle.dp_domain.specs.declared.term.Term.{Term}
use Rattle.dp_rule_element.specs.Selections.{numbered}

pub entry_at : (xs : List Term) (i : ℕ) (t : Term) → i < length xs → t ≡ get_or xs i t → get_or (numbered xs) i (0, t) ≡ (let e : ℕ × Term = (i + 1, t) in e)
entry_at xs i t h e =
    get_or-enumerate_from 1 xs i (0, t) h ∙ ap (λ (n : ℕ). (let p : ℕ × Term = (n, get_or xs i t) in p)) (next i) ∙ ap (λ (u : Term). (let p : ℕ × Term = (i + 1, u) in p)) (sym e)
  where
    next : (i : ℕ) → 1 + i ≡ i + 1
    next i = omega arith

-- from a place on, the entry at the place comes first
any_from : (p : ℕ × Term → Bool) (xs : List Term) (i : ℕ) (t : Term) → i < length xs → t ≡ get_or xs i t → list_any p (drop i (numbered xs)) ≡ (p (i + 1, t) || list_any p (drop (i + 1) (numbered xs)))
any_from p xs i t h e =
    let within : i < length (numbered xs) = subst (λ n. i < n) (sym (length-enumerate_from 1 xs)) h in
    ap (list_any p) (drop-cons (numbered xs) i (0, t) within)
    ∙ ap (λ (f : ℕ × Term). p f || list_any p (drop (suc i) (numbered xs))) (entry_at xs i t h e)
    ∙ ap (λ n. p (i + 1, t) || list_any p (drop n (numbered xs))) (next i)
  where
    next : (i : ℕ) → suc i ≡ i + 1
    next i = omega arith

-- the entry at the place passes, so one of them does
pub any_here : (p : ℕ × Term → Bool) (xs : List Term) (i : ℕ) (t : Term) → i < length xs → t ≡ get_or xs i t → list_any p (numbered xs) ≡ list_any p (drop i (numbered xs)) → p (i + 1, t) ≡ true → true ≡ list_any p (numbered xs)
any_here p xs i t h e so yes_at = sym (so ∙ any_from p xs i t h e ∙ ap (λ b. b || list_any p (drop (i + 1) (numbered xs))) yes_at)

-- it fails, so one of them passes where one of those after it does
pub any_later : (p : ℕ × Term → Bool) (xs : List Term) (i : ℕ) (t : Term) → i < length xs → t ≡ get_or xs i t → list_any p (numbered xs) ≡ list_any p (drop i (numbered xs)) → p (i + 1, t) ≡ false → list_any p (numbered xs) ≡ list_any p (drop (i + 1) (numbered xs))
any_later p xs i t h e so not_at = so ∙ any_from p xs i t h e ∙ ap (λ b. b || list_any p (drop (i + 1) (numbered xs))) not_at

-- none is left
pub none_left : (p : ℕ × Term → Bool) (xs : List Term) (i : ℕ) → length xs ≤ i → list_any p (numbered xs) ≡ list_any p (drop i (numbered xs)) → false ≡ list_any p (numbered xs)
none_left p xs i h so =
    sym (so ∙ ap (list_any p) (drop_all i (numbered xs) (subst (λ n. n ≤ i) (sym (length-enumerate_from 1 xs)) h)))
