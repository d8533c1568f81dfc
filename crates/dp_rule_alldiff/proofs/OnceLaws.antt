-- Variables of which none stands again are as many as their scope has.
use Rattle.std.specs.Prelude.{◌≡◌, ℕ, suc, ◌<◌, ◌≤◌, ◌⊎◌, List, [], ◌∷◌, length, nat_eq, IsTrue}
use Rattle.std.proofs.Common.{refl, sym, ◌∙◌, ap, inl, inr, arith}
use Rattle.std.proofs.lemmas.Bool.Decides.{nat_tests}
use Rattle.dp_base.specs.Lists.{Among, Climbs}
use Rattle.dp_base.specs.Scopes.{in_order, with_variable}
use Rattle.dp_base.proofs.Lists.{Each-among}
use Rattle.dp_base.proofs.ScopeLaws.{among_in_order, among_in_order_out, climbs_in_order, order_of, with_variable-after, with_variable-before, with_variable-same}
use Rattle.dp_rule_alldiff.specs.Once.{AreOnce}

-- an insertion adds one, or the variable is there
length_with : (x : ℕ) (ys : List ℕ) → (length (with_variable x ys) ≡ suc (length ys)) ⊎ ((length (with_variable x ys) ≡ length ys) × Among x ys)
length_with x [] = inl refl
length_with x (y ∷ ys) = elim (order_of x y) [
  | inl before ↦ inl (ap length (with_variable-before x y ys before))
  | inr (inl after) ↦ elim (length_with x ys) [
    | inl e ↦ inl (ap length (with_variable-after x y ys after) ∙ ap suc e)
    | inr r ↦ inr (ap length (with_variable-after x y ys after) ∙ ap suc r.0, inr r.1)
  ]
  | inr (inr one) ↦ inr (ap length (with_variable-same x y ys one), inl one.same)
]

-- where it is there, it adds none
length_again : (x : ℕ) (ys : List ℕ) → Climbs ys → Among x ys → length (with_variable x ys) ≡ length ys
length_again x [] climbs here = absurd here
length_again x (y ∷ ys) climbs here = elim (order_of x y) [
  | inl before ↦ absurd (elim here [
    | inl e ↦ apart x y before.less e
    | inr later ↦ turned x y before.less (Each-among (λ z. y < z) ys climbs.0 x later)
  ])
  | inr (inl after) ↦ elim here [
    | inl e ↦ absurd (apart y x after.less (sym e))
    | inr later ↦ ap length (with_variable-after x y ys after) ∙ ap suc (length_again x ys climbs.1 later)
  ]
  | inr (inr one) ↦ ap length (with_variable-same x y ys one)
]
  where
    apart : (x y : ℕ) → x < y → x ≡ y → ⊥
    apart x y h e = omega arith

    turned : (x y : ℕ) → x < y → y < x → ⊥
    turned x y h k = omega arith

-- a scope has no more variables
scope_few : (xs : List ℕ) → length (in_order xs) ≤ length xs
scope_few [] = omega arith
scope_few (x ∷ xs) = elim (length_with x (in_order xs)) [
  | inl e ↦ one (length (with_variable x (in_order xs))) (length (in_order xs)) (length xs) e (scope_few xs)
  | inr r ↦ none (length (with_variable x (in_order xs))) (length (in_order xs)) (length xs) r.0 (scope_few xs)
]
  where
    one : (n m k : ℕ) → n ≡ suc m → m ≤ k → n ≤ suc k
    one n m k e h = omega arith

    none : (n m k : ℕ) → n ≡ m → m ≤ k → n ≤ suc k
    none n m k e h = omega arith

-- where it has as many, none stands again
pub once_where : (xs : List ℕ) → length xs ≡ length (in_order xs) → AreOnce xs
once_where [] e = tt
once_where (x ∷ xs) e = (
  λ here. fewer (length (with_variable x (in_order xs))) (length (in_order xs)) (length xs) e (length_again x (in_order xs) (climbs_in_order xs) (among_in_order x xs here)) (scope_few xs),
  once_where xs (elim (length_with x (in_order xs)) [
    | inl f ↦ rest (length (with_variable x (in_order xs))) (length (in_order xs)) (length xs) e f
    | inr r ↦ absurd (fewer (length (with_variable x (in_order xs))) (length (in_order xs)) (length xs) e r.0 (scope_few xs))
  ]),
)
  where
    fewer : (n m k : ℕ) → suc k ≡ n → n ≡ m → m ≤ k → ⊥
    fewer n m k e f h = omega arith

    rest : (n m k : ℕ) → suc k ≡ n → n ≡ suc m → k ≡ m
    rest n m k e f = omega arith

-- and where none stands again, it has as many
pub as_many_where : (xs : List ℕ) → AreOnce xs → length xs ≡ length (in_order xs)
as_many_where [] once = refl
as_many_where (x ∷ xs) once = elim (length_with x (in_order xs)) [
  | inl e ↦ ap suc (as_many_where xs once.1) ∙ sym e
  | inr r ↦ absurd (once.0 (among_in_order_out x xs r.1))
]

-- the two counts, compared
pub once_decided : (xs scope : List ℕ) (n : ℕ) → n ≡ length xs → scope ≡ in_order xs → (IsTrue (nat_eq n (length scope)) → AreOnce xs) × (AreOnce xs → IsTrue (nat_eq n (length scope)))
once_decided xs scope n e f = (
  λ t. once_where xs (sym e ∙ same n (length scope) t ∙ ap length f),
  λ once. tested n (length scope) (e ∙ as_many_where xs once ∙ sym (ap length f)),
)
  where
    same : (n m : ℕ) → IsTrue (nat_eq n m) → n ≡ m
    same n m t = grind (arith, nat_tests)

    tested : (n m : ℕ) → n ≡ m → IsTrue (nat_eq n m)
    tested n m e = grind (arith, nat_tests)
