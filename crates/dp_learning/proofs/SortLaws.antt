-- What an atom keeps of the initial values is one of the lists that are counted.
use Rattle.std.proofs.Common.{◌≡◌, true, false, Bool, cond, ◌&&◌, List, [], ◌∷◌, Option, Some, None, ℤ, ◌≤ℤ◌, int_le, refl, sym, ◌∙◌, ap, subst, inl, inr, arith}
use Rattle.std.specs.List.{filter, flat_map, list_any}
use Rattle.std.proofs.lemmas.Int.{ints}
use Rattle.std.proofs.lemmas.Bool.{cases_Bool, not_from_false}
use Rattle.dp_base.specs.Lists.{Among}
use Rattle.dp_base.proofs.Lists.{Among-append_left, Among-append_right, filter-whole, list_all-from, list_any-none, list_any-some}
use Rattle.dp_domain.specs.Atoms.{Atomic, compares}
use Rattle.dp_domain.specs.Sets.{greatest, least}
use Rattle.dp_domain.specs.States.{Domains, values}
use Rattle.dp_domain.specs.declared.atom.Op.{Op}
use Rattle.dp_domain.specs.declared.atom.Op.TheVariants.{Ge, Le, Eq, Ne}
use Rattle.dp_domain.proofs.AtomLaws.{le-from_test, lt-from_test, same-from_tests, test-from_le, test-from_lt}
use Rattle.dp_domain.proofs.TurnLaws.{Bottoms, Tops, filter-same, greatest-tops, least-bottoms}
use Rattle.dp_learning.specs.Sorts.{kept_at, kept_by, kept_lists}
use Rattle.dp_learning.proofs.DifferenceLaws.{among_different}

-- ---- lists

-- what stands in the list of an item stands in all of them together
among_flat_map : {X A : Type 0} (f : X → List A) (xs : List X) (x : X) (y : A) → Among x xs → Among y (f x) → Among y (flat_map f xs)
among_flat_map f [] x y h k = absurd h
among_flat_map f (z ∷ xs) x y (inl e) k = Among-append_left y (f z) (flat_map f xs) (subst (λ w. Among y (f w)) e k)
among_flat_map f (z ∷ xs) x y (inr h) k = Among-append_right y (f z) (flat_map f xs) (among_flat_map f xs x y h k)

-- where each value fails, nothing is kept
filter_none : (p : ℤ → Bool) (xs : List ℤ) → ((v : ℤ) → Among v xs → p v ≡ false) → filter p xs ≡ []
filter_none p [] h = refl
filter_none p (x ∷ xs) h = ap (λ b. cond b (x ∷ filter p xs) (filter p xs)) (h x (inl refl)) ∙ filter_none p xs (λ v k. h v (inr k))

-- ---- the lists that are counted, with doubles

-- none of the values, all of them, and what is kept by one of them
abbrev listed : List ℤ → List (List ℤ)
listed xs = [] ∷ xs ∷ flat_map (kept_at xs) xs

-- the values that stand in the relation to c
abbrev kept : Op → ℤ → List ℤ → List ℤ
kept o c xs = filter (λ v. compares o v c) xs

listed_none : (o : Op) (c : ℤ) (xs : List ℤ) → ((v : ℤ) → Among v xs → compares o v c ≡ false) → Among (kept o c xs) (listed xs)
listed_none o c xs h = inl (filter_none (λ v. compares o v c) xs h)

listed_all : (o : Op) (c : ℤ) (xs : List ℤ) → ((v : ℤ) → Among v xs → compares o v c ≡ true) → Among (kept o c xs) (listed xs)
listed_all o c xs h = inr (inl (filter-whole (λ v. compares o v c) xs (list_all-from (λ v. compares o v c) xs h)))

among_kept : (o : Op) (m : ℤ) (xs : List ℤ) → Among (kept o m xs) (kept_at xs m)
among_kept Ge m xs = inl refl
among_kept Le m xs = inr (inl refl)
among_kept Eq m xs = inr (inr (inl refl))
among_kept Ne m xs = inr (inr (inr (inl refl)))

-- what is kept by one of the values
listed_at : (o : Op) (m : ℤ) (xs : List ℤ) → Among m xs → Among (kept o m xs) (listed xs)
listed_at o m xs h = inr (inr (among_flat_map (kept_at xs) xs m (kept o m xs) h (among_kept o m xs)))

-- what another number keeps too
listed_as : (o : Op) (c m : ℤ) (xs : List ℤ) → Among m xs → ((v : ℤ) → Among v xs → compares o v c ≡ compares o v m) → Among (kept o c xs) (listed xs)
listed_as o c m xs h same =
    subst (λ ys. Among ys (listed xs)) (sym (filter-same (λ v. compares o v c) (λ v. compares o v m) xs same)) (listed_at o m xs h)

-- ---- each comparison

-- of values from c on, m is the least
same_lower : (c m v : ℤ) → int_le c m ≡ true → (int_le c v ≡ true → m ≤ℤ v) → int_le c v ≡ int_le m v
same_lower c m v e b = elim (cases_Bool (int_le c v)) [
  | inl t ↦ t ∙ sym (test-from_le m v (b t))
  | inr f ↦ f ∙ sym (test-from_lt m v (let k = le-from_test c m e in let l = lt-from_test c v f in omega (arith, ints)))
]

-- of values up to c, m is the greatest
same_upper : (c m v : ℤ) → int_le m c ≡ true → (int_le v c ≡ true → v ≤ℤ m) → int_le v c ≡ int_le v m
same_upper c m v e b = elim (cases_Bool (int_le v c)) [
  | inl t ↦ t ∙ sym (test-from_le v m (b t))
  | inr f ↦ f ∙ sym (test-from_lt v m (let k = le-from_test m c e in let l = lt-from_test v c f in omega (arith, ints)))
]

listed_ge : (c : ℤ) (xs : List ℤ) (o : Option ℤ) → Bottoms (λ v. int_le c v) xs o → Among (kept Ge c xs) (listed xs)
listed_ge c xs None b = listed_none Ge c xs b
listed_ge c xs (Some m) b = listed_as Ge c m xs b.0 (λ v h. same_lower c m v b.1 (b.2 v h))

listed_le : (c : ℤ) (xs : List ℤ) (o : Option ℤ) → Tops (λ v. int_le v c) xs o → Among (kept Le c xs) (listed xs)
listed_le c xs None b = listed_none Le c xs b
listed_le c xs (Some m) b = listed_as Le c m xs b.0 (λ v h. same_upper c m v b.1 (b.2 v h))

-- whether the number is c
abbrev is_at : ℤ → ℤ → Bool
is_at c v = int_le v c && int_le c v

is_listed : (c : ℤ) (xs : List ℤ) → list_any (is_at c) xs ≡ true → Among c xs
is_listed c xs e = let r = list_any-some (is_at c) xs e in subst (λ v. Among v xs) (same-from_tests r.0 c r.2) r.1

listed_eq : (c : ℤ) (xs : List ℤ) (b : Bool) → list_any (is_at c) xs ≡ b → Among (kept Eq c xs) (listed xs)
listed_eq c xs true e = listed_at Eq c xs (is_listed c xs e)
listed_eq c xs false e = listed_none Eq c xs (λ v h. list_any-none (is_at c) xs v e h)

listed_ne : (c : ℤ) (xs : List ℤ) (b : Bool) → list_any (is_at c) xs ≡ b → Among (kept Ne c xs) (listed xs)
listed_ne c xs true e = listed_at Ne c xs (is_listed c xs e)
listed_ne c xs false e = listed_all Ne c xs (λ v h. not_from_false (is_at c v) (list_any-none (is_at c) xs v e h))

listed_kept : (o : Op) (c : ℤ) (xs : List ℤ) → Among (kept o c xs) (listed xs)
listed_kept Ge c xs = listed_ge c xs (least (filter (λ v. int_le c v) xs)) (least-bottoms (λ v. int_le c v) xs)
listed_kept Le c xs = listed_le c xs (greatest (filter (λ v. int_le v c) xs)) (greatest-tops (λ v. int_le v c) xs)
listed_kept Eq c xs = listed_eq c xs (list_any (is_at c) xs) refl
listed_kept Ne c xs = listed_ne c xs (list_any (is_at c) xs) refl

-- what an atom keeps is counted
pub kept-counted : (initial : Domains) (a : Atomic) → Among (kept_by initial a) (kept_lists (values initial a.var))
kept-counted initial a = among_different (listed (values initial a.var)) (kept_by initial a) (listed_kept a.op a.value (values initial a.var))
