-- Laws of the tests whether a number is in a set, and whether two sets share one.
use Rattle.std.proofs.Common.{◌≡◌, Bool, true, false, ◌&&◌, ◌↔◌, IsTrue, List, [], ◌∷◌, ℤ, int_le, refl, sym, ◌∙◌, subst, inl, inr}
use Rattle.std.proofs.lemmas.Bool.{false≢true, false_from_ne_true}
use Rattle.dp_base.specs.Lists.{Among}
use Rattle.dp_base.proofs.Lists.{list_any-at, list_any-some}
use Rattle.dp_domain.specs.Sets.{is_among, share}
use Rattle.dp_domain.proofs.AtomLaws.{same-from_tests, tests-from_same}

-- a number that passes the test is in the set
pub is_among-some : (v : ℤ) (xs : List ℤ) → is_among v xs ≡ true → Among v xs
is_among-some v xs e =
    let r = list_any-some (λ w. int_le v w && int_le w v) xs e in
    subst (λ w. Among w xs) (sym (same-from_tests v r.0 r.2)) r.1

-- a number of the set passes the test
pub is_among-at : (v : ℤ) (xs : List ℤ) → Among v xs → is_among v xs ≡ true
is_among-at v xs h = list_any-at (λ w. int_le v w && int_le w v) xs v h (tests-from_same v v refl)

-- an answer that is true exactly for the numbers of the set is the test's
pub is_among-by : (v w : ℤ) (xs : List ℤ) (b : Bool) → w ≡ v → (IsTrue b ↔ Among w xs) → b ≡ is_among v xs
is_among-by v w xs true e h = sym (is_among-at v xs (subst (λ x. Among x xs) e (h.0 refl)))
is_among-by v w xs false e h = sym (false_from_ne_true (is_among v xs) (λ k. false≢true (h.1 (subst (λ x. Among x xs) (sym e) (is_among-some v xs k)))))

-- two sets share a number that is in both
pub share-at : (xs ys : List ℤ) (v : ℤ) → Among v xs → Among v ys → share xs ys ≡ true
share-at xs ys v h k = list_any-at (λ w. is_among w ys) xs v h (is_among-at v ys k)

-- and have such a number where they share one
pub share-some : (xs ys : List ℤ) → share xs ys ≡ true → (v : ℤ) × Among v xs × Among v ys
share-some xs ys e = let r = list_any-some (λ w. is_among w ys) xs e in (r.0, r.1, is_among-some r.0 ys r.2)

-- where no number is in both, they share none
pub share-none : (xs ys : List ℤ) → ((v : ℤ) → Among v xs → Among v ys → ⊥) → share xs ys ≡ false
share-none xs ys f = false_from_ne_true (share xs ys) (λ e. let r = share-some xs ys e in f r.0 r.1 r.2)

-- a set shares a number with the set of one number exactly where it has that number
pub share_one-by : (v w : ℤ) (xs ys : List ℤ) (b : Bool) → w ≡ v → ys ≡ v ∷ [] → (IsTrue b ↔ Among w xs) → b ≡ share xs ys
share_one-by v w xs ys true e f h = sym (share-at xs ys v (subst (λ x. Among x xs) e (h.0 refl)) (subst (λ zs. Among v zs) (sym f) (inl refl)))
share_one-by v w xs ys false e f h = sym (share-none xs ys (λ u a b. false≢true (h.1 (subst (λ x. Among x xs) (only v w u ys e f b) a))))
  where
    only : (v w u : ℤ) (ys : List ℤ) → w ≡ v → ys ≡ v ∷ [] → Among u ys → u ≡ w
    only v w u ys e f b = elim (subst (λ zs. Among u zs) f b) [ inl g ↦ g ∙ sym e | inr none ↦ absurd none ]

-- and so it is for the set of one number with another
pub one_shares-by : (v w : ℤ) (xs ys : List ℤ) (b : Bool) → w ≡ v → ys ≡ v ∷ [] → (IsTrue b ↔ Among w xs) → b ≡ share ys xs
one_shares-by v w xs ys true e f h = sym (share-at ys xs v (subst (λ zs. Among v zs) (sym f) (inl refl)) (subst (λ x. Among x xs) e (h.0 refl)))
one_shares-by v w xs ys false e f h = sym (share-none ys xs (λ u b a. false≢true (h.1 (subst (λ x. Among x xs) (only v w u ys e f b) a))))
  where
    only : (v w u : ℤ) (ys : List ℤ) → w ≡ v → ys ≡ v ∷ [] → Among u ys → u ≡ w
    only v w u ys e f b = elim (subst (λ zs. Among u zs) f b) [ inl g ↦ g ∙ sym e | inr none ↦ absurd none ]
