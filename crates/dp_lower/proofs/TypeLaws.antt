-- Sets of numbers, as the code makes them.
use Rattle.std.proofs.Common.{◌≡◌, ◌^◌, Bool, true, false, List, [], ◌∷◌, map, filter, Some, None, Result, Ok, Err, ℤ, pos, neg_ℤ, ◌≤ℤ◌, refl, sym, ◌∙◌, ap, subst, inl, inr, arith}
use Rattle.std.specs.Prelude.{◌&&◌, ◌↔◌, IfOk, int_le}
use Rattle.std.specs.List.{list_all}
use Rattle.std.proofs.lemmas.Bool.Decides.{same_from_decides}
use Rattle.std.proofs.lemmas.Int.{ints}
use Rattle.std.proofs.lemmas.Bool.{and_from, and_parts}
use Rattle.dp_base.specs.Lists.{Among, Each}
use Rattle.dp_base.proofs.Lists.{Among-filter_all, Among-filter_only, Each-among, Each-from_among, filter-whole, list_any-at, list_any-some}
use Rattle.dp_domain.specs.Atoms.{Atomic, meets}
use Rattle.dp_domain.specs.declared.atom.Op.TheVariants.{Ge, Le}
use Rattle.dp_domain.specs.Sets.{Collects, IsDomain, IsSmall, LiesBetween, LiesInOne, is_among, least}
use Rattle.dp_domain.proofs.AtomLaws.{le-from_test, same-from_tests, test-from_le, tests-from_same}
use Rattle.dp_domain.proofs.SetLaws.{IsDomain-filter, IsSmall-among, ascending-same}
use Rattle.dp_lower.specs.Small.{small_numbers}
use Rattle.dp_lower.proofs.SmallLaws.{passing_all, passing_domain, passing_only}

-- ---- filters

filter_by : {A : Type 0} (p q : A → Bool) (x : A) (xs : List A) (a b : Bool) → p x ≡ a → q x ≡ b → filter q (filter p xs) ≡ filter (λ v. p v && q v) xs → filter q (filter p (x ∷ xs)) ≡ filter (λ v. p v && q v) (x ∷ xs)
filter_by p q x xs true true e f h = rw (e, f) (ap (λ ys. x ∷ ys) h)
filter_by p q x xs true false e f h = rw (e, f) h
filter_by p q x xs false b e f h = rw e h

-- one test behind another
pub filter_both : {A : Type 0} (p q : A → Bool) (xs : List A) → filter q (filter p xs) ≡ filter (λ v. p v && q v) xs
filter_both p q [] = refl
filter_both p q (x ∷ xs) = filter_by p q x xs (p x) (q x) refl refl (filter_both p q xs)

same_by : {A : Type 0} (p q : A → Bool) (x : A) (xs : List A) (a : Bool) → p x ≡ a → q x ≡ a → filter p xs ≡ filter q xs → filter p (x ∷ xs) ≡ filter q (x ∷ xs)
same_by p q x xs true e f h = rw (e, f) (ap (λ ys. x ∷ ys) h)
same_by p q x xs false e f h = rw (e, f) h

-- tests that agree keep the same
pub filter_same : {A : Type 0} (p q : A → Bool) (xs : List A) → ((x : A) → p x ≡ q x) → filter p xs ≡ filter q xs
filter_same p q [] h = refl
filter_same p q (x ∷ xs) h = same_by p q x xs (p x) refl (sym (h x)) (filter_same p q xs h)

-- ---- sets by their numbers

-- a domain of exactly the small numbers that pass
pub small_filter : (d : List ℤ) (test : ℤ → Bool) (P : ℤ → Type 0) → IsDomain d → Collects d P → ((v : ℤ) → P v → IsSmall v × (test v ≡ true)) → ((v : ℤ) → IsSmall v → test v ≡ true → P v) →
    d ≡ filter test small_numbers
small_filter d test P domain collects only all =
    ascending-same d (filter test small_numbers) domain.ascending (passing_domain test).ascending
    (λ v here. let r = only v (collects.only v here) in passing_all test v r.0 r.1)
    (λ v here. let r = passing_only test v here in collects.all v (all v r.0 r.1))

-- a domain of exactly the numbers of a set that pass
pub set_filter : (d set : List ℤ) (test : ℤ → Bool) (P : ℤ → Type 0) → IsDomain d → IsDomain set → Collects d P → ((v : ℤ) → P v → Among v set × (test v ≡ true)) → ((v : ℤ) → Among v set → test v ≡ true → P v) →
    d ≡ filter test set
set_filter d set test P domain domain' collects only all =
    ascending-same d (filter test set) domain.ascending (IsDomain-filter test set domain').ascending
    (λ v here. let r = only v (collects.only v here) in Among-filter_all test set v r.0 r.1)
    (λ v here. let r = Among-filter_only test set v here in collects.all v (all v r.0 r.1))

range_small : (first last v : ℤ) → IsSmall first → IsSmall last → LiesBetween (first, last) v → IsSmall v
range_small first last v a b h = let p = a.0 in let q = b.1 in let r = h.0 in let s = h.1 in (omega (arith, ints), omega (arith, ints))

pub range_made : (d : List ℤ) (first last : ℤ) → IsSmall first → IsSmall last → IsDomain d → Collects d (LiesBetween (first, last)) → d ≡ filter (λ v. int_le first v && int_le v last) small_numbers
range_made d first last a b domain collects =
    small_filter d (λ v. int_le first v && int_le v last) (LiesBetween (first, last)) domain collects
    (λ v h. (range_small first last v a b h, and_from (int_le first v) (int_le v last) (test-from_le first v h.0) (test-from_le v last h.1)))
    (λ v small e. let both = and_parts (int_le first v) (int_le v last) e in (le-from_test first v both.0, le-from_test v last both.1))

-- ---- single numbers

pub among_tested : (v : ℤ) (xs : List ℤ) → is_among v xs ≡ true → Among v xs
among_tested v xs e = let r = list_any-some (λ w. int_le v w && int_le w v) xs e in subst (λ w. Among w xs) (sym (same-from_tests v r.0 r.2)) r.1

pub tested_among : (v : ℤ) (xs : List ℤ) → Among v xs → is_among v xs ≡ true
tested_among v xs here = list_any-at (λ w. int_le v w && int_le w v) xs v here (tests-from_same v v refl)

between_one : (v w : ℤ) → w ≤ℤ v → v ≤ℤ w → v ≡ w
between_one v w h k = omega (arith, ints)

single_only : (xs : List ℤ) (ends : ℤ × ℤ) (v : ℤ) → Among ends (map (λ w. (w, w)) xs) → LiesBetween ends v → Among v xs
single_only [] ends v here h = here
single_only (x ∷ xs) ends v (inl e) h = let k : LiesBetween (x, x) v = subst (λ (p : ℤ × ℤ). LiesBetween p v) e h in inl (between_one v x k.0 k.1)
single_only (x ∷ xs) ends v (inr here) h = inr (single_only xs ends v here h)

itself : (v : ℤ) → LiesBetween (v, v) v
itself v = (omega (arith, ints), omega (arith, ints))

single_all : (xs : List ℤ) (v : ℤ) → Among v xs → LiesInOne (map (λ w. (w, w)) xs) v
single_all [] v here = absurd here
single_all (x ∷ xs) v (inl e) = ((x, x), inl refl, subst (λ w. LiesBetween (x, x) w) (sym e) (itself x))
single_all (x ∷ xs) v (inr here) = let r = single_all xs v here in (r.0, inr r.1, r.2)

pub each_single : (xs : List ℤ) → Each IsSmall xs → Each (λ (ends : ℤ × ℤ). IsSmall ends.0 × IsSmall ends.1) (map (λ w. (w, w)) xs)
each_single [] h = tt
each_single (x ∷ xs) h = ((h.0, h.0), each_single xs h.1)

pub list_made : (d xs : List ℤ) (singles : List (ℤ × ℤ)) → Each IsSmall xs → IsDomain d → singles ≡ map (λ w. (w, w)) xs → Collects d (LiesInOne singles) → d ≡ filter (λ v. is_among v xs) small_numbers
list_made d xs singles small domain e collects =
    let collects' : Collects d (LiesInOne (map (λ w. (w, w)) xs)) = subst (λ (is : List (ℤ × ℤ)). Collects d (LiesInOne is)) e collects in
    small_filter d (λ v. is_among v xs) (LiesInOne (map (λ w. (w, w)) xs)) domain collects'
    (λ v h. let here = single_only xs h.0 v h.1 h.2 in (Each-among IsSmall xs small v here, tested_among v xs here))
    (λ v small e. single_all xs v (among_tested v xs e))

pub kept_made : (d set xs kept : List ℤ) (singles : List (ℤ × ℤ)) → IsDomain d → IsDomain set → kept ≡ filter (λ v. is_among v set) xs → singles ≡ map (λ w. (w, w)) kept → Collects d (LiesInOne singles) →
    d ≡ filter (λ v. is_among v xs) set
kept_made d set xs kept singles domain domain' f e collects =
    let collects' : Collects d (LiesInOne (map (λ w. (w, w)) (filter (λ v. is_among v set) xs))) = subst (λ (is : List (ℤ × ℤ)). Collects d (LiesInOne is)) (e ∙ ap (map (λ w. (w, w))) f) collects in
    set_filter d set (λ v. is_among v xs) (LiesInOne (map (λ w. (w, w)) (filter (λ v. is_among v set) xs))) domain domain' collects'
    (λ v h. let r = Among-filter_only (λ w. is_among w set) xs v (single_only (filter (λ w. is_among w set) xs) h.0 v h.1 h.2) in (among_tested v set r.1, tested_among v xs r.0))
    (λ v here e. single_all (filter (λ w. is_among w set) xs) v (Among-filter_all (λ w. is_among w set) xs v (among_tested v xs e) (tested_among v set here)))

-- the numbers that are kept are small
pub kept_small : (set xs : List ℤ) → IsDomain set → Each IsSmall (filter (λ v. is_among v set) xs)
kept_small set xs domain = Each-from_among IsSmall (filter (λ v. is_among v set) xs) (λ v here. IsSmall-among set domain v (among_tested v set (Among-filter_only (λ w. is_among w set) xs v here).1))

-- ---- what the code reads

-- a set cut from below and from above
pub cut_made : (old mid new : List ℤ) (a b : Atomic) (first last : ℤ) → a ≡ record { var = 0; op = Ge; value = first } → b ≡ record { var = 0; op = Le; value = last } → mid ≡ filter (meets a) old → new ≡ filter (meets b) mid →
    new ≡ filter (λ v. int_le first v && int_le v last) old
cut_made old mid new a b first last e f g h =
    h ∙ ap (λ (c : Atomic). filter (meets c) mid) f ∙ ap (filter (λ v. int_le v last)) (g ∙ ap (λ (c : Atomic). filter (meets c) old) e) ∙ filter_both (λ v. int_le first v) (λ v. int_le v last) old

pub has_made : (r : Bool) (v w : ℤ) (xs : List ℤ) → w ≡ v → (r ≡ true) ↔ Among w xs → r ≡ is_among v xs
has_made r v w xs e iff =
    same_from_decides r (is_among v xs) (λ t. subst (λ u. Among u xs) e (iff.0 t), λ here. iff.1 (subst (λ u. Among u xs) (sym e) here)) (among_tested v xs, tested_among v xs)

pub ok_both : {T E : Type 0} (r : Result T E) (P Q R : T → Type 0) → IfOk r P → IfOk r Q → ((x : T) → P x → Q x → R x) → IfOk r R
ok_both (Ok x) P Q R p q f = f x p q
ok_both (Err e) P Q R p q f = tt

-- nothing is taken from an empty set
pub none_least : (xs : List ℤ) (test : ℤ → Bool) → least xs ≡ None → xs ≡ filter test xs
none_least [] test e = refl
none_least (x ∷ xs) test e = absurd (some_is_not e)
  where
    some_is_not : {v : ℤ} → Some v ≡ None → ⊥
    some_is_not e = cc

all_pass : (xs : List ℤ) → list_all (λ v. true) xs ≡ true
all_pass [] = refl
all_pass (x ∷ xs) = all_pass xs

pub filter_true : (xs : List ℤ) → filter (λ v. true) xs ≡ xs
filter_true xs = filter-whole (λ v. true) xs (all_pass xs)

-- every small number lies between the least and the greatest
pub all_small : filter (λ v. int_le (neg_ℤ (pos (10 ^ 9))) v && int_le v (pos (10 ^ 9))) small_numbers ≡ filter (λ v. true) small_numbers
all_small = sym (small_filter (filter (λ v. true) small_numbers) (λ v. int_le (neg_ℤ (pos (10 ^ 9))) v && int_le v (pos (10 ^ 9))) IsSmall (passing_domain (λ v. true))
    (record { only = λ v here. (passing_only (λ w. true) v here).0; all = λ v small. passing_all (λ w. true) v small refl })
    (λ v small. (small, and_from (int_le (neg_ℤ (pos (10 ^ 9))) v) (int_le v (pos (10 ^ 9))) (test-from_le (neg_ℤ (pos (10 ^ 9))) v small.0) (test-from_le v (pos (10 ^ 9)) small.1)))
    (λ v small e. small))
