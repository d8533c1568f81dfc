-- Laws of the least number from a value on, and of the greatest up to it: an interval on that side gives it.
use Rattle.std.proofs.Common.{◌≡◌, ◌-◌, List, [], ◌∷◌, length, ℤ, ◌≤ℤ◌, int_le, Some, None, option_map, slice_get, refl, sym, ◌∙◌, ap, subst, inl, arith}
use Rattle.std.specs.Int.{int_max, int_min}
use Rattle.std.specs.List.{filter}
use Rattle.std.proofs.lemmas.Int.{ints}
use Rattle.dp_base.specs.Lists.{Among}
use Rattle.dp_base.proofs.Lists.{Among-filter_all, Among-filter_only}
use Rattle.dp_domain.specs.Sets.{AreApart, LiesBetween, expand, greatest, least}
use Rattle.dp_domain.proofs.AtomLaws.{le-from_test, test-from_le}
use Rattle.dp_domain.proofs.ExpandLaws.{expand-all, expand-only, first_bound, last_of}
use Rattle.dp_domain.proofs.IntervalLaws.{AreApart-among}
use Rattle.dp_domain.proofs.IntervalSteps.{greater, lesser, over_both, under_both}
use Rattle.dp_domain.proofs.ReachSteps.{AreApart-filter}
use Rattle.dp_domain.proofs.SetLaws.{greatest-is, least-is}
use Rattle.dp_domain.proofs.StateLaws.{is_nil-none, nil-from_test}

nothing : (xs : List ℤ) → ((v : ℤ) → Among v xs → ⊥) → xs ≡ []
nothing xs h = nil-from_test xs (is_nil-none xs h)

-- ---- from a value on

-- a number from the value on lies in an interval that does not end before it
late : (is ks : List (ℤ × ℤ)) (value v : ℤ) → filter (λ i. int_le value i.1) is ≡ ks → Among v (filter (int_le value) (expand is)) → (j : ℤ × ℤ) × Among j ks × LiesBetween j v × (value ≤ℤ v)
late is ks value v e h =
    let r = Among-filter_only (int_le value) (expand is) v h in
    let s = expand-only is v r.0 in
    let k = le-from_test value v r.1 in
    let high = s.2.1 in
    (s.0, subst (λ js. Among s.0 js) e (Among-filter_all (λ (i : ℤ × ℤ). int_le value i.1) is s.0 s.1 (test-from_le value s.0.1 (omega (arith, ints)))), s.2, k)

least_late : (is ks : List (ℤ × ℤ)) (value : ℤ) → AreApart is → filter (λ i. int_le value i.1) is ≡ ks → least (filter (int_le value) (expand is)) ≡ option_map (λ (i : ℤ × ℤ). int_max i.0 value) (slice_get ks 0)
least_late is [] value a e = ap least (nothing (filter (int_le value) (expand is)) (λ v h. (late is [] value v e h).1))
least_late is (k ∷ ks) value a e =
    let q = Among-filter_only (λ (i : ℤ × ℤ). int_le value i.1) is k (subst (λ js. Among k js) (sym e) (inl refl)) in
    let m = int_max k.0 value in
    let c = subst AreApart e (AreApart-filter (λ (i : ℤ × ℤ). int_le value i.1) is a) in
    least-is (filter (int_le value) (expand is)) m
    (Among-filter_all (int_le value) (expand is) m
    (expand-all is m (k, q.0, ((greater k.0 value).0, over_both k.1 k.0 value (AreApart-among is a k q.0) (le-from_test value k.1 q.1))))
    (test-from_le value m (greater k.0 value).1))
    (λ v h. let r = late is (k ∷ ks) value v e h in over_both v k.0 value (first_bound k ks c v (r.0, r.1, r.2)) r.3)

-- the least number from the value on, by the first interval that does not end before it
least_from-expand : (is : List (ℤ × ℤ)) (value : ℤ) → AreApart is → least (filter (int_le value) (expand is)) ≡ option_map (λ (i : ℤ × ℤ). int_max i.0 value) (slice_get (filter (λ i. int_le value i.1) is) 0)
least_from-expand is value a = least_late is (filter (λ (i : ℤ × ℤ). int_le value i.1) is) value a refl

-- the same as the code finds it, where there is one
pub least_from_some : (is js ks : List (ℤ × ℤ)) (xs : List ℤ) (value w v : ℤ) (p : ℤ × ℤ) → AreApart is → expand is ≡ xs → js ≡ is → w ≡ value → ks ≡ filter (λ i. int_le w i.1) js → Some p ≡ slice_get ks 0 → v ≡ int_max p.0 w → Some v ≡ least (filter (int_le value) xs)
least_from_some is js ks xs value w v p a e f g h k l =
    ap Some l ∙ ap (option_map (λ (i : ℤ × ℤ). int_max i.0 w)) (k ∙ ap (λ (zs : List (ℤ × ℤ)). slice_get zs 0) (h ∙ ap (filter (λ (i : ℤ × ℤ). int_le w i.1)) f))
    ∙ sym (least_from-expand is w a) ∙ ap (λ (y : ℤ). least (filter (int_le y) (expand is))) g ∙ ap (λ (ys : List ℤ). least (filter (int_le value) ys)) e

-- and where there is none
pub least_from_none : (is js ks : List (ℤ × ℤ)) (xs : List ℤ) (value w : ℤ) → AreApart is → expand is ≡ xs → js ≡ is → w ≡ value → ks ≡ filter (λ i. int_le w i.1) js → None ≡ slice_get ks 0 → None ≡ least (filter (int_le value) xs)
least_from_none is js ks xs value w a e f g h k =
    ap (option_map (λ (i : ℤ × ℤ). int_max i.0 w)) (k ∙ ap (λ (zs : List (ℤ × ℤ)). slice_get zs 0) (h ∙ ap (filter (λ (i : ℤ × ℤ). int_le w i.1)) f))
    ∙ sym (least_from-expand is w a) ∙ ap (λ (y : ℤ). least (filter (int_le y) (expand is))) g ∙ ap (λ (ys : List ℤ). least (filter (int_le value) ys)) e

-- ---- up to a value

-- a number up to the value lies in an interval that does not begin after it
early : (is ks : List (ℤ × ℤ)) (value v : ℤ) → filter (λ i. int_le i.0 value) is ≡ ks → Among v (filter (λ v. int_le v value) (expand is)) → (j : ℤ × ℤ) × Among j ks × LiesBetween j v × (v ≤ℤ value)
early is ks value v e h =
    let r = Among-filter_only (λ (w : ℤ). int_le w value) (expand is) v h in
    let s = expand-only is v r.0 in
    let k = le-from_test v value r.1 in
    let low = s.2.0 in
    (s.0, subst (λ js. Among s.0 js) e (Among-filter_all (λ (i : ℤ × ℤ). int_le i.0 value) is s.0 s.1 (test-from_le s.0.0 value (omega (arith, ints)))), s.2, k)

greatest_early : (is ks : List (ℤ × ℤ)) (value : ℤ) → AreApart is → filter (λ i. int_le i.0 value) is ≡ ks → greatest (filter (λ v. int_le v value) (expand is)) ≡ option_map (λ (i : ℤ × ℤ). int_min i.1 value) (slice_get ks (length ks - 1))
greatest_early is [] value a e = ap greatest (nothing (filter (λ (v : ℤ). int_le v value) (expand is)) (λ v h. (early is [] value v e h).1))
greatest_early is (k ∷ ks) value a e =
    let c = subst AreApart e (AreApart-filter (λ (i : ℤ × ℤ). int_le i.0 value) is a) in
    let r = last_of k ks c in
    let j = r.0 in
    let m = int_min j.1 value in
    let q = Among-filter_only (λ (i : ℤ × ℤ). int_le i.0 value) is j (subst (λ js. Among j js) (sym e) r.1.among) in
    greatest-is (filter (λ (v : ℤ). int_le v value) (expand is)) m
    (Among-filter_all (λ (v : ℤ). int_le v value) (expand is) m
    (expand-all is m (j, q.0, (under_both j.0 j.1 value r.1.some (le-from_test j.0 value q.1), (lesser j.1 value).0)))
    (test-from_le m value (lesser j.1 value).1))
    (λ v h. let s = early is (k ∷ ks) value v e h in under_both v j.1 value (r.1.bound v (s.0, s.1, s.2)) s.3)
    ∙ sym (ap (option_map (λ (i : ℤ × ℤ). int_min i.1 value)) r.1.place)

-- the greatest number up to the value, by the last interval that does not begin after it
greatest_to-expand : (is : List (ℤ × ℤ)) (value : ℤ) → AreApart is → greatest (filter (λ v. int_le v value) (expand is)) ≡ option_map (λ (i : ℤ × ℤ). int_min i.1 value) (slice_get (filter (λ i. int_le i.0 value) is) (length (filter (λ i. int_le i.0 value) is) - 1))
greatest_to-expand is value a = greatest_early is (filter (λ (i : ℤ × ℤ). int_le i.0 value) is) value a refl

-- the same as the code finds it, where there is one
pub greatest_to_some : (is js ks : List (ℤ × ℤ)) (xs : List ℤ) (value w v : ℤ) (p : ℤ × ℤ) → AreApart is → expand is ≡ xs → js ≡ is → w ≡ value → ks ≡ filter (λ i. int_le i.0 w) js → Some p ≡ slice_get ks (length ks - 1) → v ≡ int_min p.1 w → Some v ≡ greatest (filter (λ v. int_le v value) xs)
greatest_to_some is js ks xs value w v p a e f g h k l =
    ap Some l ∙ ap (option_map (λ (i : ℤ × ℤ). int_min i.1 w)) (k ∙ ap (λ (zs : List (ℤ × ℤ)). slice_get zs (length zs - 1)) (h ∙ ap (filter (λ (i : ℤ × ℤ). int_le i.0 w)) f))
    ∙ sym (greatest_to-expand is w a) ∙ ap (λ (y : ℤ). greatest (filter (λ (v : ℤ). int_le v y) (expand is))) g ∙ ap (λ (ys : List ℤ). greatest (filter (λ (v : ℤ). int_le v value) ys)) e

-- and where there is none
pub greatest_to_none : (is js ks : List (ℤ × ℤ)) (xs : List ℤ) (value w : ℤ) → AreApart is → expand is ≡ xs → js ≡ is → w ≡ value → ks ≡ filter (λ i. int_le i.0 w) js → None ≡ slice_get ks (length ks - 1) → None ≡ greatest (filter (λ v. int_le v value) xs)
greatest_to_none is js ks xs value w a e f g h k =
    ap (option_map (λ (i : ℤ × ℤ). int_min i.1 w)) (k ∙ ap (λ (zs : List (ℤ × ℤ)). slice_get zs (length zs - 1)) (h ∙ ap (filter (λ (i : ℤ × ℤ). int_le i.0 w)) f))
    ∙ sym (greatest_to-expand is w a) ∙ ap (λ (y : ℤ). greatest (filter (λ (v : ℤ). int_le v y) (expand is))) g ∙ ap (λ (ys : List ℤ). greatest (filter (λ (v : ℤ). int_le v value) ys)) e
