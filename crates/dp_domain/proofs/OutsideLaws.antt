-- Laws of what intervals have in common with others, and of what lies outside of them.
use Rattle.std.proofs.Common.{◌≡◌, ℕ, suc, ◌^◌, ◌-◌, Bool, not, List, [], ◌∷◌, ◌++◌, length, ℤ, pos, ◌+ℤ◌, ◌-ℤ◌, ◌≤ℤ◌, ◌<ℤ◌, Some, slice_get, refl, sym, ◌∙◌, ap, subst, inl, inr, arith}
use Rattle.std.specs.List.{filter, flat_map}
use Rattle.std.proofs.lemmas.Int.{ints}
use Rattle.std.proofs.lemmas.Bool.{both_ways, cases_Bool, false_from_ne_true, not_from_false, not_from_true}
use Rattle.std.proofs.lemmas.Option.{get_or_from_slice_get, none-some, same_Some, slice_get_within}
use Rattle.std.proofs.lemmas.List.{append-nil, append_assoc}
use Rattle.dp_base.specs.Lists.{Among, Each}
use Rattle.dp_base.proofs.Lists.{Among-append_right, Each-among, Each-append, Each-get_or, Each-weaker}
use Rattle.dp_domain.specs.Intervals.{behind, common, gaps_from, interval, lowest, outside, overlap}
use Rattle.dp_domain.specs.Sets.{AreApart, AreMaximal, HasSmallEnds, IsSmall, LiesInOne, expand, is_among}
use Rattle.dp_domain.proofs.ExpandLaws.{expand-all, expand-only, small_in}
use Rattle.dp_domain.proofs.GapLaws.{AreFrom, common_cut, gaps-apart, gaps_all, gaps_only}
use Rattle.dp_domain.proofs.IntervalSteps.{AreBefore, apart-append, cut-expand, cut-maximal, lies_cases, lies_left}
use Rattle.dp_domain.proofs.ShareLaws.{is_among-at, is_among-some}
use Rattle.dp_domain.proofs.TurnLaws.{filter-same}

-- ---- what intervals have in common with others

-- the intervals are maximal, and expand to the numbers of the first that pass the test
pub record Holds (p : ℤ → Bool) (is ks : List (ℤ × ℤ)) : Type 0 where
  pub maximal : AreMaximal ks
  pub numbers : expand ks ≡ filter p (expand is)

-- what they have in common are the numbers that are in both
pub common_holds : (is js ks : List (ℤ × ℤ)) → AreMaximal is → AreApart js → ks ≡ common is js → Holds (λ v. is_among v (expand js)) is ks
common_holds is js ks m a e =
    let p = λ (v : ℤ). is_among v (expand js) in
    let cut = common_cut p js a (λ v h. is_among-at v (expand js) (expand-all js v h)) (λ v t. expand-only js v (is_among-some v (expand js) t)) in
    record {
      maximal = subst AreMaximal (sym e) (cut-maximal (λ i. flat_map (overlap i) js) p cut is m);
      numbers = ap expand e ∙ cut-expand (λ i. flat_map (overlap i) js) p cut is m.apart;
    }

-- ---- what lies outside

-- a number that no set has, nor the one before it
abbrev far : ℤ
far = pos (10 ^ 9) +ℤ pos 2

abbrev with_far : List (ℤ × ℤ) → List (ℤ × ℤ)
with_far is = is ++ (far, far) ∷ []

-- what is behind the last interval is a gap before a further one
gaps_end : (next : ℤ) (is : List (ℤ × ℤ)) (m : ℤ) → gaps_from next (is ++ (m, m) ∷ []) ≡ gaps_from next is ++ interval (behind next is) (m -ℤ pos 1)
gaps_end next [] m = append-nil (interval next (m -ℤ pos 1))
gaps_end next (i ∷ is) m =
    ap (λ ys. interval next (i.0 -ℤ pos 1) ++ ys) (gaps_end (i.1 +ℤ pos 1) is m)
    ∙ sym (append_assoc (interval next (i.0 -ℤ pos 1)) (gaps_from (i.1 +ℤ pos 1) is) (interval (behind (i.1 +ℤ pos 1) is) (m -ℤ pos 1)))

before_far : far -ℤ pos 1 ≡ pos (10 ^ 9) +ℤ pos 1
before_far = omega (arith, ints)

outside_is : (is : List (ℤ × ℤ)) → outside is ≡ gaps_from lowest (with_far is)
outside_is is = sym (gaps_end lowest is far ∙ ap (λ (x : ℤ). gaps_from lowest is ++ interval (behind lowest is) x) before_far)

far_later : (is : List (ℤ × ℤ)) → Each HasSmallEnds is → AreBefore is ((far, far) ∷ [])
far_later is e i j m (inl k) =
    let s : HasSmallEnds i = Each-among HasSmallEnds is e i m in
    let high = s.1.1 in
    subst (λ (q : ℤ × ℤ). (i.1 +ℤ pos 1) <ℤ q.0) (sym k) (omega (arith, ints))
far_later is e i j m (inr none) = absurd none

far_apart : (is : List (ℤ × ℤ)) → AreMaximal is → AreApart (with_far is)
far_apart is m = apart-append is ((far, far) ∷ []) m.apart (omega (arith, ints), tt, tt) (far_later is m.small)

far_from : (is : List (ℤ × ℤ)) → Each HasSmallEnds is → AreFrom lowest (with_far is)
far_from is e = Each-append (λ (j : ℤ × ℤ). lowest ≤ℤ j.0) is ((far, far) ∷ []) (Each-weaker HasSmallEnds (λ (j : ℤ × ℤ). lowest ≤ℤ j.0) (λ j s. s.0.0) is e) (omega (arith, ints), tt)

-- what lies outside of maximal intervals is in intervals apart
outside-apart : (is os : List (ℤ × ℤ)) → AreMaximal is → os ≡ outside is → AreApart os
outside-apart is os m e = gaps-apart lowest (with_far is) os (far_apart is m) (e ∙ outside_is is)

-- what lies outside lies in none of them
outside-only : (is : List (ℤ × ℤ)) (v : ℤ) → AreMaximal is → LiesInOne (outside is) v → LiesInOne is v → ⊥
outside-only is v m r h =
    let g = gaps_only lowest (with_far is) v (far_apart is m) (far_from is m.small) (subst (λ js. LiesInOne js v) (outside_is is) r) in
    g.none (lies_left is ((far, far) ∷ []) v h)

not_far : (v : ℤ) (is : List (ℤ × ℤ)) → IsSmall v → (LiesInOne is v → ⊥) → LiesInOne (with_far is) v → ⊥
not_far v is s n r = elim (lies_cases is ((far, far) ∷ []) v r) [ inl h ↦ n h | inr h ↦ at_far v h.0 s h.1 h.2.0 ]
  where
    at_far : (v : ℤ) (j : ℤ × ℤ) → IsSmall v → Among j ((far, far) ∷ []) → j.0 ≤ℤ v → ⊥
    at_far v j s (inl e) h = let k : far ≤ℤ v = subst (λ (q : ℤ × ℤ). q.0 ≤ℤ v) e h in let high = s.1 in omega (arith, ints)
    at_far v j s (inr none) h = none

-- a number of a set that lies in none of them lies outside
outside-all : (is : List (ℤ × ℤ)) (v : ℤ) → AreMaximal is → IsSmall v → (LiesInOne is v → ⊥) → LiesInOne (outside is) v
outside-all is v m s n =
    let high = s.1 in
    subst (λ js. LiesInOne js v) (sym (outside_is is)) (gaps_all lowest (with_far is) v (far, far) s.0 (not_far v is s n) (Among-append_right (far, far) is ((far, far) ∷ []) (inl refl)) (omega (arith, ints)))

-- of the numbers of a set those outside are those that the other set lacks
outside_test : (js : List (ℤ × ℤ)) (v : ℤ) → AreMaximal js → IsSmall v → is_among v (expand (outside js)) ≡ not (is_among v (expand js))
outside_test js v m s = elim (cases_Bool (is_among v (expand js))) [
  | inl e ↦
      false_from_ne_true (is_among v (expand (outside js))) (λ t. outside-only js v m (expand-only (outside js) v (is_among-some v (expand (outside js)) t)) (expand-only js v (is_among-some v (expand js) e)))
      ∙ sym (not_from_true (is_among v (expand js)) e)
  | inr e ↦
      is_among-at v (expand (outside js)) (expand-all (outside js) v (outside-all js v m s (λ h. both_ways (is_among v (expand js)) e (is_among-at v (expand js) (expand-all js v h)))))
      ∙ sym (not_from_false (is_among v (expand js)) e)
]

-- what intervals have in common with what lies outside of others are the numbers that the others lack
without_holds : (is js ks : List (ℤ × ℤ)) → AreMaximal is → AreMaximal js → ks ≡ common is (outside js) → Holds (λ v. not (is_among v (expand js))) is ks
without_holds is js ks m n e =
    let r = common_holds is (outside js) ks m (outside-apart js (outside js) n refl) e in
    record {
      maximal = r.maximal;
      numbers = r.numbers ∙ filter-same (λ (v : ℤ). is_among v (expand (outside js))) (λ (v : ℤ). not (is_among v (expand js))) (expand is) (λ v h. outside_test js v n (small_in is m.small v (expand-only is v h)));
    }

-- ---- as the code finds them

suc_front : (n : ℕ) → suc (suc n - 1) ≡ suc (suc n) - 1
suc_front n = omega arith

-- the number behind the last interval
pub behind_last : (next v : ℤ) (is : List (ℤ × ℤ)) (p : ℤ × ℤ) → Some p ≡ slice_get is (length is - 1) → v ≡ p.1 +ℤ pos 1 → v ≡ behind next is
behind_last next v [] p e f = absurd (none-some p (sym e))
behind_last next v (i ∷ []) p e f = f ∙ ap (λ (q : ℤ × ℤ). q.1 +ℤ pos 1) (same_Some p i e)
behind_last next v (i ∷ j ∷ is) p e f = behind_last (i.1 +ℤ pos 1) v (j ∷ is) p (e ∙ sym (ap (λ (k : ℕ). slice_get (i ∷ j ∷ is) k) (suc_front (length is)))) f

-- the last of small intervals is small
pub last_small : (is : List (ℤ × ℤ)) (p : ℤ × ℤ) → Each HasSmallEnds is → Some p ≡ slice_get is (length is - 1) → HasSmallEnds p
last_small is p e f =
    subst HasSmallEnds (get_or_from_slice_get is (length is - 1) p p (sym f)) (Each-get_or HasSmallEnds is (length is - 1) p (slice_get_within is (length is - 1) p (sym f)) e)

-- what is common, from copies of the intervals
pub common_found : (is js old others ks : List (ℤ × ℤ)) → AreMaximal is → AreMaximal js → old ≡ is → others ≡ js → ks ≡ common old others → Holds (λ v. is_among v (expand js)) is ks
common_found is js old others ks m n e f g = common_holds is js ks m n.apart (g ∙ ap (λ zs. common zs others) e ∙ ap (common is) f)

-- what lies outside, from copies of the intervals, is in intervals apart
pub outside_found : (js others os gaps : List (ℤ × ℤ)) → AreMaximal js → others ≡ js → os ≡ outside others → gaps ≡ os → AreApart gaps
outside_found js others os gaps m e f g = outside-apart js gaps m (g ∙ f ∙ ap outside e)

-- what the others lack, from copies of the intervals
pub without_found : (is js old others os gaps ks : List (ℤ × ℤ)) → AreMaximal is → AreMaximal js → old ≡ is → others ≡ js → os ≡ outside others → gaps ≡ os → ks ≡ common old gaps → Holds (λ v. not (is_among v (expand js))) is ks
without_found is js old others os gaps ks m n e f g h k = without_holds is js ks m n (k ∙ ap (λ zs. common zs gaps) e ∙ ap (common is) (h ∙ g ∙ ap outside f))
