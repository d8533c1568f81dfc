-- The laws of a test by bounds, for any operation whose results over two intervals are known to their ends.
use Rattle.std.specs.Prelude.{◌≡◌, ℕ, Bool, true, false, ◌||◌, ◌↔◌, ◌<◌, ◌⊎◌, List, [], ◌∷◌, length, ℤ, ◌≤ℤ◌, ◌<ℤ◌, int_lt}
use Rattle.std.proofs.Common.{refl, sym, ◌∙◌, ap, subst, inl, inr, arith}
use Rattle.std.proofs.lemmas.Int.{ints}
use Rattle.std.proofs.lemmas.Bool.{both_ways, cases_Bool, false_from_ne_true, or_cases, or_left, or_right}
use Rattle.dp_base.specs.Lists.{Among}
use Rattle.dp_base.proofs.Lists.{Each-among}
use Rattle.dp_base.proofs.ScopeLaws.{climbs_in_order}
use Rattle.dp_domain.specs.Faces.{Covers, Fixes, IsLawful}
use Rattle.dp_domain.specs.Sets.{LiesBetween}
use Rattle.dp_domain.specs.States.{Domains, IsWithin, LiesIn, is_dead}
use Rattle.dp_domain.specs.Terms.{IsTermOf, term_at, term_scope, term_values, term_variables}
use Rattle.dp_domain.specs.declared.term.Term.{Term}
use Rattle.dp_domain.specs.declared.term.Term.TheVariants.{Var, Const}
use Rattle.dp_domain.proofs.AtomLaws.{order_cases}
use Rattle.dp_domain.proofs.SetLaws.{greatest_from-among, greatest_from-bound, least_from-among, least_from-bound}
use Rattle.dp_domain.proofs.StateLaws.{LiesIn-alive, alive-value, dead-within}
use Rattle.dp_domain.proofs.TermLaws.{term_covered, term_in_scope, term_values-fixed, term_values-local, term_values-sound, term_values-within}
use Rattle.dp_rule_arith.specs.Operations.{AreApart, are_apart, bounds, ends_of, face_by, test_by}

-- the results of the operation over two intervals lie between the ends of the span, and reach both
pub record IsSpanOf (f : ℤ → ℤ → ℤ) (span : ℤ × ℤ → ℤ × ℤ → ℤ × ℤ) : Type 0 where
  pub holds : (i j : ℤ × ℤ) (x y : ℤ) → LiesBetween i x → LiesBetween j y → LiesBetween (span i j) (f x y)
  pub low : (i j : ℤ × ℤ) → i.0 ≤ℤ i.1 → j.0 ≤ℤ j.1 → (x : ℤ) × (y : ℤ) × LiesBetween i x × LiesBetween j y × ((span i j).0 ≡ f x y)
  pub high : (i j : ℤ × ℤ) → i.0 ≤ℤ i.1 → j.0 ≤ℤ j.1 → (x : ℤ) × (y : ℤ) × LiesBetween i x × LiesBetween j y × ((span i j).1 ≡ f x y)

-- a variable has no value, or the span of the arguments' bounds lies apart from the result's
abbrev pub ClashesBy : (ℤ × ℤ → ℤ × ℤ → ℤ × ℤ) → Term → Term → Term → Domains → Type 0
ClashesBy span a b c d = (is_dead d ≡ true) ⊎ AreApart (span (bounds d a) (bounds d b)) (bounds d c)

-- the operation makes the result of the arguments
abbrev pub MeetsBy : (ℤ → ℤ → ℤ) → Term → Term → Term → (ℕ → ℤ) → Type 0
MeetsBy f a b c s = f (term_at s a) (term_at s b) ≡ term_at s c

-- ---- order

at_most_both : (a b c : ℤ) → a ≤ℤ b → b ≤ℤ c → a ≤ℤ c
at_most_both a b c h k = omega (arith, ints)

less_between : (a b c e : ℤ) → a ≤ℤ b → b <ℤ c → c ≤ℤ e → a <ℤ e
less_between a b c e h k l = omega (arith, ints)

not_both : (a b c : ℤ) → a ≤ℤ b → b <ℤ c → c ≤ℤ a → ⊥
not_both a b c h k l = omega (arith, ints)

same_less : (a b c e : ℤ) → a ≡ b → c ≡ e → b <ℤ e → a <ℤ c
same_less a b c e p q h = omega (arith, ints)

less_from : (x y : ℤ) → int_lt x y ≡ true → x <ℤ y
less_from x y e = omega (arith, ints)

less_to : (x y : ℤ) → x <ℤ y → int_lt x y ≡ true
less_to x y h = elim (cases_Bool (int_lt x y)) [ inl e ↦ e | inr e ↦ absurd (omega (arith, ints)) ]

only_between : (v x : ℤ) → v ≤ℤ x → x ≤ℤ v → x ≡ v
only_between v x h k = omega (arith, ints)

-- ---- bounds

ends_bound : (xs : List ℤ) (v : ℤ) → Among v xs → LiesBetween (ends_of xs) v
ends_bound [] v here = absurd here
ends_bound (x ∷ xs) v here = (least_from-bound x xs v here, greatest_from-bound x xs v here)

ends_among : (xs : List ℤ) (v : ℤ) → Among v xs → Among (ends_of xs).0 xs × Among (ends_of xs).1 xs
ends_among [] v here = absurd here
ends_among (x ∷ xs) v here = (least_from-among x xs, greatest_from-among x xs)

-- of values there is one, the lower bound is at most the upper
in_order : (xs : List ℤ) (v : ℤ) → Among v xs → (ends_of xs).0 ≤ℤ (ends_of xs).1
in_order xs v here = at_most_both (ends_of xs).0 v (ends_of xs).1 (ends_bound xs v here).0 (ends_bound xs v here).1

-- at a smaller state with a value of the term the bounds lie between those before
bounds_within : (d e : Domains) (t : Term) (v x : ℤ) → IsWithin e d → Among v (term_values e t) → LiesBetween (bounds e t) x → LiesBetween (bounds d t) x
bounds_within d e t v x within here between =
    let ends = ends_among (term_values e t) v here in
    let low = ends_bound (term_values d t) (bounds e t).0 (term_values-within d e t within (bounds e t).0 ends.0) in
    let high = ends_bound (term_values d t) (bounds e t).1 (term_values-within d e t within (bounds e t).1 ends.1) in
    (at_most_both (bounds d t).0 (bounds e t).0 x low.0 between.0, at_most_both x (bounds e t).1 (bounds d t).1 between.1 high.1)

-- ---- the test

apart_where : (i j : ℤ × ℤ) → are_apart i j ≡ true → AreApart i j
apart_where i j e = elim (or_cases (int_lt i.1 j.0) (int_lt j.1 i.0) e) [
  | inl below ↦ inl (less_from i.1 j.0 below)
  | inr above ↦ inr (less_from j.1 i.0 above)
]

true_apart : (i j : ℤ × ℤ) → AreApart i j → are_apart i j ≡ true
true_apart i j (inl below) = or_left (int_lt i.1 j.0) (int_lt j.1 i.0) (less_to i.1 j.0 below)
true_apart i j (inr above) = or_right (int_lt i.1 j.0) (int_lt j.1 i.0) (less_to j.1 i.0 above)

clashes_where : (span : ℤ × ℤ → ℤ × ℤ → ℤ × ℤ) (a b c : Term) (d : Domains) → test_by span a b c d ≡ true → ClashesBy span a b c d
clashes_where span a b c d e = elim (or_cases (is_dead d) (are_apart (span (bounds d a) (bounds d b)) (bounds d c)) e) [
  | inl dead ↦ inl dead
  | inr apart ↦ inr (apart_where (span (bounds d a) (bounds d b)) (bounds d c) apart)
]

true_where : (span : ℤ × ℤ → ℤ × ℤ → ℤ × ℤ) (a b c : Term) (d : Domains) → ClashesBy span a b c d → test_by span a b c d ≡ true
true_where span a b c d (inl dead) = or_left (is_dead d) (are_apart (span (bounds d a) (bounds d b)) (bounds d c)) dead
true_where span a b c d (inr apart) =
    or_right (is_dead d) (are_apart (span (bounds d a) (bounds d b)) (bounds d c)) (true_apart (span (bounds d a) (bounds d b)) (bounds d c) apart)

-- the test is true exactly where it clashes
pub exact_by : (span : ℤ × ℤ → ℤ × ℤ → ℤ × ℤ) (a b c : Term) (d : Domains) → (face_by span a b c).test d ≡ true ↔ ClashesBy span a b c d
exact_by span a b c d = (clashes_where span a b c d, true_where span a b c d)

-- ---- smaller states

term_value : (d : Domains) (t : Term) → is_dead d ≡ false → IsTermOf (length d) t → (v : ℤ) × Among v (term_values d t)
term_value d (Var x) alive there = alive-value d x alive there
term_value d (Const v) alive there = (v, inl refl)

term_smaller : (d e : Domains) (t : Term) → IsWithin e d → IsTermOf (length d) t → IsTermOf (length e) t
term_smaller d e (Var x) within there = subst (λ n. x < n) (sym within.count) there
term_smaller d e (Const v) within there = tt

covered : (terms : List Term) (d : Domains) (t : Term) → Covers (term_scope terms) d → Among t terms → IsTermOf (length d) t
covered terms d t covers here = term_covered (term_scope terms) d t covers (term_in_scope terms t here)

-- what lies apart by bounds lies apart by closer bounds
apart_within : (f : ℤ → ℤ → ℤ) (span : ℤ × ℤ → ℤ × ℤ → ℤ × ℤ) → IsSpanOf f span → (i j k i' j' k' : ℤ × ℤ) → i'.0 ≤ℤ i'.1 → j'.0 ≤ℤ j'.1 → k'.0 ≤ℤ k'.1 → ((x : ℤ) → LiesBetween i' x → LiesBetween i x) → ((x : ℤ) → LiesBetween j' x → LiesBetween j x) → ((x : ℤ) → LiesBetween k' x → LiesBetween k x) → AreApart (span i j) k → AreApart (span i' j') k'
apart_within f span h i j k i' j' k' io jo ko iw jw kw (inl below) =
    let r = h.high i' j' io jo in
    let b = h.holds i j r.0 r.1 (iw r.0 r.2) (jw r.1 r.3) in
    inl (less_between (span i' j').1 (span i j).1 k.0 k'.0 (subst (λ z. z ≤ℤ (span i j).1) (sym r.4) b.1) below (kw k'.0 (le_itself k'.0, ko)).0)
  where
    le_itself : (v : ℤ) → v ≤ℤ v
    le_itself v = omega (arith, ints)
apart_within f span h i j k i' j' k' io jo ko iw jw kw (inr above) =
    let r = h.low i' j' io jo in
    let b = h.holds i j r.0 r.1 (iw r.0 r.2) (jw r.1 r.3) in
    inr (less_between k'.1 k.1 (span i j).0 (span i' j').0 (kw k'.1 (ko, le_itself k'.1)).1 above (subst (λ z. (span i j).0 ≤ℤ z) (sym r.4) b.0))
  where
    le_itself : (v : ℤ) → v ≤ℤ v
    le_itself v = omega (arith, ints)

monotone : (f : ℤ → ℤ → ℤ) (span : ℤ × ℤ → ℤ × ℤ → ℤ × ℤ) → IsSpanOf f span → (a b c : Term) (d e : Domains) → Covers (term_scope (a ∷ b ∷ c ∷ [])) d → IsWithin e d → ClashesBy span a b c d → (dead : Bool) → is_dead e ≡ dead → ClashesBy span a b c e
monotone f span h a b c d e covers within clashes true gone = inl gone
monotone f span h a b c d e covers within (inl gone) false alive = absurd (both_ways (is_dead e) alive (dead-within d e within gone))
monotone f span h a b c d e covers within (inr apart) false alive =
    let terms = a ∷ b ∷ c ∷ [] in
    let u = term_value e a alive (term_smaller d e a within (covered terms d a covers (inl refl))) in
    let v = term_value e b alive (term_smaller d e b within (covered terms d b covers (inr (inl refl)))) in
    let w = term_value e c alive (term_smaller d e c within (covered terms d c covers (inr (inr (inl refl))))) in
    inr (apart_within f span h (bounds d a) (bounds d b) (bounds d c) (bounds e a) (bounds e b) (bounds e c)
    (in_order (term_values e a) u.0 u.1) (in_order (term_values e b) v.0 v.1) (in_order (term_values e c) w.0 w.1)
    (λ x between. bounds_within d e a u.0 x within u.1 between) (λ x between. bounds_within d e b v.0 x within v.1 between) (λ x between. bounds_within d e c w.0 x within w.1 between) apart)

same_test : (span : ℤ × ℤ → ℤ × ℤ → ℤ × ℤ) (x y : Bool) (us vs ws us' vs' ws' : List ℤ) → x ≡ y → us ≡ us' → vs ≡ vs' → ws ≡ ws' → (x || are_apart (span (ends_of us) (ends_of vs)) (ends_of ws)) ≡ (y || are_apart (span (ends_of us') (ends_of vs')) (ends_of ws'))
same_test span x y us vs ws us' vs' ws' p q r s =
    ap (λ z. z || are_apart (span (ends_of us) (ends_of vs)) (ends_of ws)) p
    ∙ ap (λ zs. y || are_apart (span (ends_of zs) (ends_of vs)) (ends_of ws)) q
    ∙ ap (λ zs. y || are_apart (span (ends_of us') (ends_of zs)) (ends_of ws)) r
    ∙ ap (λ zs. y || are_apart (span (ends_of us') (ends_of vs')) (ends_of zs)) s

-- it has the laws of every test
pub lawful_by : (f : ℤ → ℤ → ℤ) (span : ℤ × ℤ → ℤ × ℤ → ℤ × ℤ) → IsSpanOf f span → (a b c : Term) → IsLawful (face_by span a b c)
lawful_by f span h a b c =
    let terms = a ∷ b ∷ c ∷ [] in record {
      ordered = climbs_in_order (term_variables terms);
      dead = λ d gone. true_where span a b c d (inl gone);
      monotone = λ d e covers within t. true_where span a b c e (monotone f span h a b c d e covers within (clashes_where span a b c d t) (is_dead e) refl);
      local = λ d e p r agrees.
          same_test span (is_dead d) (is_dead e) (term_values d a) (term_values d b) (term_values d c) (term_values e a) (term_values e b) (term_values e c) (p ∙ sym r)
          (term_values-local (term_scope terms) d e a agrees (term_in_scope terms a (inl refl)))
          (term_values-local (term_scope terms) d e b agrees (term_in_scope terms b (inr (inl refl))))
          (term_values-local (term_scope terms) d e c agrees (term_in_scope terms c (inr (inr (inl refl)))));
    }

-- ---- assignments

-- values of the terms that the operation ties do not lie apart
not_apart : (f : ℤ → ℤ → ℤ) (span : ℤ × ℤ → ℤ × ℤ → ℤ × ℤ) → IsSpanOf f span → (i j k : ℤ × ℤ) (x y z : ℤ) → LiesBetween i x → LiesBetween j y → LiesBetween k z → f x y ≡ z → AreApart (span i j) k → ⊥
not_apart f span h i j k x y z xi yj zk e (inl below) =
    not_both z (span i j).1 k.0 (subst (λ w. w ≤ℤ (span i j).1) e (h.holds i j x y xi yj).1) below zk.0
not_apart f span h i j k x y z xi yj zk e (inr above) =
    not_both z k.1 (span i j).0 zk.1 above (subst (λ w. (span i j).0 ≤ℤ w) e (h.holds i j x y xi yj).0)

no_clash : (f : ℤ → ℤ → ℤ) (span : ℤ × ℤ → ℤ × ℤ → ℤ × ℤ) → IsSpanOf f span → (a b c : Term) (d : Domains) (s : ℕ → ℤ) → is_dead d ≡ false → ((t : Term) → Among t (a ∷ b ∷ c ∷ []) → Among (term_at s t) (term_values d t)) → MeetsBy f a b c s → ClashesBy span a b c d → ⊥
no_clash f span h a b c d s alive each meets (inl dead) = both_ways (is_dead d) alive dead
no_clash f span h a b c d s alive each meets (inr apart) =
    not_apart f span h (bounds d a) (bounds d b) (bounds d c) (term_at s a) (term_at s b) (term_at s c)
    (ends_bound (term_values d a) (term_at s a) (each a (inl refl))) (ends_bound (term_values d b) (term_at s b) (each b (inr (inl refl))))
    (ends_bound (term_values d c) (term_at s c) (each c (inr (inr (inl refl))))) meets apart

-- an assignment within the state that meets it shows that it does not clash there
pub sound_by : (f : ℤ → ℤ → ℤ) (span : ℤ × ℤ → ℤ × ℤ → ℤ × ℤ) → IsSpanOf f span → (a b c : Term) (d : Domains) (s : ℕ → ℤ) → Covers (term_scope (a ∷ b ∷ c ∷ [])) d → LiesIn s d → MeetsBy f a b c s → (face_by span a b c).test d ≡ false
sound_by f span h a b c d s covers lies meets =
    false_from_ne_true (test_by span a b c d) (λ e.
    no_clash f span h a b c d s (LiesIn-alive d s lies) (λ t here. term_values-sound d s t lies (covered (a ∷ b ∷ c ∷ []) d t covers here)) meets (clashes_where span a b c d e))

-- ---- one value each

single : (f : ℤ → ℤ → ℤ) (span : ℤ × ℤ → ℤ × ℤ → ℤ × ℤ) → IsSpanOf f span → (x y : ℤ) → ((span (x, x) (y, y)).0 ≡ f x y) × ((span (x, x) (y, y)).1 ≡ f x y)
single f span h x y =
    let l = h.low (x, x) (y, y) (le_itself x) (le_itself y) in
    let u = h.high (x, x) (y, y) (le_itself x) (le_itself y) in
    (l.4 ∙ same l.0 l.1 l.2 l.3, u.4 ∙ same u.0 u.1 u.2 u.3)
  where
    le_itself : (v : ℤ) → v ≤ℤ v
    le_itself v = omega (arith, ints)

    same : (p q : ℤ) → LiesBetween (x, x) p → LiesBetween (y, y) q → f p q ≡ f x y
    same p q b c = ap (λ r. f r q) (only_between x p b.0 b.1) ∙ ap (λ r. f x r) (only_between y q c.0 c.1)

-- of one value each it lies apart where the operation gives another result
apart_single : (f : ℤ → ℤ → ℤ) (span : ℤ × ℤ → ℤ × ℤ → ℤ × ℤ) → IsSpanOf f span → (x y z : ℤ) → (f x y ≡ z → ⊥) → AreApart (span (x, x) (y, y)) (z, z)
apart_single f span h x y z fails = elim (order_cases (f x y) z) [
  | inl same ↦ absurd (fails same)
  | inr (inl less) ↦ inl (same_less (span (x, x) (y, y)).1 (f x y) z z (single f span h x y).1 refl less)
  | inr (inr more) ↦ inr (same_less z z (span (x, x) (y, y)).0 (f x y) refl (single f span h x y).0 more)
]

fixed : (terms : List Term) (d : Domains) (s : ℕ → ℤ) (t : Term) → Fixes (term_scope terms) s d → Among t terms → term_values d t ≡ term_at s t ∷ []
fixed terms d s t fixes here = term_values-fixed (term_scope terms) s d t fixes (term_in_scope terms t here)

apart_fixed : (span : ℤ × ℤ → ℤ × ℤ → ℤ × ℤ) (us vs ws : List ℤ) (x y z : ℤ) → us ≡ x ∷ [] → vs ≡ y ∷ [] → ws ≡ z ∷ [] → AreApart (span (x, x) (y, y)) (z, z) → AreApart (span (ends_of us) (ends_of vs)) (ends_of ws)
apart_fixed span us vs ws x y z p q r apart =
    subst (λ zs. AreApart (span (ends_of zs) (ends_of vs)) (ends_of ws)) (sym p)
    (subst (λ zs. AreApart (span (x, x) (ends_of zs)) (ends_of ws)) (sym q)
    (subst (λ zs. AreApart (span (x, x) (y, y)) (ends_of zs)) (sym r) apart))

-- where each variable has one value, it clashes exactly where that assignment fails it
pub deciding_by : (f : ℤ → ℤ → ℤ) (span : ℤ × ℤ → ℤ × ℤ → ℤ × ℤ) → IsSpanOf f span → (a b c : Term) (d : Domains) (s : ℕ → ℤ) → is_dead d ≡ false → Fixes (term_scope (a ∷ b ∷ c ∷ [])) s d → ((face_by span a b c).test d ≡ true) ↔ (MeetsBy f a b c s → ⊥)
deciding_by f span h a b c d s alive fixes =
    let terms = a ∷ b ∷ c ∷ [] in (
      λ e meets. no_clash f span h a b c d s alive (λ t here. subst (λ vs. Among (term_at s t) vs) (sym (fixed terms d s t fixes here)) (inl refl)) meets (clashes_where span a b c d e),
      λ fails. true_where span a b c d (inr (apart_fixed span (term_values d a) (term_values d b) (term_values d c) (term_at s a) (term_at s b) (term_at s c)
          (fixed terms d s a fixes (inl refl)) (fixed terms d s b fixes (inr (inl refl))) (fixed terms d s c fixes (inr (inr (inl refl))))
          (apart_single f span h (term_at s a) (term_at s b) (term_at s c) fails))),
    )
