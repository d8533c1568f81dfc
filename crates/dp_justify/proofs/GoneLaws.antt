-- Pairs as a set of values for each variable: taking out, adding, and whether one is still in a state.
use Rattle.std.proofs.Common.{◌≡◌, ℕ, zero, suc, ◌<◌, ◌+◌, Bool, true, false, not, ◌&&◌, ◌||◌, ◌==◌, ◌⊎◌, ◌↔◌, List, [], ◌∷◌, ◌++◌, length, get_or, set, take, ℤ, ◌≤ℤ◌, int_le, refl, sym, ◌∙◌, ap, subst, inl, inr, arith}
use Rattle.std.specs.List.{filter, list_any}
use Rattle.std.proofs.lemmas.Int.{ints}
use Rattle.std.proofs.lemmas.Bool.{both_ways, cases_eq, eqb-true, eq-eqb, and_from, and_parts, or_cases, or_left, or_right, not_from_false, not-true, false_from_ne_true}
use Rattle.std.proofs.lemmas.List.{get_or-set_same, get_or-set_other, get_or_default, take_more}
use Rattle.dp_base.specs.Lists.{Among, Each}
use Rattle.dp_base.proofs.Lists.{Among-append_cases, Among-append_left, Among-append_right, Among-filter_all, Among-filter_only, Each-among, Each-append, Each-from_among, list_any-at, list_any-some}
use Rattle.dp_domain.specs.Atoms.{Atomic, meets, negated}
use Rattle.dp_domain.specs.Explanations.{has}
use Rattle.dp_domain.specs.Sets.{AreApart, Collects, IsDomain, IsSmall, LiesInOne, is_among, share}
use Rattle.dp_domain.specs.States.{Domains, cut, fails_one, values}
use Rattle.dp_domain.proofs.AtomLaws.{meets-from_not, not-from_meets, same-from_tests, tests-from_same}
use Rattle.dp_domain.proofs.ExplanationSteps.{from_has, has_from}
use Rattle.dp_domain.proofs.StateLaws.{Among-cut_meets, Among-cut_only}
use Rattle.dp_justify.specs.Keeping.{takes_one}
use Rattle.dp_justify.specs.Pairs.{excluded, excludes, pairs_of}
use Rattle.dp_justify.proofs.NarrowLaws.{same_answer}
use Rattle.dp_justify.proofs.TakenLaws.{stays_in_cut}

-- ---- nothing

empty_of : (xs : List ℤ) → Collects xs (LiesInOne []) → xs ≡ []
empty_of [] h = refl
empty_of (x ∷ xs) h = absurd ((h.only x (inl refl)).1)

-- one more set without a value
pub more_empty : (gone now : Domains) (xs : List ℤ) → Each (λ ys. ys ≡ []) gone → Collects xs (LiesInOne []) → now ≡ gone ++ xs ∷ [] → Each (λ ys. ys ≡ []) now
more_empty gone now xs e h k = subst (λ (d : Domains). Each (λ ys. ys ≡ []) d) (sym k) (Each-append (λ ys. ys ≡ []) gone (xs ∷ []) e (empty_of xs h, tt))

-- sets without values have no pair
pub no_pairs : (gone : Domains) → Each (λ ys. ys ≡ []) gone → (x : ℕ) (v : ℤ) → pairs_of gone x v ≡ false
no_pairs [] e x v = refl
no_pairs (ys ∷ gone) e zero v = ap (λ zs. has zs v) e.0
no_pairs (ys ∷ gone) e (suc x) v = no_pairs gone e.1 x v

-- ---- whether one is still there

among_test : (v : ℤ) (ys : List ℤ) → is_among v ys ≡ true → Among v ys
among_test v ys t = let r = list_any-some (λ w. int_le v w && int_le w v) ys t in subst (λ w. Among w ys) (sym (same-from_tests v r.0 r.2)) r.1

test_among : (v : ℤ) (ys : List ℤ) → Among v ys → is_among v ys ≡ true
test_among v ys h = list_any-at (λ w. int_le v w && int_le w v) ys v h (tests-from_same v v refl)

-- the values of one set that fail the atom share a number with another set where one of the pairs is taken
pub takes_shared : (xs ys : List ℤ) (a : Atomic) → share (filter (meets (negated a)) xs) ys ≡ list_any (λ v. has xs v && not (meets a v)) ys
takes_shared xs ys a = same_answer (share (filter (meets (negated a)) xs) ys) (list_any (λ v. has xs v && not (meets a v)) ys)
    (λ t.
    let r = list_any-some (λ v. is_among v ys) (filter (meets (negated a)) xs) t in
    let k = Among-filter_only (meets (negated a)) xs r.0 r.1 in
    list_any-at (λ v. has xs v && not (meets a v)) ys r.0 (among_test r.0 ys r.2)
    (and_from (has xs r.0) (not (meets a r.0)) (has_from xs r.0 k.0) (not_from_false (meets a r.0) (not-from_meets a r.0 k.1))))
    (λ t.
    let r = list_any-some (λ v. has xs v && not (meets a v)) ys t in
    let k = and_parts (has xs r.0) (not (meets a r.0)) r.2 in
    list_any-at (λ v. is_among v ys) (filter (meets (negated a)) xs) r.0
    (Among-filter_all (meets (negated a)) xs r.0 (from_has xs r.0 k.0) (meets-from_not a r.0 (not-true (meets a r.0) k.1))) (test_among r.0 ys r.1))

-- ---- taking out

-- a cut takes out the pairs that its atom excludes
pub pairs-cut : (gone : Domains) (a : Atomic) (x : ℕ) (v : ℤ) → pairs_of (cut gone a) x v ≡ (pairs_of gone x v && not (excludes a x v))
pairs-cut gone a x v = same_answer (pairs_of (cut gone a) x v) (pairs_of gone x v && not (excludes a x v))
    (λ t.
    let there : Among v (values (cut gone a) x) = from_has (values (cut gone a) x) v t in
    and_from (pairs_of gone x v) (not (excludes a x v)) (has_from (values gone x) v (Among-cut_only gone a x v there))
    (not_from_false (excludes a x v) (false_from_ne_true (excludes a x v) (λ out.
    let so = and_parts (a.var == x) (not (meets a v)) out in
    both_ways (meets a v) (not-true (meets a v) so.1)
    (Among-cut_meets gone a v (subst (λ (y : ℕ). Among v (values (cut gone a) y)) (sym (eqb-true a.var x so.0)) there))))))
    (λ t.
    let so = and_parts (pairs_of gone x v) (not (excludes a x v)) t in
    has_from (values (cut gone a) x) v (stays_in_cut gone a x v (from_has (values gone x) v so.0) (not-true (excludes a x v) so.1)))

-- ---- adding

off_variable : (a : Atomic) (x : ℕ) (v : ℤ) → (x ≡ a.var → ⊥) → excludes a x v ≡ false
off_variable a x v n = false_from_ne_true (excludes a x v) (λ t. n (sym (eqb-true a.var x (and_parts (a.var == x) (not (meets a v)) t).0)))

failing_has : (zs : List ℤ) (a : Atomic) (v : ℤ) → has (filter (meets (negated a)) zs) v ≡ (has zs v && excludes a a.var v)
failing_has zs a v = same_answer (has (filter (meets (negated a)) zs) v) (has zs v && excludes a a.var v)
    (λ t.
    let k = Among-filter_only (meets (negated a)) zs v (from_has (filter (meets (negated a)) zs) v t) in
    and_from (has zs v) (excludes a a.var v) (has_from zs v k.0)
    (and_from (a.var == a.var) (not (meets a v)) (eq-eqb a.var a.var refl) (not_from_false (meets a v) (not-from_meets a v k.1))))
    (λ t.
    let so = and_parts (has zs v) (excludes a a.var v) t in
    let out = and_parts (a.var == a.var) (not (meets a v)) so.1 in
    has_from (filter (meets (negated a)) zs) v (Among-filter_all (meets (negated a)) zs v (from_has zs v so.0) (meets-from_not a v (not-true (meets a v) out.1))))

or_nothing : (b c : Bool) → b ≡ (b || (c && false))
or_nothing true c = refl
or_nothing false true = refl
or_nothing false false = refl

-- a set that is joined with the initial values that fail the atom adds the pairs that it excludes
pub pairs-joined : (gone initial : Domains) (a : Atomic) (joined : List ℤ) → a.var < length gone
    → ((v : ℤ) → has joined v ≡ (has (values gone a.var) v || has (filter (meets (negated a)) (values initial a.var)) v))
    → (x : ℕ) (v : ℤ) → pairs_of (set gone a.var joined) x v ≡ (pairs_of gone x v || (pairs_of initial x v && excludes a x v))
pairs-joined gone initial a joined within h x v = elim (cases_eq x a.var) [
  | inl e ↦
      ap (λ (y : ℕ). pairs_of (set gone a.var joined) y v) e
      ∙ ap (λ zs. has zs v) (get_or-set_same gone a.var joined [] within)
      ∙ h v
      ∙ ap (λ (b : Bool). pairs_of gone a.var v || b) (failing_has (values initial a.var) a v)
      ∙ ap (λ (y : ℕ). pairs_of gone y v || (pairs_of initial y v && excludes a y v)) (sym e)
  | inr n ↦
      ap (λ zs. has zs v) (get_or-set_other gone a.var x joined [] n)
      ∙ or_nothing (pairs_of gone x v) (pairs_of initial x v)
      ∙ ap (λ (b : Bool). pairs_of gone x v || (pairs_of initial x v && b)) (sym (off_variable a x v n))
]

-- ---- unions

apart_at : (is : List (ℤ × ℤ)) (ends : ℤ × ℤ) → AreApart is → Among ends is → ends.0 ≤ℤ ends.1
apart_at [] ends h k = absurd k
apart_at (i ∷ is) ends h (inl e) = subst (λ (j : ℤ × ℤ). j.0 ≤ℤ j.1) (sym e) h.0
apart_at (i ∷ is) ends h (inr k) = apart_at is ends h.2 k

-- the ends of a domain's intervals are small
pub small_ends : (xs : List ℤ) (is : List (ℤ × ℤ)) → IsDomain xs → Collects xs (LiesInOne is) → AreApart is → Each (λ ends. IsSmall ends.0 × IsSmall ends.1) is
small_ends xs is d h apart = Each-from_among (λ ends. IsSmall ends.0 × IsSmall ends.1) is (λ ends k.
    let l : ends.0 ≤ℤ ends.1 = apart_at is ends apart k in (
      Each-among IsSmall xs d.small ends.0 (h.all ends.0 (ends, k, (omega (arith, ints), l))),
      Each-among IsSmall xs d.small ends.1 (h.all ends.1 (ends, k, (l, omega (arith, ints)))),
    ))

-- what lies in the intervals of two lists lies in those of one
pub lies_in_both : (is js : List (ℤ × ℤ)) (v : ℤ) → LiesInOne (is ++ js) v ↔ (LiesInOne is v ⊎ LiesInOne js v)
lies_in_both is js v = (
  λ h. elim (Among-append_cases h.0 is js h.1) [ inl k ↦ inl (h.0, k, h.2) | inr k ↦ inr (h.0, k, h.2) ],
  λ h. elim h [ inl k ↦ (k.0, Among-append_left k.0 is js k.1, k.2) | inr k ↦ (k.0, Among-append_right k.0 is js k.1, k.2) ],
)

-- a set of the numbers of two sets has those that one of them has
pub has_both : (both xs ys : List ℤ) (is js : List (ℤ × ℤ)) → Collects both (LiesInOne (is ++ js)) → Collects xs (LiesInOne is) → Collects ys (LiesInOne js) → (v : ℤ) → has both v ≡ (has xs v || has ys v)
has_both both xs ys is js h p q v = same_answer (has both v) (has xs v || has ys v)
    (λ t. elim ((lies_in_both is js v).0 (h.only v (from_has both v t))) [
      | inl k ↦ or_left (has xs v) (has ys v) (has_from xs v (p.all v k))
      | inr k ↦ or_right (has xs v) (has ys v) (has_from ys v (q.all v k))
    ])
    (λ t. has_from both v (h.all v ((lies_in_both is js v).1 (elim (or_cases (has xs v) (has ys v) t) [
      | inl k ↦ inl (p.only v (from_has xs v k))
      | inr k ↦ inr (q.only v (from_has ys v k))
    ]))))

-- ---- one atom after another

or_apart : (a b c d : Bool) → ((a || (b && c)) || (b && d)) ≡ (a || (b && (c || d)))
or_apart true b c d = refl
or_apart false true true d = refl
or_apart false true false d = refl
or_apart false false c d = refl

or_false : (b : Bool) → (b || false) ≡ b
or_false true = refl
or_false false = refl

or_grouped : (a b c : Bool) → (a || (b || c)) ≡ ((a || b) || c)
or_grouped true b c = refl
or_grouped false b c = refl

any_more : {A : Type 0} (p : A → Bool) (xs : List A) (x : A) → list_any p (xs ++ x ∷ []) ≡ (list_any p xs || p x)
any_more p [] x = or_false (p x)
any_more p (y ∷ xs) x = ap (λ (b : Bool). p y || b) (any_more p xs x) ∙ or_grouped (p y) (list_any p xs) (p x)

-- the pairs that some atoms exclude, or one more
pub excluded-more : (initial : Domains) (atoms : List Atomic) (a : Atomic) (before : Bool) (x : ℕ) (v : ℤ)
    → ((before || excluded initial atoms x v) || (pairs_of initial x v && excludes a x v)) ≡ (before || excluded initial (atoms ++ a ∷ []) x v)
excluded-more initial atoms a before x v =
    or_apart before (pairs_of initial x v) (fails_one x atoms v) (excludes a x v)
    ∙ ap (λ (b : Bool). before || (pairs_of initial x v && b)) (sym (any_more (λ b. (b.var == x) && not (meets b v)) atoms a))

-- ---- steps of the code

here_or : (gone : Domains) (i : ℕ) (old : List ℤ) (y : ℕ) → i ≡ y → y < length gone → old ≡ get_or gone i old → old ≡ values gone y
here_or gone i old y e within k = k ∙ ap (λ (j : ℕ). get_or gone j old) e ∙ sym (get_or_default gone y [] old within)

failing_values : (zs excluded kept : List ℤ) (a n : Atomic) → excluded ≡ zs → n ≡ negated a → kept ≡ filter (meets n) excluded → kept ≡ filter (meets (negated a)) zs
failing_values zs excluded kept a n e f g = g ∙ ap (λ (m : Atomic). filter (meets m) excluded) f ∙ ap (filter (meets (negated a))) e

pub takes_step : (gone before : Domains) (a n : Atomic) (i y : ℕ) (old excluded kept there : List ℤ) (r : Bool) → i ≡ y → y ≡ a.var → a.var < length gone → old ≡ get_or gone i old
    → excluded ≡ old → n ≡ negated a → kept ≡ filter (meets n) excluded → there ≡ values before y → r ≡ share kept there → r ≡ takes_one (pairs_of gone) before a
takes_step gone before a n i y old excluded kept there r e f within k g h m p q =
    q ∙ ap (λ zs. share zs there) (failing_values (values gone a.var) excluded kept a n (g ∙ here_or gone i old a.var (e ∙ f) within k) h m)
    ∙ ap (share (filter (meets (negated a)) (values gone a.var))) (p ∙ ap (values before) f)
    ∙ takes_shared (values gone a.var) (values before a.var) a

pub leave_step : (gone : Domains) (a : Atomic) (i y : ℕ) (old now : List ℤ) → i ≡ y → y ≡ a.var → a.var < length gone → old ≡ get_or gone i old → now ≡ filter (meets a) old
    → (x : ℕ) (v : ℤ) → pairs_of (set gone i now) x v ≡ (pairs_of gone x v && not (excludes a x v))
leave_step gone a i y old now e f within k g x v =
    ap (λ (j : ℕ). pairs_of (set gone j now) x v) (e ∙ f)
    ∙ ap (λ zs. pairs_of (set gone a.var zs) x v) (g ∙ ap (filter (meets a)) (here_or gone i old a.var (e ∙ f) within k))
    ∙ pairs-cut gone a x v

pub enter_one_step : (gone initial : Domains) (a n : Atomic) (i y z : ℕ) (old first excluded kept joined : List ℤ) → i ≡ y → y ≡ a.var → z ≡ a.var → a.var < length gone → old ≡ get_or gone i old
    → first ≡ values initial z → excluded ≡ first → n ≡ negated a → kept ≡ filter (meets n) excluded → ((v : ℤ) → has joined v ≡ (has old v || has kept v))
    → (x : ℕ) (v : ℤ) → pairs_of (set gone i joined) x v ≡ (pairs_of gone x v || (pairs_of initial x v && excludes a x v))
enter_one_step gone initial a n i y z old first excluded kept joined e f g within k h m p q r x v =
    ap (λ (j : ℕ). pairs_of (set gone j joined) x v) (e ∙ f)
    ∙ pairs-joined gone initial a joined within (λ w. r w ∙ ap (λ zs. has zs w || has kept w) (here_or gone i old a.var (e ∙ f) within k)
    ∙ ap (λ zs. has (values gone a.var) w || has zs w) (failing_values (values initial a.var) excluded kept a n (m ∙ h ∙ ap (values initial) g) p q)) x v

pub enter_step : (initial : Domains) (premises : List Atomic) (i : ℕ) (first old now : Domains) (a : Atomic) → i < length premises → a ≡ get_or premises i a
    → ((x : ℕ) (v : ℤ) → pairs_of old x v ≡ (pairs_of first x v || excluded initial (take i premises) x v))
    → ((x : ℕ) (v : ℤ) → pairs_of now x v ≡ (pairs_of old x v || (pairs_of initial x v && excludes a x v)))
    → (x : ℕ) (v : ℤ) → pairs_of now x v ≡ (pairs_of first x v || excluded initial (take (i + 1) premises) x v)
enter_step initial premises i first old now a within e h k x v =
    k x v ∙ ap (λ (b : Bool). b || (pairs_of initial x v && excludes a x v)) (h x v)
    ∙ excluded-more initial (take i premises) a (pairs_of first x v) x v
    ∙ ap (λ (atoms : List Atomic). pairs_of first x v || excluded initial atoms x v) (ap (λ (b : Atomic). take i premises ++ b ∷ []) e ∙ sym (take_more premises i a within))

pub small_both : (xs ys : List ℤ) (is js ks all : List (ℤ × ℤ)) → IsDomain xs → IsDomain ys → Collects xs (LiesInOne is) → Collects ys (LiesInOne js) → AreApart is → AreApart js → all ≡ is ++ ks → ks ≡ js
    → Each (λ ends. IsSmall ends.0 × IsSmall ends.1) all
small_both xs ys is js ks all d e p q f g h k =
    subst (λ (ms : List (ℤ × ℤ)). Each (λ ends. IsSmall ends.0 × IsSmall ends.1) ms) (sym (h ∙ ap (λ (ms : List (ℤ × ℤ)). is ++ ms) k))
    (Each-append (λ (ends : ℤ × ℤ). IsSmall ends.0 × IsSmall ends.1) is js (small_ends xs is d p f) (small_ends ys js e q g))
