-- The turns of a sum other than a number.
use Rattle.std.proofs.Common.{◌≡◌, ℕ, zero, suc, ◌+◌, ◌^◌, ◌<◌, ◌≤◌, FitsSigned, get_or, Bool, true, false, not, ◌&&◌, ◌||◌, ◌⊎◌, List, [], ◌∷◌, length, set, Option, Some, None, option_map, ℤ, pos, ◌+ℤ◌, ◌-ℤ◌, ◌*ℤ◌, ◌≤ℤ◌, ◌<ℤ◌, refl, sym, ◌∙◌, ap, subst, inl, inr, arith}
use Rattle.std.specs.List.{filter}
use mir.Syntax.{w128}
use mir.Val.{of_z}
use Rattle.std.proofs.lemmas.Int.{ints}
use Rattle.std.proofs.lemmas.List.{get_or_default}
use Rattle.std.proofs.lemmas.Bool.{both_ways, cases_eq, cases_lt, false_from_ne_true, not-true, not_from_false, true_from_ne_false}
use Rattle.dp_base.specs.Lists.{Among, Climbs}
use Rattle.dp_base.proofs.Lists.{Among-filter_all, Among-filter_only, Among-get_or, Contains-from_among, Each-among, Each-get_or, list_all-at, list_all-from, list_all-not}
use Rattle.dp_domain.specs.Atoms.{Atomic, negated}
use Rattle.dp_domain.specs.Conditions.{in_force}
use Rattle.dp_domain.specs.declared.found.Found.{Found}
use Rattle.dp_domain.specs.declared.found.Found.TheVariants.{Clash, Atom}
use Rattle.dp_domain.specs.Faces.{Covers, Face}
use Rattle.dp_domain.specs.Sets.{IsDomain}
use Rattle.dp_domain.specs.States.{Domains, cut, entails, is_dead, values}
use Rattle.dp_domain.specs.Supports.{IsSupport}
use Rattle.dp_domain.specs.Turns.{given_on, turn_of}
use Rattle.dp_domain.proofs.AtomLaws.{order_cases}
use Rattle.dp_domain.proofs.SetLaws.{IsDomain-filter}
use Rattle.dp_domain.proofs.StateLaws.{cut-entailed}
use Rattle.dp_domain.proofs.SupportLaws.{support-all}
use Rattle.dp_rule_linear.specs.Bounds.{AreSingleFrom, IsFirstOpen, atom_by, failing_values, found_of, unequal}
use Rattle.dp_rule_linear.specs.Differs.{are_single, face_differs, is_same, is_single, test_differs}
use Rattle.dp_rule_linear.specs.DiffersLaws.{are_single-local, both_true, differs_points, first, is_same_where, only_first, same_where, true_both}
use Rattle.dp_rule_linear.specs.Forms.{HaveDomains, IsBounded, IsProper, Linear, least_product, least_sum, scope_of, term_at, variables}
use Rattle.dp_rule_linear.specs.FormLaws.{variable_in_scope, variable_of}
use Rattle.dp_rule_linear.specs.IntLaws.{least_image-among, times_keeps, times_turns}
use Rattle.dp_rule_linear.proofs.AtMostTurns.{condition-support, in_scope, other_of_scope, slack_of}
use Rattle.dp_rule_linear.proofs.ConditionSteps.{single_negated}
use Rattle.dp_rule_linear.proofs.FactorLaws.{zero_bits}
use Rattle.dp_rule_linear.proofs.GivenLaws.{given-alone, given-none, nothing-on, turn-clash, turn-given}
use Rattle.dp_rule_linear.proofs.NarrowLaws.{IsNarrowed, in_force-other, least_sum-apart, least_sum-moves, narrowed-cut, narrowed-kept, values-kept}
use Rattle.dp_rule_linear.proofs.Places.{apart_some, climbs_good, condition_covered, length_variables, scope_none, terms_covered, variable_at}
use Rattle.dp_rule_linear.proofs.QuotientLaws.{next_product}
use Rattle.dp_rule_linear.proofs.SumSteps.{all_same}

-- ---- products

not_less : (a x y : ℤ) → ¬ (a ≡ pos 0) → a *ℤ x ≡ a *ℤ y → x <ℤ y → ⊥
not_less a x y some e h =
    let n : a *ℤ (x +ℤ pos 1) ≡ (a *ℤ x) +ℤ a = next_product a x in
    elim (order_cases a (pos 0)) [
      | inl none ↦ some none
      | inr (inl below) ↦ let k : (a *ℤ y) ≤ℤ (a *ℤ (x +ℤ pos 1)) = times_turns a (x +ℤ pos 1) y (omega (arith, ints)) (omega (arith, ints)) in grows_down (a *ℤ x) (a *ℤ y) (a *ℤ (x +ℤ pos 1)) a e n k below
      | inr (inr above) ↦ let k : (a *ℤ (x +ℤ pos 1)) ≤ℤ (a *ℤ y) = times_keeps a (x +ℤ pos 1) y (omega (arith, ints)) (omega (arith, ints)) in grows_up (a *ℤ x) (a *ℤ y) (a *ℤ (x +ℤ pos 1)) a e n k above
    ]
  where
    grows_down : (p q r a : ℤ) → p ≡ q → r ≡ p +ℤ a → q ≤ℤ r → a <ℤ pos 0 → ⊥
    grows_down p q r a e f h k = omega (arith, ints)

    grows_up : (p q r a : ℤ) → p ≡ q → r ≡ p +ℤ a → r ≤ℤ q → pos 0 <ℤ a → ⊥
    grows_up p q r a e f h k = omega (arith, ints)

-- a factor other than 0 has the same product at one number alone
pub times-cancel : (a x y : ℤ) → ¬ (a ≡ pos 0) → a *ℤ x ≡ a *ℤ y → x ≡ y
times-cancel a x y some e = elim (order_cases x y) [
  | inl same ↦ same
  | inr (inl less) ↦ absurd (not_less a x y some e less)
  | inr (inr more) ↦ absurd (not_less a y x some (sym e) more)
]

-- ---- tests

alive_test : (q : Linear) (e : Domains) → is_dead e ≡ false → test_differs q e ≡ (in_force e q.condition && (are_single e q.terms && is_same (least_sum e q.terms) q.rhs))
alive_test q e alive = ap (λ b. b || (in_force e q.condition && (are_single e q.terms && is_same (least_sum e q.terms) q.rhs))) alive

and_false : (a b : Bool) → b ≡ false → (a && b) ≡ false
and_false true b e = e
and_false false b e = refl

and_true : (a b : Bool) → b ≡ true → (a && b) ≡ a
and_true true b e = e
and_true false b e = refl

test_off : (q : Linear) (e : Domains) → is_dead e ≡ false → in_force e q.condition ≡ false → test_differs q e ≡ false
test_off q e alive off = alive_test q e alive ∙ ap (λ b. b && (are_single e q.terms && is_same (least_sum e q.terms) q.rhs)) off

test_on : (q : Linear) (e : Domains) → is_dead e ≡ false → in_force e q.condition ≡ true → test_differs q e ≡ (are_single e q.terms && is_same (least_sum e q.terms) q.rhs)
test_on q e alive on = alive_test q e alive ∙ ap (λ b. b && (are_single e q.terms && is_same (least_sum e q.terms) q.rhs)) on

test_many : (q : Linear) (e : Domains) → is_dead e ≡ false → are_single e q.terms ≡ false → test_differs q e ≡ false
test_many q e alive many =
    alive_test q e alive ∙ and_false (in_force e q.condition) (are_single e q.terms && is_same (least_sum e q.terms) q.rhs) (ap (λ b. b && is_same (least_sum e q.terms) q.rhs) many)

test_other : (q : Linear) (e : Domains) → is_dead e ≡ false → is_same (least_sum e q.terms) q.rhs ≡ false → test_differs q e ≡ false
test_other q e alive other =
    alive_test q e alive ∙ and_false (in_force e q.condition) (are_single e q.terms && is_same (least_sum e q.terms) q.rhs) (and_false (are_single e q.terms) (is_same (least_sum e q.terms) q.rhs) other)

many_at : (d : Domains) (ts : List (ℤ × ℕ)) (t : ℤ × ℕ) → Among t ts → is_single (values d t.1) ≡ false → are_single d ts ≡ false
many_at d ts t here more = list_all-not (λ u. is_single (values d u.1)) ts t here more

-- ---- variables that get nothing

-- a variable beside a term's that has more than one value
idle_beside : (q : Linear) (d : Domains) (x : ℕ) (t : ℤ × ℕ) → is_dead d ≡ false → Among t q.terms → is_single (values d t.1) ≡ false → ¬ (x ≡ t.1) → given_on (face_differs q) d x ≡ None
idle_beside q d x t alive here more other = nothing-on (face_differs q) d x (λ a e h.
    let n : IsNarrowed d (cut d (negated a)) x = subst (λ y. IsNarrowed d (cut d (negated a)) y) e (narrowed-cut d a alive h) in
    test_many q (cut d (negated a)) n.alive (many_at (cut d (negated a)) q.terms t here (ap is_single (n.others t.1 (λ same. other (sym same))) ∙ more)))

-- a term's variable where the condition is not in force
idle_term : (q : Linear) (d : Domains) (x : ℕ) → IsProper q → is_dead d ≡ false → in_force d q.condition ≡ false → Among x (variables q.terms) → given_on (face_differs q) d x ≡ None
idle_term q d x proper alive off here = nothing-on (face_differs q) d x (λ a e h.
    let n : IsNarrowed d (cut d (negated a)) x = subst (λ y. IsNarrowed d (cut d (negated a)) y) e (narrowed-cut d a alive h) in
    test_off q (cut d (negated a)) n.alive (in_force-other q.condition (variables q.terms) d (cut d (negated a)) x proper.apart here n ∙ off))

-- a variable with one value
idle_single : (f : Face) (d : Domains) (x : ℕ) → f.test d ≡ false → is_single (values d x) ≡ true → given_on f d x ≡ None
idle_single f d x quiet single = nothing-on f d x (λ a e h.
    ap f.test (cut-entailed d (negated a) (single_negated (values d a.var) a (subst (λ y. is_single (values d y) ≡ true) (sym e) single) h)) ∙ quiet)

-- a variable of no term where the sum is another
idle_other : (q : Linear) (d : Domains) (x : ℕ) → is_dead d ≡ false → is_same (least_sum d q.terms) q.rhs ≡ false → ¬ (Among x (variables q.terms)) → given_on (face_differs q) d x ≡ None
idle_other q d x alive other apart = nothing-on (face_differs q) d x (λ a e h.
    let n : IsNarrowed d (cut d (negated a)) x = subst (λ y. IsNarrowed d (cut d (negated a)) y) e (narrowed-cut d a alive h) in
    test_other q (cut d (negated a)) n.alive (ap (λ s. is_same s q.rhs) (least_sum-apart q.terms d (cut d (negated a)) x apart n) ∙ other))

-- ---- the only term's variable with more than one value

-- the number that the term may not be
abbrev pub gap_of : Linear → Domains → ℤ × ℕ → ℤ
gap_of q d t = slack_of q d +ℤ least_product d t

moved_same : (r s s' p p' : ℤ) → s' +ℤ p ≡ s +ℤ p' → s' ≡ r → p' ≡ (r -ℤ s) +ℤ p
moved_same r s s' p p' e f = omega (arith, ints)

same_moved : (r s s' p p' : ℤ) → s' +ℤ p ≡ s +ℤ p' → p' ≡ (r -ℤ s) +ℤ p → s' ≡ r
same_moved r s s' p p' e f = omega (arith, ints)

single_at : (d e : Domains) (t u : ℤ × ℕ) → IsNarrowed d e t.1 → is_single (values e t.1) ≡ true → (¬ (u.1 ≡ t.1) → is_single (values d u.1) ≡ true) → is_single (values e u.1) ≡ true
single_at d e t u n single others = elim (cases_eq u.1 t.1) [
  | inl same ↦ ap (λ (y : ℕ). is_single (values e y)) same ∙ single
  | inr other ↦ ap is_single (n.others u.1 other) ∙ others other
]

-- the values at which the term is another number are supported
open-support : (q : Linear) (d : Domains) (t : ℤ × ℕ) → IsProper q → is_dead d ≡ false → in_force d q.condition ≡ true → t.1 < length d → IsDomain (values d t.1) → Among t q.terms → ¬ (t.0 ≡ pos 0)
    → ((u : ℤ × ℕ) → Among u q.terms → ¬ (u.1 ≡ t.1) → is_single (values d u.1) ≡ true) → IsSupport (face_differs q) d t.1 (unequal (gap_of q d t) d t)
open-support q d t proper alive on h domain here some others = record {
  domain = IsDomain-filter (λ v. not (is_same (t.0 *ℤ v) (gap_of q d t))) (values d t.1) domain;
  within = λ v m. (Among-filter_only (λ v. not (is_same (t.0 *ℤ v) (gap_of q d t))) (values d t.1) v m).0;
  clash = λ p v m u.
      let e = set d t.1 (filter p (values d t.1)) in
      let k : values e t.1 ≡ filter p (values d t.1) = values-kept d t.1 (filter p (values d t.1)) h in
      let n : IsNarrowed d e t.1 = narrowed-kept d t.1 p v alive m u in
      let s : test_differs q e ≡ (are_single e q.terms && is_same (least_sum e q.terms) q.rhs) =
      test_on q e n.alive (in_force-other q.condition (variables q.terms) d e t.1 proper.apart (variable_of q.terms t here) n ∙ on) in
      let moves : least_sum e q.terms +ℤ least_product d t ≡ least_sum d q.terms +ℤ least_product e t = least_sum-moves q.terms d e t (climbs_good q.terms proper.good) here n in
      let r = least_image-among (λ z. t.0 *ℤ z) (values e t.1) v (subst (λ ys. Among v ys) (sym k) (Among-filter_all p (values d t.1) v m u)) in (
        λ clashes w a b g.
            let both = both_true (are_single e q.terms) (is_same (least_sum e q.terms) q.rhs) (sym s ∙ clashes) in
            let only = only_first (values e t.1) (list_all-at (λ u. is_single (values e u.1)) q.terms t both.0 here) in
            let w_in : Among w (values e t.1) = subst (λ ys. Among w ys) (sym k) (Among-filter_all p (values d t.1) w a b) in
            let w_is : w ≡ r.0 = Each-among (λ z. z ≡ first (values e t.1)) (values e t.1) only.1 w w_in ∙ sym (Each-among (λ z. z ≡ first (values e t.1)) (values e t.1) only.1 r.0 r.1) in
            both_ways (is_same (t.0 *ℤ w) (gap_of q d t))
            (not-true (is_same (t.0 *ℤ w) (gap_of q d t)) (Among-filter_only (λ v. not (is_same (t.0 *ℤ v) (gap_of q d t))) (values d t.1) w g).1)
            (is_same_where (t.0 *ℤ w) (gap_of q d t) (ap (λ z. t.0 *ℤ z) w_is ∙ sym r.2
            ∙ moved_same q.rhs (least_sum d q.terms) (least_sum e q.terms) (least_product d t) (least_product e t) moves (same_where (least_sum e q.terms) q.rhs both.1))),
        λ none.
            let each : (w : ℤ) → Among w (values e t.1) → t.0 *ℤ w ≡ gap_of q d t = λ w w_in.
            let f = Among-filter_only p (values d t.1) w (subst (λ ys. Among w ys) k w_in) in
            same_where (t.0 *ℤ w) (gap_of q d t) (true_from_ne_false (is_same (t.0 *ℤ w) (gap_of q d t)) (λ differs.
            none w f.0 f.1 (Among-filter_all (λ v. not (is_same (t.0 *ℤ v) (gap_of q d t))) (values d t.1) w f.0 (not_from_false (is_same (t.0 *ℤ w) (gap_of q d t)) differs)))) in
            let single : is_single (values e t.1) ≡ true =
            all_same (values e t.1) r.0 (λ w w_in. times-cancel t.0 w r.0 some (each w w_in ∙ sym (each r.0 r.1))) r.1 in
            s ∙ true_both (are_single e q.terms) (is_same (least_sum e q.terms) q.rhs)
            (list_all-from (λ u. is_single (values e u.1)) q.terms (λ u u_in. single_at d e t u n single (others u u_in)))
            (is_same_where (least_sum e q.terms) q.rhs (same_moved q.rhs (least_sum d q.terms) (least_sum e q.terms) (least_product d t) (least_product e t) moves (r.2 ∙ each r.0 r.1))),
      );
}

-- ---- turns

points : (q : Linear) (d : Domains) (x : ℕ) → Among x (scope_of q) → (v : ℤ) → Among v (values d x) → (face_differs q).point x v ≡ true
points q d x here v m = (differs_points q x v).1 here

-- two variables of terms with more than one value
pub turn-many : (q : Linear) (d : Domains) (t u : ℤ × ℕ) → is_dead d ≡ false → Among t q.terms → Among u q.terms → ¬ (t.1 ≡ u.1) → is_single (values d t.1) ≡ false → is_single (values d u.1) ≡ false → turn_of (face_differs q) d ≡ None
turn-many q d t u alive here there apart more more' =
    turn-given (face_differs q) d None (test_many q d alive (many_at d q.terms t here more))
    (given-none (face_differs q) d (scope_of q) (λ y m. elim (cases_eq y t.1) [
      | inl same ↦ idle_beside q d y u alive there more' (λ k. apart (sym same ∙ k))
      | inr other ↦ idle_beside q d y t alive here more other
    ]))

-- one, and a condition that is not in force
pub turn-open_off : (q : Linear) (d : Domains) (t : ℤ × ℕ) → IsProper q → is_dead d ≡ false → Among t q.terms → is_single (values d t.1) ≡ false → in_force d q.condition ≡ false → turn_of (face_differs q) d ≡ None
turn-open_off q d t proper alive here more off =
    turn-given (face_differs q) d None (test_off q d alive off)
    (given-none (face_differs q) d (scope_of q) (λ y m. elim (cases_eq y t.1) [
      | inl same ↦ idle_term q d y proper alive off (subst (λ z. Among z (variables q.terms)) (sym same) (variable_of q.terms t here))
      | inr other ↦ idle_beside q d y t alive here more other
    ]))

-- one, and a condition in force
pub turn-open : (q : Linear) (d : Domains) (t : ℤ × ℕ) → IsProper q → Covers (scope_of q) d → is_dead d ≡ false → HaveDomains q.terms d → in_force d q.condition ≡ true → Among t q.terms → ¬ (t.0 ≡ pos 0) → is_single (values d t.1) ≡ false
    → ((u : ℤ × ℕ) → Among u q.terms → ¬ (u.1 ≡ t.1) → is_single (values d u.1) ≡ true) → turn_of (face_differs q) d ≡ option_map Atom (atom_by (values d t.1) (unequal (gap_of q d t) d t) t.1)
turn-open q d t proper covers alive domains on here some more others =
    let h : t.1 < length d = Each-among (λ x. x < length d) (variables q.terms) (terms_covered q d covers) t.1 (variable_of q.terms t here) in
    let quiet : test_differs q d ≡ false = test_many q d alive (many_at d q.terms t here more) in
    let in_it : Among t.1 (scope_of q) = variable_in_scope q t.1 (variable_of q.terms t here) in
    turn-given (face_differs q) d (atom_by (values d t.1) (unequal (gap_of q d t) d t) t.1) quiet
    (given-alone (face_differs q) d t.1 (scope_of q) in_it (λ y m other. idle_beside q d y t alive here more other)
    ∙ support-all (face_differs q) d t.1 (unequal (gap_of q d t) d t) h alive quiet
    (open-support q d t proper alive on h (Each-among (λ (t : ℤ × ℕ). IsDomain (values d t.1)) q.terms domains t here) here some others) (points q d t.1 in_it))

scope_by : (q : Linear) (c : Option Atomic) (y : ℕ) → IsProper q → q.condition ≡ c → Among y (scope_of q) → Among y (variables q.terms) ⊎ (¬ (Among y (variables q.terms)))
scope_by q None y proper e here = inl (subst (λ xs. Among y xs) (scope_none q proper e) here)
scope_by q (Some c) y proper e here = elim (cases_eq y c.var) [
  | inl same ↦ inr (subst (λ z. ¬ (Among z (variables q.terms))) (sym same) (apart_some q c proper e))
  | inr other ↦ inl (other_of_scope q c y proper e here other)
]

single_of : (d : Domains) (ts : List (ℤ × ℕ)) (y : ℕ) → are_single d ts ≡ true → Among y (variables ts) → is_single (values d y) ≡ true
single_of d [] y e here = absurd here
single_of d (t ∷ ts) y e (inl same) = ap (λ (z : ℕ). is_single (values d z)) same ∙ (both_true (is_single (values d t.1)) (are_single d ts) e).0
single_of d (t ∷ ts) y e (inr here) = single_of d ts y (both_true (is_single (values d t.1)) (are_single d ts) e).1 here

-- all have one value, and the sum is another
pub turn-other : (q : Linear) (d : Domains) → IsProper q → is_dead d ≡ false → are_single d q.terms ≡ true → is_same (least_sum d q.terms) q.rhs ≡ false → turn_of (face_differs q) d ≡ None
turn-other q d proper alive single other =
    let quiet : test_differs q d ≡ false = test_other q d alive other in
    turn-given (face_differs q) d None quiet
    (given-none (face_differs q) d (scope_of q) (λ y m. elim (scope_by q q.condition y proper refl m) [
      | inl here ↦ idle_single (face_differs q) d y quiet (single_of d q.terms y single here)
      | inr apart ↦ idle_other q d y alive other apart
    ]))

-- all have one value, the sum is the number, and the condition is in force
pub turn-same : (q : Linear) (d : Domains) → is_dead d ≡ false → are_single d q.terms ≡ true → is_same (least_sum d q.terms) q.rhs ≡ true → in_force d q.condition ≡ true → turn_of (face_differs q) d ≡ Some Clash
turn-same q d alive single same on = turn-clash (face_differs q) d (test_on q d alive on ∙ true_both (are_single d q.terms) (is_same (least_sum d q.terms) q.rhs) single same)

only_condition : (q : Linear) (d : Domains) (c : Atomic) → IsProper q → q.condition ≡ Some c → are_single d q.terms ≡ true → is_same (least_sum d q.terms) q.rhs ≡ true → (e : Domains) → IsNarrowed d e c.var → test_differs q e ≡ entails e c
only_condition q d c proper k single same e n =
    let apart = apart_some q c proper k in
    alive_test q e n.alive
    ∙ and_true (in_force e q.condition) (are_single e q.terms && is_same (least_sum e q.terms) q.rhs)
    (true_both (are_single e q.terms) (is_same (least_sum e q.terms) q.rhs)
    (are_single-local q.terms e d (λ y here. n.others y (λ e. apart (subst (λ z. Among z (variables q.terms)) e here))) ∙ single)
    (ap (λ s. is_same s q.rhs) (least_sum-apart q.terms d e c.var apart n) ∙ same))
    ∙ ap (in_force e) k

-- and where the condition is not in force
pub turn-condition : (q : Linear) (d : Domains) (c : Atomic) → IsProper q → Covers (scope_of q) d → is_dead d ≡ false → IsDomain (values d c.var) → q.condition ≡ Some c → entails d c ≡ false → are_single d q.terms ≡ true → is_same (least_sum d q.terms) q.rhs ≡ true
    → turn_of (face_differs q) d ≡ option_map Atom (atom_by (values d c.var) (failing_values d c) c.var)
turn-condition q d c proper covers alive domain k off single same =
    let h : c.var < length d = condition_covered q c d k covers in
    let none : in_force d q.condition ≡ false = ap (in_force d) k ∙ off in
    turn-given (face_differs q) d (atom_by (values d c.var) (failing_values d c) c.var) (test_off q d alive none)
    (given-alone (face_differs q) d c.var (scope_of q) (in_scope q c proper k) (λ y here n. idle_term q d y proper alive none (other_of_scope q c y proper k here n))
    ∙ support-all (face_differs q) d c.var (failing_values d c) h alive (test_off q d alive none)
    (condition-support (face_differs q) d c alive h domain (only_condition q d c proper k single same)) (points q d c.var (in_scope q c proper k)))

-- ---- the same as the code finds them

place_of : (ts : List (ℤ × ℕ)) (t : ℤ × ℕ) → Among t ts → (k : ℕ) × (k < length ts) × (term_at ts k ≡ t)
place_of ts t here = let c = Contains-from_among t ts here in (c.0, c.1, get_or_default ts c.0 (pos 0, 0) t c.1 ∙ c.2)

-- where each place has one value, all have
pub are_single_from : (d : Domains) (ts : List (ℤ × ℕ)) → AreSingleFrom d ts 0 → are_single d ts ≡ true
are_single_from d ts each = list_all-from (λ t. is_single (values d t.1)) ts (λ t here.
    let p = place_of ts t here in
    ap (λ (u : ℤ × ℕ). is_single (values d u.1)) (sym p.2) ∙ each p.0 (omega arith) p.1)

climbing_places : (xs : List ℕ) → Climbs xs → (j k : ℕ) → j < k → k < length xs → get_or xs j 0 < get_or xs k 0
climbing_places [] climbs j k h l = absurd (omega arith)
climbing_places (x ∷ xs) climbs j zero h l = absurd (omega arith)
climbing_places (x ∷ xs) climbs zero (suc k) h l = Each-get_or (λ y. x < y) xs k 0 (omega arith) climbs.0
climbing_places (x ∷ xs) climbs (suc j) (suc k) h l = climbing_places xs climbs.1 j k (omega arith) (omega arith)

apart_places : (ts : List (ℤ × ℕ)) → Climbs (variables ts) → (j k : ℕ) → j < k → k < length ts → ¬ ((term_at ts j).1 ≡ (term_at ts k).1)
apart_places ts climbs j k h l e =
    let m : length (variables ts) ≡ length ts = length_variables ts in
    let p = climbing_places (variables ts) climbs j k h (omega arith) in
    let a : get_or (variables ts) j 0 ≡ (term_at ts j).1 = variable_at ts j (pos 0, 0) (omega arith) in
    let b : get_or (variables ts) k 0 ≡ (term_at ts k).1 = variable_at ts k (pos 0, 0) l in
    omega arith

pub many_found : (q : Linear) (d : Domains) (ts : List (ℤ × ℕ)) (i j : ℕ) → ts ≡ q.terms → IsProper q → is_dead d ≡ false → IsFirstOpen d ts 0 i → IsFirstOpen d ts (i + 1) j → None ≡ turn_of (face_differs q) d
many_found q d ts i j same proper alive one two =
    let f : IsFirstOpen d q.terms 0 i = subst (λ us. IsFirstOpen d us 0 i) same one in
    let g : IsFirstOpen d q.terms (i + 1) j = subst (λ us. IsFirstOpen d us (i + 1) j) same two in
    let after : i + 1 ≤ j = g.after in
    sym (turn-many q d (term_at q.terms i) (term_at q.terms j) alive (Among-get_or q.terms i (pos 0, 0) f.within) (Among-get_or q.terms j (pos 0, 0) g.within)
    (apart_places q.terms (climbs_good q.terms proper.good) i j (omega arith) g.within) f.more g.more)

pub open_off_found : (q : Linear) (d : Domains) (i : ℕ) → IsProper q → is_dead d ≡ false → IsFirstOpen d q.terms 0 i → false ≡ in_force d q.condition → None ≡ turn_of (face_differs q) d
open_off_found q d i proper alive f off =
    sym (turn-open_off q d (term_at q.terms i) proper alive (Among-get_or q.terms i (pos 0, 0) f.within) f.more (sym off))

others_single : (d : Domains) (ts : List (ℤ × ℕ)) (i : ℕ) → IsFirstOpen d ts 0 i → AreSingleFrom d ts (i + 1) → (u : ℤ × ℕ) → Among u ts → ¬ (u.1 ≡ (term_at ts i).1) → is_single (values d u.1) ≡ true
others_single d ts i f rest u here apart =
    let p = place_of ts u here in
    ap (λ (t : ℤ × ℕ). is_single (values d t.1)) (sym p.2)
    ∙ elim (cases_lt p.0 i) [
      | inl before ↦ f.before p.0 (omega arith) before
      | inr after ↦ elim (cases_eq p.0 i) [
        | inl same ↦ absurd (apart (ap (λ (t : ℤ × ℕ). t.1) (sym p.2) ∙ ap (λ (k : ℕ). (term_at ts k).1) same))
        | inr other ↦ rest p.0 (omega arith) p.1
      ]
    ]

pub open_found : (q : Linear) (d : Domains) (i : ℕ) (a : ℤ) (x : ℕ) (n : ℤ) (o : Option Atomic) (r : Option Found) → IsProper q → Covers (scope_of q) d → is_dead d ≡ false → HaveDomains q.terms d → IsFirstOpen d q.terms 0 i → AreSingleFrom d q.terms (i + 1)
    → true ≡ in_force d q.condition → a ≡ (term_at q.terms i).0 → x ≡ (term_at q.terms i).1 → n ≡ gap_of q d (term_at q.terms i) → o ≡ atom_by (values d x) (unequal n d (a, x)) x → r ≡ found_of o → r ≡ turn_of (face_differs q) d
open_found q d i a x n o r proper covers alive domains f rest on is_a is_x is_n atom found =
    let t = term_at q.terms i in
    found ∙ ap found_of (atom ∙ ap (λ z. atom_by (values d x) (unequal z d (a, x)) x) is_n ∙ ap (λ z. atom_by (values d x) (unequal (gap_of q d t) d (z, x)) x) is_a
    ∙ ap (λ (y : ℕ). atom_by (values d y) (unequal (gap_of q d t) d (t.0, y)) y) is_x)
    ∙ sym (turn-open q d t proper covers alive domains (sym on) (Among-get_or q.terms i (pos 0, 0) f.within) (proper.good i f.within).not_zero f.more (others_single d q.terms i f rest))

no_slack : (r s z : ℤ) → z ≡ r -ℤ s → s ≡ r → z ≡ pos 0
no_slack r s z e f = omega (arith, ints)

from_no_slack : (r s z : ℤ) → z ≡ r -ℤ s → z ≡ pos 0 → s ≡ r
from_no_slack r s z e f = omega (arith, ints)

bounded_fits : (z : ℤ) → IsBounded (10 ^ 37) z → FitsSigned w128 z
bounded_fits z h = omega (arith, ints)

pub other_found : (q : Linear) (d : Domains) (s : ℤ) → IsProper q → is_dead d ≡ false → AreSingleFrom d q.terms 0 → s ≡ slack_of q d → (of_z w128 s ≡ 0 → ⊥) → None ≡ turn_of (face_differs q) d
other_found q d s proper alive single is some =
    sym (turn-other q d proper alive (are_single_from d q.terms single) (false_from_ne_true (is_same (least_sum d q.terms) q.rhs) (λ t.
    some (ap (of_z w128) (no_slack q.rhs (least_sum d q.terms) s is (same_where (least_sum d q.terms) q.rhs t))))))

same_found : (q : Linear) (d : Domains) (s : ℤ) → s ≡ slack_of q d → IsBounded (10 ^ 37) s → of_z w128 s ≡ 0 → is_same (least_sum d q.terms) q.rhs ≡ true
same_found q d s is bounded none =
    is_same_where (least_sum d q.terms) q.rhs (from_no_slack q.rhs (least_sum d q.terms) s is (zero_bits s (bounded_fits s bounded) none))

pub clash_found : (q : Linear) (d : Domains) (s : ℤ) → is_dead d ≡ false → AreSingleFrom d q.terms 0 → s ≡ slack_of q d → IsBounded (10 ^ 37) s → of_z w128 s ≡ 0 → true ≡ in_force d q.condition → Some Clash ≡ turn_of (face_differs q) d
clash_found q d s alive single is bounded none on = sym (turn-same q d alive (are_single_from d q.terms single) (same_found q d s is bounded none) (sym on))

pub condition_found : (q : Linear) (d : Domains) (c : Atomic) (s : ℤ) (o : Option Atomic) (r : Option Found) → IsProper q → Covers (scope_of q) d → is_dead d ≡ false → IsDomain (values d c.var) → AreSingleFrom d q.terms 0 → s ≡ slack_of q d → IsBounded (10 ^ 37) s → of_z w128 s ≡ 0
    → Some c ≡ q.condition → false ≡ in_force d q.condition → o ≡ atom_by (values d c.var) (failing_values d c) c.var → r ≡ found_of o → r ≡ turn_of (face_differs q) d
condition_found q d c s o r proper covers alive domain single is bounded none k off atom found =
    found ∙ ap found_of atom
    ∙ sym (turn-condition q d c proper covers alive domain (sym k) (ap (in_force d) k ∙ sym off) (are_single_from d q.terms single) (same_found q d s is bounded none))
