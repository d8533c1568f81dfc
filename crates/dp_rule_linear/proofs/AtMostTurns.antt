-- The turns of a sum of at most a number.
use Rattle.std.proofs.Common.{◌≡◌, ℕ, ◌<◌, Bool, true, false, ◌&&◌, ◌||◌, List, [], ◌∷◌, length, set, Option, Some, None, option_map, ℤ, pos, ◌+ℤ◌, ◌-ℤ◌, ◌*ℤ◌, ◌≤ℤ◌, ◌<ℤ◌, int_le, int_lt, refl, sym, ◌∙◌, ap, subst, inl, inr, arith}
use Rattle.std.specs.List.{filter}
use Rattle.std.proofs.lemmas.Int.{ints}
use Rattle.std.proofs.lemmas.Bool.{both_ways, false_from_ne_true, true_from_ne_false}
use Rattle.dp_base.specs.Lists.{Among}
use Rattle.dp_base.proofs.Lists.{Among-filter_all, Among-filter_only, Each-among, list_all-at, list_all-from}
use Rattle.dp_base.proofs.ScopeLaws.{among_with, among_with_out}
use Rattle.dp_domain.specs.Atoms.{Atomic, meets, negated}
use Rattle.dp_domain.specs.Conditions.{in_force}
use Rattle.dp_domain.specs.declared.found.Found.{Found}
use Rattle.dp_domain.specs.declared.found.Found.TheVariants.{Clash, Atom}
use Rattle.dp_domain.specs.Faces.{Covers, Face}
use Rattle.dp_domain.specs.Sets.{IsDomain}
use Rattle.dp_domain.specs.States.{Domains, cut, entails, is_dead, values}
use Rattle.dp_domain.specs.Turns.{given, given_on, or_else, turn_of}
use Rattle.dp_domain.proofs.AtomLaws.{lt-from_test, meets-from_not, not-from_meets, test-from_lt}
use Rattle.dp_domain.proofs.SetLaws.{IsDomain-filter}
use Rattle.dp_domain.specs.Supports.{IsSupport, bound_by}
use Rattle.dp_domain.proofs.SupportLaws.{support-bound}
use Rattle.dp_rule_linear.specs.AtMost.{face_at_most, test_at_most}
use Rattle.dp_rule_linear.specs.Bounds.{failing_values, first_bound, fitting, found_of}
use Rattle.dp_rule_linear.specs.Forms.{HaveDomains, IsProper, Linear, least_product, least_sum, scope_of, variables}
use Rattle.dp_rule_linear.specs.FormLaws.{variable_of}
use Rattle.dp_rule_linear.specs.IntLaws.{least_image-among, least_image-bound}
use Rattle.dp_rule_linear.proofs.GivenLaws.{given-alone, given-without, nothing-on, turn-clash, turn-given}
use Rattle.dp_rule_linear.proofs.NarrowLaws.{IsNarrowed, in_force-other, least_sum-apart, least_sum-moves, narrowed-cut, narrowed-kept, values-kept}
use Rattle.dp_rule_linear.proofs.Places.{apart_some, climbs_good, condition_covered, scope_none, scope_some, terms_covered}

-- ---- conditions

-- where all but the condition holds whatever its variable is, the values that fail it are supported
pub condition-support : (f : Face) (d : Domains) (c : Atomic) → is_dead d ≡ false → c.var < length d → IsDomain (values d c.var)
    → ((e : Domains) → IsNarrowed d e c.var → f.test e ≡ entails e c) → IsSupport f d c.var (failing_values d c)
condition-support f d c alive h domain same = record {
  domain = IsDomain-filter (meets (negated c)) (values d c.var) domain;
  within = λ v m. (Among-filter_only (meets (negated c)) (values d c.var) v m).0;
  clash = λ p v m t.
      let e = set d c.var (filter p (values d c.var)) in
      let k : values e c.var ≡ filter p (values d c.var) = values-kept d c.var (filter p (values d c.var)) h in
      let s : f.test e ≡ entails e c = same e (narrowed-kept d c.var p v alive m t) in (
        λ clashes w n u g. both_ways (meets c w)
            (not-from_meets c w (Among-filter_only (meets (negated c)) (values d c.var) w g).1)
            (list_all-at (meets c) (values e c.var) w (sym s ∙ clashes) (subst (λ ys. Among w ys) (sym k) (Among-filter_all p (values d c.var) w n u))),
        λ none. s ∙ list_all-from (meets c) (values e c.var) (λ w n.
            let r = Among-filter_only p (values d c.var) w (subst (λ ys. Among w ys) k n) in
            true_from_ne_false (meets c w) (λ fails. none w r.0 r.1 (Among-filter_all (meets (negated c)) (values d c.var) w r.0 (meets-from_not c w fails)))),
      );
}

-- ---- tests

alive_test : (q : Linear) (e : Domains) → is_dead e ≡ false → test_at_most q e ≡ (in_force e q.condition && int_lt q.rhs (least_sum e q.terms))
alive_test q e alive = ap (λ b. b || (in_force e q.condition && int_lt q.rhs (least_sum e q.terms))) alive

test_off : (q : Linear) (e : Domains) → is_dead e ≡ false → in_force e q.condition ≡ false → test_at_most q e ≡ false
test_off q e alive off = alive_test q e alive ∙ ap (λ b. b && int_lt q.rhs (least_sum e q.terms)) off

test_on : (q : Linear) (e : Domains) → is_dead e ≡ false → in_force e q.condition ≡ true → test_at_most q e ≡ int_lt q.rhs (least_sum e q.terms)
test_on q e alive on = alive_test q e alive ∙ ap (λ b. b && int_lt q.rhs (least_sum e q.terms)) on

and_false : (a b : Bool) → b ≡ false → (a && b) ≡ false
and_false true b e = e
and_false false b e = refl

and_true : (a b : Bool) → b ≡ true → (a && b) ≡ a
and_true true b e = e
and_true false b e = refl

under : (x y : ℤ) → y ≤ℤ x → int_lt x y ≡ false
under x y h = false_from_ne_true (int_lt x y) (λ e. not_over x y e h)
  where
    not_over : (x y : ℤ) → int_lt x y ≡ true → y ≤ℤ x → ⊥
    not_over x y e h = omega (arith, ints)

over : (x y : ℤ) → x <ℤ y → int_lt x y ≡ true
over x y h = sym (omega (arith, ints))

over_from : (x y : ℤ) → int_lt x y ≡ true → x <ℤ y
over_from x y e = omega (arith, ints)

test_under : (q : Linear) (e : Domains) → is_dead e ≡ false → least_sum e q.terms ≤ℤ q.rhs → test_at_most q e ≡ false
test_under q e alive h = alive_test q e alive ∙ and_false (in_force e q.condition) (int_lt q.rhs (least_sum e q.terms)) (under q.rhs (least_sum e q.terms) h)

-- ---- variables that get nothing

-- a term's variable where the condition is not in force
idle_term : (q : Linear) (d : Domains) (x : ℕ) → IsProper q → is_dead d ≡ false → in_force d q.condition ≡ false → Among x (variables q.terms) → given_on (face_at_most q) d x ≡ None
idle_term q d x proper alive off here = nothing-on (face_at_most q) d x (λ a e h.
    let n : IsNarrowed d (cut d (negated a)) x = subst (λ y. IsNarrowed d (cut d (negated a)) y) e (narrowed-cut d a alive h) in
    test_off q (cut d (negated a)) n.alive (in_force-other q.condition (variables q.terms) d (cut d (negated a)) x proper.apart here n ∙ off))

-- another variable where the sum of the least values is at most the number
idle_other : (q : Linear) (d : Domains) (x : ℕ) → is_dead d ≡ false → least_sum d q.terms ≤ℤ q.rhs → ¬ (Among x (variables q.terms)) → given_on (face_at_most q) d x ≡ None
idle_other q d x alive most apart = nothing-on (face_at_most q) d x (λ a e h.
    let n : IsNarrowed d (cut d (negated a)) x = subst (λ y. IsNarrowed d (cut d (negated a)) y) e (narrowed-cut d a alive h) in
    test_under q (cut d (negated a)) n.alive (subst (λ s. s ≤ℤ q.rhs) (sym (least_sum-apart q.terms d (cut d (negated a)) x apart n)) most))

-- ---- the terms' variables

moved_over : (r s s' p p' z : ℤ) → s' +ℤ p ≡ s +ℤ p' → r <ℤ s' → p' ≤ℤ z → ((r -ℤ s) +ℤ p) <ℤ z
moved_over r s s' p p' z e h k = omega (arith, ints)

over_moved : (r s s' p p' z : ℤ) → s' +ℤ p ≡ s +ℤ p' → p' ≡ z → ((r -ℤ s) +ℤ p) <ℤ z → r <ℤ s'
over_moved r s s' p p' z e f h = omega (arith, ints)

-- the slack: how much the sum of the least values is below the number
abbrev pub slack_of : Linear → Domains → ℤ
slack_of q d = q.rhs -ℤ least_sum d q.terms

-- the values at which the term exceeds its least value by at most the slack are supported
term-support : (q : Linear) (d : Domains) (t : ℤ × ℕ) → IsProper q → is_dead d ≡ false → in_force d q.condition ≡ true → t.1 < length d → IsDomain (values d t.1) → Among t q.terms
    → IsSupport (face_at_most q) d t.1 (fitting (slack_of q d) d t)
term-support q d t proper alive on h domain here = record {
  domain = IsDomain-filter (λ v. int_le (t.0 *ℤ v) (slack_of q d +ℤ least_product d t)) (values d t.1) domain;
  within = λ v m. (Among-filter_only (λ v. int_le (t.0 *ℤ v) (slack_of q d +ℤ least_product d t)) (values d t.1) v m).0;
  clash = λ p v m u.
      let e = set d t.1 (filter p (values d t.1)) in
      let k : values e t.1 ≡ filter p (values d t.1) = values-kept d t.1 (filter p (values d t.1)) h in
      let n : IsNarrowed d e t.1 = narrowed-kept d t.1 p v alive m u in
      let s : test_at_most q e ≡ int_lt q.rhs (least_sum e q.terms) =
      test_on q e n.alive (in_force-other q.condition (variables q.terms) d e t.1 proper.apart (variable_of q.terms t here) n ∙ on) in
      let moves : least_sum e q.terms +ℤ least_product d t ≡ least_sum d q.terms +ℤ least_product e t = least_sum-moves q.terms d e t (climbs_good q.terms proper.good) here n in (
        λ clashes w a b g. both_ways (int_le (t.0 *ℤ w) (slack_of q d +ℤ least_product d t))
            (test-from_lt (t.0 *ℤ w) (slack_of q d +ℤ least_product d t) (moved_over q.rhs (least_sum d q.terms) (least_sum e q.terms) (least_product d t) (least_product e t) (t.0 *ℤ w)
            moves (over_from q.rhs (least_sum e q.terms) (sym s ∙ clashes))
            (least_image-bound (λ z. t.0 *ℤ z) (values e t.1) w (subst (λ ys. Among w ys) (sym k) (Among-filter_all p (values d t.1) w a b)))))
            (Among-filter_only (λ v. int_le (t.0 *ℤ v) (slack_of q d +ℤ least_product d t)) (values d t.1) w g).1,
        λ none.
            let r = least_image-among (λ z. t.0 *ℤ z) (values e t.1) v (subst (λ ys. Among v ys) (sym k) (Among-filter_all p (values d t.1) v m u)) in
            let w = Among-filter_only p (values d t.1) r.0 (subst (λ ys. Among r.0 ys) k r.1) in
            let far : int_le (t.0 *ℤ r.0) (slack_of q d +ℤ least_product d t) ≡ false = false_from_ne_true (int_le (t.0 *ℤ r.0) (slack_of q d +ℤ least_product d t))
            (λ fits. none r.0 w.0 w.1 (Among-filter_all (λ v. int_le (t.0 *ℤ v) (slack_of q d +ℤ least_product d t)) (values d t.1) r.0 w.0 fits)) in
            s ∙ over q.rhs (least_sum e q.terms) (over_moved q.rhs (least_sum d q.terms) (least_sum e q.terms) (least_product d t) (least_product e t) (t.0 *ℤ r.0)
            moves r.2 (lt-from_test (t.0 *ℤ r.0) (slack_of q d +ℤ least_product d t) far)),
      );
}

terms_given : (q : Linear) (d : Domains) (ts : List (ℤ × ℕ)) → IsProper q → is_dead d ≡ false → in_force d q.condition ≡ true → least_sum d q.terms ≤ℤ q.rhs
    → ((t : ℤ × ℕ) → Among t ts → Among t q.terms × (t.1 < length d) × IsDomain (values d t.1)) → given (face_at_most q) d (variables ts) ≡ first_bound (slack_of q d) d ts
terms_given q d [] proper alive on most each = refl
terms_given q d (t ∷ ts) proper alive on most each =
    let m = each t (inl refl) in
    ap (λ o. or_else o (given (face_at_most q) d (variables ts)))
    (support-bound (face_at_most q) d t.1 (fitting (slack_of q d) d t) m.1 alive (test_under q d alive most) (term-support q d t proper alive on m.1 m.2 m.0) (λ v. refl))
    ∙ ap (or_else (bound_by (values d t.1) (fitting (slack_of q d) d t) t.1)) (terms_given q d ts proper alive on most (λ u here. each u (inr here)))

-- what is given on the scope is given on the terms' variables
scope_given : (q : Linear) (d : Domains) (c : Option Atomic) → IsProper q → is_dead d ≡ false → least_sum d q.terms ≤ℤ q.rhs → q.condition ≡ c → given (face_at_most q) d (scope_of q) ≡ given (face_at_most q) d (variables q.terms)
scope_given q d None proper alive most e = ap (given (face_at_most q) d) (scope_none q proper e)
scope_given q d (Some a) proper alive most e =
    ap (given (face_at_most q) d) (scope_some q a proper e)
    ∙ given-without (face_at_most q) d a.var (variables q.terms) (idle_other q d a.var alive most (apart_some q a proper e))

-- ---- turns

-- a condition in force and a sum above the number
pub turn-over : (q : Linear) (d : Domains) → is_dead d ≡ false → in_force d q.condition ≡ true → q.rhs <ℤ least_sum d q.terms → turn_of (face_at_most q) d ≡ Some Clash
turn-over q d alive on more = turn-clash (face_at_most q) d (test_on q d alive on ∙ over q.rhs (least_sum d q.terms) more)

-- a condition in force and a sum of at most the number
pub turn-bounds : (q : Linear) (d : Domains) → IsProper q → Covers (scope_of q) d → is_dead d ≡ false → HaveDomains q.terms d → in_force d q.condition ≡ true → least_sum d q.terms ≤ℤ q.rhs
    → turn_of (face_at_most q) d ≡ option_map Atom (first_bound (slack_of q d) d q.terms)
turn-bounds q d proper covers alive domains on most =
    turn-given (face_at_most q) d (first_bound (slack_of q d) d q.terms) (test_under q d alive most)
    (scope_given q d q.condition proper alive most refl
    ∙ terms_given q d q.terms proper alive on most (λ t here.
    (here, Each-among (λ x. x < length d) (variables q.terms) (terms_covered q d covers) t.1 (variable_of q.terms t here), Each-among (λ (t : ℤ × ℕ). IsDomain (values d t.1)) q.terms domains t here)))

pub in_scope : (q : Linear) (c : Atomic) → IsProper q → q.condition ≡ Some c → Among c.var (scope_of q)
in_scope q c proper e = subst (λ xs. Among c.var xs) (sym (scope_some q c proper e)) (among_with c.var c.var (variables q.terms) (inl refl))

pub other_of_scope : (q : Linear) (c : Atomic) (y : ℕ) → IsProper q → q.condition ≡ Some c → Among y (scope_of q) → ¬ (y ≡ c.var) → Among y (variables q.terms)
other_of_scope q c y proper e here n = elim (among_with_out y c.var (variables q.terms) (subst (λ xs. Among y xs) (scope_some q c proper e) here)) [
  | inl same ↦ absurd (n same)
  | inr later ↦ later
]

only_condition : (q : Linear) (d : Domains) (c : Atomic) → IsProper q → q.condition ≡ Some c → q.rhs <ℤ least_sum d q.terms → (e : Domains) → IsNarrowed d e c.var → test_at_most q e ≡ entails e c
only_condition q d c proper k more e n =
    alive_test q e n.alive
    ∙ and_true (in_force e q.condition) (int_lt q.rhs (least_sum e q.terms)) (ap (int_lt q.rhs) (least_sum-apart q.terms d e c.var (apart_some q c proper k) n) ∙ over q.rhs (least_sum d q.terms) more)
    ∙ ap (in_force e) k

-- a condition that is not in force and a sum above the number
pub turn-condition : (q : Linear) (d : Domains) (c : Atomic) → IsProper q → Covers (scope_of q) d → is_dead d ≡ false → IsDomain (values d c.var) → q.condition ≡ Some c → entails d c ≡ false → q.rhs <ℤ least_sum d q.terms
    → turn_of (face_at_most q) d ≡ option_map Atom (bound_by (values d c.var) (failing_values d c) c.var)
turn-condition q d c proper covers alive domain k off more =
    let h : c.var < length d = condition_covered q c d k covers in
    let none : in_force d q.condition ≡ false = ap (in_force d) k ∙ off in
    turn-given (face_at_most q) d (bound_by (values d c.var) (failing_values d c) c.var) (test_off q d alive none)
    (given-alone (face_at_most q) d c.var (scope_of q) (in_scope q c proper k) (λ y here n. idle_term q d y proper alive none (other_of_scope q c y proper k here n))
    ∙ support-bound (face_at_most q) d c.var (failing_values d c) h alive (test_off q d alive none) (condition-support (face_at_most q) d c alive h domain (only_condition q d c proper k more)) (λ v. refl))

-- a condition that is not in force and a sum of at most the number
pub turn-none : (q : Linear) (d : Domains) (c : Atomic) → IsProper q → is_dead d ≡ false → q.condition ≡ Some c → entails d c ≡ false → least_sum d q.terms ≤ℤ q.rhs → turn_of (face_at_most q) d ≡ None
turn-none q d c proper alive k off most =
    let none : in_force d q.condition ≡ false = ap (in_force d) k ∙ off in
    turn-given (face_at_most q) d None (test_off q d alive none)
    (given-alone (face_at_most q) d c.var (scope_of q) (in_scope q c proper k) (λ y here n. idle_term q d y proper alive none (other_of_scope q c y proper k here n))
    ∙ idle_other q d c.var alive most (apart_some q c proper k))

-- ---- the same as the code finds them

pub bounds_found : (q : Linear) (d : Domains) (s : ℤ) (ts : List (ℤ × ℕ)) (o : Option Atomic) (r : Option Found) → IsProper q → Covers (scope_of q) d → is_dead d ≡ false → HaveDomains q.terms d → in_force d q.condition ≡ true → s ≡ slack_of q d → pos 0 ≤ℤ s
    → ts ≡ q.terms → o ≡ first_bound s d ts → r ≡ found_of o → r ≡ turn_of (face_at_most q) d
bounds_found q d s ts o r proper covers alive domains on is sign terms bound found =
    found ∙ ap found_of (bound ∙ ap (λ z. first_bound z d ts) is ∙ ap (first_bound (slack_of q d) d) terms)
    ∙ sym (turn-bounds q d proper covers alive domains on (omega (arith, ints)))

pub condition_found : (q : Linear) (d : Domains) (c : Atomic) (s : ℤ) (o : Option Atomic) (r : Option Found) → IsProper q → Covers (scope_of q) d → is_dead d ≡ false → IsDomain (values d c.var) → Some c ≡ q.condition → false ≡ in_force d q.condition → s ≡ slack_of q d → s <ℤ pos 0
    → o ≡ bound_by (values d c.var) (failing_values d c) c.var → r ≡ found_of o → r ≡ turn_of (face_at_most q) d
condition_found q d c s o r proper covers alive domain k off is sign bound found =
    found ∙ ap found_of bound ∙ sym (turn-condition q d c proper covers alive domain (sym k) (ap (in_force d) k ∙ sym off) (omega (arith, ints)))

pub nothing_found : (q : Linear) (d : Domains) (c : Atomic) (s : ℤ) → IsProper q → is_dead d ≡ false → Some c ≡ q.condition → false ≡ in_force d q.condition → s ≡ slack_of q d → pos 0 ≤ℤ s → None ≡ turn_of (face_at_most q) d
nothing_found q d c s proper alive k off is sign = sym (turn-none q d c proper alive (sym k) (ap (in_force d) k ∙ sym off) (omega (arith, ints)))
