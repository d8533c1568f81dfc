-- The laws of a sum of at most a number.
use Rattle.std.specs.Prelude.{◌≡◌, ℕ, ◌<◌, Bool, true, false, ◌&&◌, ◌||◌, ◌↔◌, length, ℤ, ◌≤ℤ◌, ◌<ℤ◌, int_lt}
use Rattle.std.proofs.Common.{refl, sym, ◌∙◌, subst, inl, inr, arith}
use Rattle.std.proofs.lemmas.Int.{ints}
use Rattle.std.proofs.lemmas.Bool.{both_ways, false_from_ne_true}
use Rattle.dp_base.specs.Lists.{Among}
use Rattle.dp_base.proofs.Lists.{Each-among}
use Rattle.dp_domain.specs.Faces.{Covers, Fixes, IsLawful}
use Rattle.dp_domain.specs.States.{Domains, LiesIn, IsWithin, is_dead}
use Rattle.dp_domain.proofs.StateLaws.{LiesIn-alive, dead-within}
use Rattle.dp_rule_linear.specs.AtMost.{ClashesAtMost, MeetsAtMost, face_at_most, test_at_most}
use Rattle.dp_domain.proofs.ConditionLaws.{in_force-fixed, in_force-from_fixed, in_force-local, in_force-sound, in_force-within, test_cases, test_dead, test_over}
use Rattle.dp_rule_linear.specs.FormLaws.{least_sum-bound, least_sum-fixed, least_sum-local, least_sum-within, variable_in_scope}
use Rattle.dp_domain.specs.Conditions.{in_force, with_condition}
use Rattle.dp_rule_linear.specs.Forms.{Linear, least_sum, scope_of, sum_at, variables}
use Rattle.dp_rule_linear.specs.IntLaws.{order_of}
use Rattle.dp_base.proofs.ScopeLaws.{climbs_in_order}

over : (x y : ℤ) → int_lt x y ≡ true → x <ℤ y
over x y e = omega (arith, ints)

over_test : (x y : ℤ) → x <ℤ y → int_lt x y ≡ true
over_test x y h = sym (omega (arith, ints))

clashes_where : (q : Linear) (d : Domains) → test_at_most q d ≡ true → ClashesAtMost q d
clashes_where q d e = elim (test_cases (is_dead d) (in_force d q.condition) (int_lt q.rhs (least_sum d q.terms)) e) [
  | inl dead ↦ inl dead
  | inr both ↦ inr (both.0, over q.rhs (least_sum d q.terms) both.1)
]

true_where : (q : Linear) (d : Domains) → ClashesAtMost q d → test_at_most q d ≡ true
true_where q d clashes = elim clashes [
  | inl dead ↦ test_dead (is_dead d) (in_force d q.condition && int_lt q.rhs (least_sum d q.terms)) dead
  | inr both ↦ test_over (is_dead d) (in_force d q.condition) (int_lt q.rhs (least_sum d q.terms)) both.0 (over_test q.rhs (least_sum d q.terms) both.1)
]

-- the test is true exactly where it clashes
pub at_most_exact : (q : Linear) (d : Domains) → (face_at_most q).test d ≡ true ↔ ClashesAtMost q d
at_most_exact q d = (clashes_where q d, true_where q d)

covered : (q : Linear) (d : Domains) → Covers (scope_of q) d → (x : ℕ) → Among x (variables q.terms) → x < length d
covered q d covers x here = Each-among (λ y. y < length d) (scope_of q) covers x (variable_in_scope q x here)

monotone : (q : Linear) (d e : Domains) → Covers (scope_of q) d → IsWithin e d → ClashesAtMost q d → (b : Bool) → is_dead e ≡ b → ClashesAtMost q e
monotone q d e covers within clashes true dead = inl dead
monotone q d e covers within (inl gone) false alive = absurd (both_ways (is_dead e) alive (dead-within d e within gone))
monotone q d e covers within (inr both) false alive =
    inr (in_force-within q.condition d e within both.0, let more : least_sum d q.terms ≤ℤ least_sum e q.terms = least_sum-within q.terms d e within alive (λ x here. subst (λ n. x < n) (sym within.count) (covered q d covers x here)) in let less : q.rhs <ℤ least_sum d q.terms = both.1 in later q.rhs (least_sum d q.terms) (least_sum e q.terms) less more)
  where
    later : (x y z : ℤ) → x <ℤ y → y ≤ℤ z → x <ℤ z
    later x y z h k = omega (arith, ints)

same_test : (a b f g : Bool) (r x y : ℤ) → a ≡ b → f ≡ g → x ≡ y → (a || (f && int_lt r x)) ≡ (b || (g && int_lt r y))
same_test a b f g r x y p q e = cc

pub at_most_lawful : (q : Linear) → IsLawful (face_at_most q)
at_most_lawful q = record {
  ordered = climbs_in_order (with_condition q.condition (variables q.terms));
  dead = λ d gone. true_where q d (inl gone);
  monotone = λ d e covers within h. true_where q e (monotone q d e covers within (clashes_where q d h) (is_dead e) refl);
  local = λ d e p r agrees. same_test (is_dead d) (is_dead e) (in_force d q.condition) (in_force e q.condition) q.rhs (least_sum d q.terms) (least_sum e q.terms) (p ∙ sym r) (in_force-local q.condition (variables q.terms) d e agrees) (least_sum-local q.terms d e (λ x here. agrees x (variable_in_scope q x here)));
}

not_both : (x y z : ℤ) → x <ℤ y → y ≤ℤ z → z ≤ℤ x → ⊥
not_both x y z h k l = omega (arith, ints)

no_clash : (q : Linear) (d : Domains) (s : ℕ → ℤ) → Covers (scope_of q) d → LiesIn s d → MeetsAtMost q s → ClashesAtMost q d → ⊥
no_clash q d s covers lies meets (inl dead) = both_ways (is_dead d) (LiesIn-alive d s lies) dead
no_clash q d s covers lies (inl fails) (inr both) = in_force-sound q.condition (variables q.terms) d s covers lies both.0 fails
no_clash q d s covers lies (inr most) (inr both) =
    not_both q.rhs (least_sum d q.terms) (sum_at s q.terms) both.1 (least_sum-bound q.terms d s (λ x here. lies x (covered q d covers x here))) most

pub at_most_sound : (q : Linear) (d : Domains) (s : ℕ → ℤ) → Covers (face_at_most q).scope d → LiesIn s d → MeetsAtMost q s → (face_at_most q).test d ≡ false
at_most_sound q d s covers lies meets =
    false_from_ne_true (test_at_most q d) (λ e. no_clash q d s covers lies meets (clashes_where q d e))

not_met : (q : Linear) (d : Domains) (s : ℕ → ℤ) → is_dead d ≡ false → Fixes (scope_of q) s d → ClashesAtMost q d → MeetsAtMost q s → ⊥
not_met q d s alive fixes (inl dead) meets = both_ways (is_dead d) alive dead
not_met q d s alive fixes (inr both) (inl fails) = in_force-fixed q.condition (variables q.terms) d s fixes both.0 fails
not_met q d s alive fixes (inr both) (inr most) =
    not_over q.rhs (least_sum d q.terms) (sum_at s q.terms) both.1 (least_sum-fixed q.terms d s (λ x here. fixes x (variable_in_scope q x here))) most
  where
    not_over : (x y z : ℤ) → x <ℤ y → y ≡ z → z ≤ℤ x → ⊥
    not_over x y z h e l = omega (arith, ints)

clash_where_not_met : (q : Linear) (d : Domains) (s : ℕ → ℤ) → Fixes (scope_of q) s d → (MeetsAtMost q s → ⊥) → ClashesAtMost q d
clash_where_not_met q d s fixes fails =
    inr (
      in_force-from_fixed q.condition (variables q.terms) d s fixes (λ f. fails (inl f)),
      elim (order_of (sum_at s q.terms) q.rhs) [
        | inl most ↦ absurd (fails (inr most))
        | inr more ↦ subst (λ z. q.rhs <ℤ z) (sym (least_sum-fixed q.terms d s (λ x here. fixes x (variable_in_scope q x here)))) more
      ],
    )

pub at_most_deciding : (q : Linear) (d : Domains) (s : ℕ → ℤ) → is_dead d ≡ false → Fixes (face_at_most q).scope s d → ((face_at_most q).test d ≡ true) ↔ (MeetsAtMost q s → ⊥)
at_most_deciding q d s alive fixes =
    (λ e. not_met q d s alive fixes (clashes_where q d e), λ fails. true_where q d (clash_where_not_met q d s fixes fails))
