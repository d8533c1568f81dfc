-- The laws of a restriction.
use Rattle.std.specs.Prelude.{◌≡◌, ℕ, ◌<◌, Bool, true, false, not, ◌&&◌, ◌||◌, ◌↔◌, [], ◌∷◌, length, ℤ}
use Rattle.std.proofs.Common.{refl, sym, ◌∙◌, ap, subst, inl, inr}
use Rattle.std.proofs.lemmas.Bool.{false≢true, both_ways, false_from_ne_true, not_from_false}
use Rattle.dp_base.specs.Lists.{Among}
use Rattle.dp_base.proofs.Lists.{Each-among}
use Rattle.dp_base.proofs.ScopeLaws.{among_in_order, climbs_in_order}
use Rattle.dp_domain.specs.Conditions.{in_force, with_condition}
use Rattle.dp_domain.specs.Faces.{Covers, Fixes, IsLawful}
use Rattle.dp_domain.specs.Sets.{share}
use Rattle.dp_domain.specs.States.{Domains, LiesIn, IsWithin, is_dead, values}
use Rattle.dp_domain.proofs.ConditionLaws.{among_with_condition, in_force-fixed, in_force-from_fixed, in_force-local, in_force-sound, in_force-within, test_cases, test_dead, test_over}
use Rattle.dp_domain.proofs.ShareLaws.{share-at, share-none}
use Rattle.dp_domain.proofs.StateLaws.{LiesIn-alive, dead-within}
use Rattle.dp_rule_clause.specs.Restrictions.{Restriction, ClashesWithin, MeetsWithin, face_within, scope_of, test_within}

-- the variable is of the scope
pub variable_in_scope : (q : Restriction) → Among q.var (scope_of q)
variable_in_scope q = among_in_order q.var (with_condition q.condition (q.var ∷ [])) (among_with_condition q.condition (q.var ∷ []) q.var (inl refl))

apart : (b : Bool) → not b ≡ true → b ≡ false
apart true e = absurd (false≢true e)
apart false e = refl

clashes_where : (q : Restriction) (d : Domains) → test_within q d ≡ true → ClashesWithin q d
clashes_where q d e = elim (test_cases (is_dead d) (in_force d q.condition) (not (share (values d q.var) q.set)) e) [
  | inl dead ↦ inl dead
  | inr both ↦ inr (both.0, λ v here there. both_ways (share (values d q.var) q.set) (apart (share (values d q.var) q.set) both.1) (share-at (values d q.var) q.set v here there))
]

true_where : (q : Restriction) (d : Domains) → ClashesWithin q d → test_within q d ≡ true
true_where q d (inl dead) = test_dead (is_dead d) (in_force d q.condition && not (share (values d q.var) q.set)) dead
true_where q d (inr both) =
    test_over (is_dead d) (in_force d q.condition) (not (share (values d q.var) q.set)) both.0 (not_from_false (share (values d q.var) q.set) (share-none (values d q.var) q.set both.1))

-- the test is true exactly where it clashes
pub within_exact : (q : Restriction) (d : Domains) → (face_within q).test d ≡ true ↔ ClashesWithin q d
within_exact q d = (clashes_where q d, true_where q d)

monotone : (q : Restriction) (d e : Domains) → IsWithin e d → ClashesWithin q d → ClashesWithin q e
monotone q d e within (inl dead) = inl (dead-within d e within dead)
monotone q d e within (inr both) = inr (in_force-within q.condition d e within both.0, λ v here. both.1 v (within.each q.var v here))

same_test : (a b f g h k : Bool) → a ≡ b → f ≡ g → h ≡ k → (a || (f && not h)) ≡ (b || (g && not k))
same_test a b f g h k p q e = cc

pub within_lawful : (q : Restriction) → IsLawful (face_within q)
within_lawful q = record {
  ordered = climbs_in_order (with_condition q.condition (q.var ∷ []));
  dead = λ d gone. true_where q d (inl gone);
  monotone = λ d e covers within h. true_where q e (monotone q d e within (clashes_where q d h));
  local = λ d e p r agrees. same_test (is_dead d) (is_dead e) (in_force d q.condition) (in_force e q.condition) (share (values d q.var) q.set) (share (values e q.var) q.set) (p ∙ sym r) (in_force-local q.condition (q.var ∷ []) d e agrees) (ap (λ vs. share vs q.set) (agrees q.var (variable_in_scope q)));
}

covered : (q : Restriction) (d : Domains) → Covers (scope_of q) d → q.var < length d
covered q d covers = Each-among (λ x. x < length d) (scope_of q) covers q.var (variable_in_scope q)

no_clash : (q : Restriction) (d : Domains) (s : ℕ → ℤ) → Covers (scope_of q) d → LiesIn s d → MeetsWithin q s → ClashesWithin q d → ⊥
no_clash q d s covers lies met (inl dead) = both_ways (is_dead d) (LiesIn-alive d s lies) dead
no_clash q d s covers lies (inl fails) (inr both) = in_force-sound q.condition (q.var ∷ []) d s covers lies both.0 fails
no_clash q d s covers lies (inr here) (inr both) = both.1 (s q.var) (lies q.var (covered q d covers)) here

pub within_sound : (q : Restriction) (d : Domains) (s : ℕ → ℤ) → Covers (face_within q).scope d → LiesIn s d → MeetsWithin q s → (face_within q).test d ≡ false
within_sound q d s covers lies met =
    false_from_ne_true (test_within q d) (λ e. no_clash q d s covers lies met (clashes_where q d e))

not_met : (q : Restriction) (d : Domains) (s : ℕ → ℤ) → is_dead d ≡ false → Fixes (scope_of q) s d → ClashesWithin q d → MeetsWithin q s → ⊥
not_met q d s alive fixes (inl dead) met = both_ways (is_dead d) alive dead
not_met q d s alive fixes (inr both) (inl fails) = in_force-fixed q.condition (q.var ∷ []) d s fixes both.0 fails
not_met q d s alive fixes (inr both) (inr here) =
    both.1 (s q.var) (subst (λ vs. Among (s q.var) vs) (sym (fixes q.var (variable_in_scope q))) (inl refl)) here

only_value : (v w : ℤ) → Among v (w ∷ []) → v ≡ w
only_value v w (inl e) = e
only_value v w (inr none) = absurd none

clash_where_not_met : (q : Restriction) (d : Domains) (s : ℕ → ℤ) → Fixes (scope_of q) s d → (MeetsWithin q s → ⊥) → ClashesWithin q d
clash_where_not_met q d s fixes fails =
    inr (
      in_force-from_fixed q.condition (q.var ∷ []) d s fixes (λ f. fails (inl f)),
      λ v here there. fails (inr (subst (λ u. Among u q.set) (only_value v (s q.var) (subst (λ vs. Among v vs) (fixes q.var (variable_in_scope q)) here)) there)),
    )

pub within_deciding : (q : Restriction) (d : Domains) (s : ℕ → ℤ) → is_dead d ≡ false → Fixes (face_within q).scope s d → ((face_within q).test d ≡ true) ↔ (MeetsWithin q s → ⊥)
within_deciding q d s alive fixes =
    (λ e. not_met q d s alive fixes (clashes_where q d e), λ fails. true_where q d (clash_where_not_met q d s fixes fails))
