-- The laws of a sum other than a number.
use Rattle.std.specs.Prelude.{◌≡◌, ℕ, ◌<◌, Bool, true, false, ◌&&◌, ◌||◌, ◌↔◌, ◌==◌, List, [], ◌∷◌, length, ℤ, pos, ◌*ℤ◌, int_le}
use Rattle.std.specs.List.{list_all}
use Rattle.std.proofs.Common.{refl, sym, ◌∙◌, ap, subst, inl, inr, arith}
use Rattle.std.proofs.lemmas.Int.{ints}
use Rattle.std.proofs.lemmas.Bool.Decides.{Decides-eqb}
use Rattle.std.proofs.lemmas.Bool.{false≢true, both_ways, false_from_ne_true}
use Rattle.dp_base.specs.Lists.{Among}
use Rattle.dp_base.proofs.Lists.{Each-among, Each-from_among, list_all-at, list_all-from, list_any-at, list_any-some}
use Rattle.dp_domain.specs.Faces.{AgreesOn, Covers, Fixes, IsLawful}
use Rattle.dp_domain.specs.States.{Domains, LiesIn, IsWithin, is_dead, values}
use Rattle.dp_domain.proofs.StateLaws.{LiesIn-alive, alive-value, dead-within}
use Rattle.dp_rule_linear.specs.Differs.{ClashesDiffers, IsFixedAt, IsOnly, MeetsDiffers, are_single, face_differs, is_same, is_single, test_differs}
use Rattle.dp_domain.proofs.ConditionLaws.{in_force-fixed, in_force-from_fixed, in_force-local, in_force-sound, in_force-within, test_cases, test_dead, test_over}
use Rattle.dp_rule_linear.specs.FormLaws.{least_sum-local, total-same, variable_in_scope, variable_of}
use Rattle.dp_domain.specs.Conditions.{in_force, with_condition}
use Rattle.dp_rule_linear.specs.Forms.{Linear, least_product, least_sum, product, scope_of, sum_at, variables}
use Rattle.dp_rule_linear.specs.IntLaws.{Among-map_only, least_image-among}
use Rattle.dp_base.proofs.ScopeLaws.{climbs_in_order}

-- ---- equal numbers

pub both_true : (a b : Bool) → (a && b) ≡ true → (a ≡ true) × (b ≡ true)
both_true true true e = (refl, refl)
both_true true false e = absurd (false≢true e)
both_true false b e = absurd (false≢true e)

pub true_both : (a b : Bool) → a ≡ true → b ≡ true → (a && b) ≡ true
true_both true b e f = f
true_both false b e f = absurd (false≢true e)

-- equal by the test
pub same_where : (x y : ℤ) → is_same x y ≡ true → x ≡ y
same_where x y e = let both = both_true (int_le x y) (int_le y x) e in both_orders x y both.0 both.1
  where
    both_orders : (x y : ℤ) → int_le x y ≡ true → int_le y x ≡ true → x ≡ y
    both_orders x y e f = omega (arith, ints)

pub is_same_where : (x y : ℤ) → x ≡ y → is_same x y ≡ true
is_same_where x y e = true_both (int_le x y) (int_le y x) (sym (omega (arith, ints))) (sym (omega (arith, ints)))

-- ---- one value

-- the first of these numbers; 0 of none
pub first : List ℤ → ℤ
first [] = pos 0
first (x ∷ xs) = x

pub only_first : (xs : List ℤ) → is_single xs ≡ true → IsOnly (first xs) xs
unfolding first
only_first [] e = absurd (false≢true e)
only_first (x ∷ xs) e =
    (inl refl, (refl, Each-from_among (λ w. w ≡ x) xs (λ w here. same_where w x (list_all-at (λ y. is_same y x) xs w e here))))

single_where : (v : ℤ) (xs : List ℤ) → IsOnly v xs → is_single xs ≡ true
single_where v [] only = absurd only.0
single_where v (x ∷ xs) only =
    list_all-from (λ y. is_same y x) xs (λ w here. is_same_where w x (Each-among (λ y. y ≡ v) xs only.1.1 w here ∙ sym only.1.0))

-- where each variable of the terms has one value, the sum of the least values is the sum of these
least_sum-only : (ts : List (ℤ × ℕ)) (d : Domains) (s : ℕ → ℤ) → ((x : ℕ) → Among x (variables ts) → IsOnly (s x) (values d x)) → least_sum d ts ≡ sum_at s ts
least_sum-only ts d s only = total-same (least_product d) (product s) ts (λ t here.
    let o = only t.1 (variable_of ts t here) in
    let r = least_image-among (λ v. t.0 *ℤ v) (values d t.1) (s t.1) o.0 in
    r.2 ∙ ap (λ v. t.0 *ℤ v) (Each-among (λ w. w ≡ s t.1) (values d t.1) o.1 r.0 r.1))

are_single_where : (ts : List (ℤ × ℕ)) (d : Domains) (s : ℕ → ℤ) → ((x : ℕ) → Among x (variables ts) → IsOnly (s x) (values d x)) → are_single d ts ≡ true
are_single_where ts d s only =
    list_all-from (λ t. is_single (values d t.1)) ts (λ t here. single_where (s t.1) (values d t.1) (only t.1 (variable_of ts t here)))

only_where : (ts : List (ℤ × ℕ)) (d : Domains) → are_single d ts ≡ true → (x : ℕ) → Among x (variables ts) → IsOnly (first (values d x)) (values d x)
only_where ts d e x here =
    let r = Among-map_only (λ t. t.1) ts x here in
    subst (λ y. IsOnly (first (values d y)) (values d y)) (sym r.2) (only_first (values d r.0.1) (list_all-at (λ t. is_single (values d t.1)) ts r.0 e r.1))

list_all-same : {A : Type 0} (p q : A → Bool) (xs : List A) → ((x : A) → Among x xs → p x ≡ q x) → list_all p xs ≡ list_all q xs
list_all-same p q [] each = refl
list_all-same p q (x ∷ xs) each = ap (λ b. b && list_all p xs) (each x (inl refl)) ∙ ap (λ b. q x && b) (list_all-same p q xs (λ y here. each y (inr here)))

pub are_single-local : (ts : List (ℤ × ℕ)) (d e : Domains) → AgreesOn (variables ts) d e → are_single d ts ≡ are_single e ts
are_single-local ts d e agrees =
    list_all-same (λ t. is_single (values d t.1)) (λ t. is_single (values e t.1)) ts (λ t here. ap is_single (agrees t.1 (variable_of ts t here)))

-- ---- the laws

clashes_where : (q : Linear) (d : Domains) → test_differs q d ≡ true → ClashesDiffers q d
clashes_where q d e = elim (test_cases (is_dead d) (in_force d q.condition) (are_single d q.terms && is_same (least_sum d q.terms) q.rhs) e) [
  | inl dead ↦ inl dead
  | inr both ↦
      let parts = both_true (are_single d q.terms) (is_same (least_sum d q.terms) q.rhs) both.1 in
      let only = only_where q.terms d parts.0 in
      inr (both.0, (λ x. first (values d x), record { only = only; sum = sym (least_sum-only q.terms d (λ x. first (values d x)) only) ∙ same_where (least_sum d q.terms) q.rhs parts.1 }))
]

true_where : (q : Linear) (d : Domains) → ClashesDiffers q d → test_differs q d ≡ true
true_where q d clashes = elim clashes [
  | inl dead ↦ test_dead (is_dead d) (in_force d q.condition && (are_single d q.terms && is_same (least_sum d q.terms) q.rhs)) dead
  | inr both ↦
      let s = both.1.0 in
      let fixed = both.1.1 in
      test_over (is_dead d) (in_force d q.condition) (are_single d q.terms && is_same (least_sum d q.terms) q.rhs) both.0
      (true_both (are_single d q.terms) (is_same (least_sum d q.terms) q.rhs) (are_single_where q.terms d s fixed.only)
      (is_same_where (least_sum d q.terms) q.rhs (least_sum-only q.terms d s fixed.only ∙ fixed.sum)))
]

-- the test is true exactly where it clashes
pub differs_exact : (q : Linear) (d : Domains) → (face_differs q).test d ≡ true ↔ ClashesDiffers q d
differs_exact q d = (clashes_where q d, true_where q d)

covered : (q : Linear) (d : Domains) → Covers (scope_of q) d → (x : ℕ) → Among x (variables q.terms) → x < length d
covered q d covers x here = Each-among (λ y. y < length d) (scope_of q) covers x (variable_in_scope q x here)

only-within : (v : ℤ) (xs ys : List ℤ) → IsOnly v xs → ((w : ℤ) → Among w ys → Among w xs) → (w : ℤ) → Among w ys → IsOnly v ys
only-within v xs ys only within w here =
    (subst (λ z. Among z ys) (Each-among (λ z. z ≡ v) xs only.1 w (within w here)) here, Each-from_among (λ z. z ≡ v) ys (λ z there. Each-among (λ u. u ≡ v) xs only.1 z (within z there)))

fixed-within : (q : Linear) (d e : Domains) (s : ℕ → ℤ) → Covers (scope_of q) d → IsWithin e d → is_dead e ≡ false → IsFixedAt q d s → IsFixedAt q e s
fixed-within q d e s covers within alive fixed = record {
  only = λ x here.
      let m = alive-value e x alive (subst (λ n. x < n) (sym within.count) (covered q d covers x here)) in
      only-within (s x) (values d x) (values e x) (fixed.only x here) (λ w there. within.each x w there) m.0 m.1;
  sum = fixed.sum;
}

monotone : (q : Linear) (d e : Domains) → Covers (scope_of q) d → IsWithin e d → ClashesDiffers q d → (b : Bool) → is_dead e ≡ b → ClashesDiffers q e
monotone q d e covers within clashes true dead = inl dead
monotone q d e covers within (inl gone) false alive = absurd (both_ways (is_dead e) alive (dead-within d e within gone))
monotone q d e covers within (inr both) false alive =
    inr (in_force-within q.condition d e within both.0, (both.1.0, fixed-within q d e both.1.0 covers within alive both.1.1))

same_test : (a b f g k l : Bool) (r x y : ℤ) → a ≡ b → f ≡ g → k ≡ l → x ≡ y → (a || (f && (k && is_same x r))) ≡ (b || (g && (l && is_same y r)))
same_test a b f g k l r x y p q w e = cc

pub differs_lawful : (q : Linear) → IsLawful (face_differs q)
differs_lawful q = record {
  ordered = climbs_in_order (with_condition q.condition (variables q.terms));
  dead = λ d gone. true_where q d (inl gone);
  monotone = λ d e covers within h. true_where q e (monotone q d e covers within (clashes_where q d h) (is_dead e) refl);
  local = λ d e p r agrees.
      let near : AgreesOn (variables q.terms) d e = λ x here. agrees x (variable_in_scope q x here) in
      same_test (is_dead d) (is_dead e) (in_force d q.condition) (in_force e q.condition) (are_single d q.terms) (are_single e q.terms) q.rhs (least_sum d q.terms) (least_sum e q.terms)
      (p ∙ sym r) (in_force-local q.condition (variables q.terms) d e agrees) (are_single-local q.terms d e near) (least_sum-local q.terms d e near);
}

-- assignments that give each variable of the terms the same value have the same sum
sum_at-same : (ts : List (ℤ × ℕ)) (s t : ℕ → ℤ) → ((x : ℕ) → Among x (variables ts) → s x ≡ t x) → sum_at s ts ≡ sum_at t ts
sum_at-same ts s t each = total-same (product s) (product t) ts (λ u here. ap (λ v. u.0 *ℤ v) (each u.1 (variable_of ts u here)))

-- an assignment within a state at which the variables have one value each has that sum
sum_at-fixed : (q : Linear) (d : Domains) (s t : ℕ → ℤ) → IsFixedAt q d t → ((x : ℕ) → Among x (variables q.terms) → Among (s x) (values d x)) → sum_at s q.terms ≡ q.rhs
sum_at-fixed q d s t fixed within =
    sum_at-same q.terms s t (λ x here. Each-among (λ w. w ≡ t x) (values d x) (fixed.only x here).1 (s x) (within x here)) ∙ fixed.sum

no_clash : (q : Linear) (d : Domains) (s : ℕ → ℤ) → Covers (scope_of q) d → LiesIn s d → MeetsDiffers q s → ClashesDiffers q d → ⊥
no_clash q d s covers lies meets (inl dead) = both_ways (is_dead d) (LiesIn-alive d s lies) dead
no_clash q d s covers lies (inl fails) (inr both) = in_force-sound q.condition (variables q.terms) d s covers lies both.0 fails
no_clash q d s covers lies (inr other) (inr both) = other (sum_at-fixed q d s both.1.0 both.1.1 (λ x here. lies x (covered q d covers x here)))

pub differs_sound : (q : Linear) (d : Domains) (s : ℕ → ℤ) → Covers (face_differs q).scope d → LiesIn s d → MeetsDiffers q s → (face_differs q).test d ≡ false
differs_sound q d s covers lies meets =
    false_from_ne_true (test_differs q d) (λ e. no_clash q d s covers lies meets (clashes_where q d e))

fixed_among : (s : ℕ → ℤ) (d : Domains) (x : ℕ) → values d x ≡ s x ∷ [] → IsOnly (s x) (values d x)
fixed_among s d x e = subst (λ xs. IsOnly (s x) xs) (sym e) (inl refl, (refl, tt))

not_met : (q : Linear) (d : Domains) (s : ℕ → ℤ) → is_dead d ≡ false → Fixes (scope_of q) s d → ClashesDiffers q d → MeetsDiffers q s → ⊥
not_met q d s alive fixes (inl dead) meets = both_ways (is_dead d) alive dead
not_met q d s alive fixes (inr both) (inl fails) = in_force-fixed q.condition (variables q.terms) d s fixes both.0 fails
not_met q d s alive fixes (inr both) (inr other) =
    other (sum_at-fixed q d s both.1.0 both.1.1 (λ x here. (fixed_among s d x (fixes x (variable_in_scope q x here))).0))

same_or_not : (x y : ℤ) (b : Bool) → is_same x y ≡ b → ((¬ (x ≡ y)) → ⊥) → x ≡ y
same_or_not x y true e h = same_where x y e
same_or_not x y false e h = absurd (h (λ k. both_ways (is_same x y) e (is_same_where x y k)))

clash_where_not_met : (q : Linear) (d : Domains) (s : ℕ → ℤ) → Fixes (scope_of q) s d → (MeetsDiffers q s → ⊥) → ClashesDiffers q d
clash_where_not_met q d s fixes fails =
    inr (
      in_force-from_fixed q.condition (variables q.terms) d s fixes (λ f. fails (inl f)),
      (
        s,
        record {
          only = λ x here. fixed_among s d x (fixes x (variable_in_scope q x here));
          sum = same_or_not (sum_at s q.terms) q.rhs (is_same (sum_at s q.terms) q.rhs) refl (λ other. fails (inr other));
        },
      ),
    )

pub differs_deciding : (q : Linear) (d : Domains) (s : ℕ → ℤ) → is_dead d ≡ false → Fixes (face_differs q).scope s d → ((face_differs q).test d ≡ true) ↔ (MeetsDiffers q s → ⊥)
differs_deciding q d s alive fixes =
    (λ e. not_met q d s alive fixes (clashes_where q d e), λ fails. true_where q d (clash_where_not_met q d s fixes fails))

-- the values that it may take out are those of the variables of its scope
pub differs_points : (q : Linear) (x : ℕ) (v : ℤ) → (face_differs q).point x v ≡ true ↔ Among x (scope_of q)
differs_points q x v = (
  λ e. let r = list_any-some (λ y. x == y) (scope_of q) e in subst (λ y. Among y (scope_of q)) (sym ((Decides-eqb x r.0).0 r.2)) r.1,
  λ here. list_any-at (λ y. x == y) (scope_of q) x here ((Decides-eqb x x).1 refl),
)
