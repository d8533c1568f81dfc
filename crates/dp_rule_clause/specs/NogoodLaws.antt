-- The laws of a nogood.
use Rattle.std.specs.Prelude.{◌≡◌, ℕ, ◌<◌, Bool, true, false, ◌&&◌, ◌||◌, ◌↔◌, List, [], ◌∷◌, length, ℤ}
use Rattle.std.specs.List.{list_all}
use Rattle.std.proofs.Common.{refl, sym, ◌∙◌, ap, subst, inl, inr}
use Rattle.std.proofs.lemmas.Bool.{both_ways, false_from_ne_true, true_from_ne_false, or_cases, or_left, or_right}
use Rattle.dp_base.specs.Lists.{Among}
use Rattle.dp_base.proofs.Lists.{Each-among, list_all-at, list_all-from}
use Rattle.dp_base.proofs.ScopeLaws.{among_in_order, climbs_in_order}
use Rattle.dp_domain.specs.Atoms.{Atomic, meets}
use Rattle.dp_domain.specs.Faces.{AgreesOn, Covers, Fixes, IsLawful}
use Rattle.dp_domain.specs.States.{Domains, LiesIn, IsWithin, entails, entails_all, is_dead}
use Rattle.dp_domain.proofs.StateLaws.{LiesIn-alive, LiesIn-entails, dead-within, entails-at, entails-from, entails_all-within}
use Rattle.dp_rule_clause.specs.Nogoods.{ClashesNogood, MeetsNogood, face_nogood, scope_of, test_nogood, variables}

-- ---- scopes

variable_of : (atoms : List Atomic) (a : Atomic) → Among a atoms → Among a.var (variables atoms)
variable_of [] a here = here
variable_of (b ∷ atoms) a (inl e) = inl (ap (λ (c : Atomic). c.var) e)
variable_of (b ∷ atoms) a (inr here) = inr (variable_of atoms a here)

-- the variables of the atoms are of the scope
pub atom_in_scope : (atoms : List Atomic) (a : Atomic) → Among a atoms → Among a.var (scope_of atoms)
atom_in_scope atoms a here = among_in_order a.var (variables atoms) (variable_of atoms a here)

-- ---- the laws

clashes_where : (atoms : List Atomic) (d : Domains) → test_nogood atoms d ≡ true → ClashesNogood atoms d
clashes_where atoms d e = elim (or_cases (is_dead d) (entails_all d atoms) e) [
  | inl dead ↦ inl dead
  | inr all ↦ inr (λ a here. list_all-at (entails d) atoms a all here)
]

true_where : (atoms : List Atomic) (d : Domains) → ClashesNogood atoms d → test_nogood atoms d ≡ true
true_where atoms d (inl dead) = or_left (is_dead d) (entails_all d atoms) dead
true_where atoms d (inr all) = or_right (is_dead d) (entails_all d atoms) (list_all-from (entails d) atoms all)

-- the test is true exactly where it clashes
pub nogood_exact : (atoms : List Atomic) (d : Domains) → (face_nogood atoms).test d ≡ true ↔ ClashesNogood atoms d
nogood_exact atoms d = (clashes_where atoms d, true_where atoms d)

monotone : (atoms : List Atomic) (d e : Domains) → IsWithin e d → test_nogood atoms d ≡ true → test_nogood atoms e ≡ true
monotone atoms d e within h = elim (or_cases (is_dead d) (entails_all d atoms) h) [
  | inl dead ↦ or_left (is_dead e) (entails_all e atoms) (dead-within d e within dead)
  | inr all ↦ or_right (is_dead e) (entails_all e atoms) (entails_all-within d e atoms within all)
]

list_all-same : {A : Type 0} (p q : A → Bool) (xs : List A) → ((x : A) → Among x xs → p x ≡ q x) → list_all p xs ≡ list_all q xs
list_all-same p q [] each = refl
list_all-same p q (x ∷ xs) each = ap (λ b. b && list_all p xs) (each x (inl refl)) ∙ ap (λ b. q x && b) (list_all-same p q xs (λ y here. each y (inr here)))

entails_all-local : (atoms : List Atomic) (d e : Domains) → AgreesOn (scope_of atoms) d e → entails_all d atoms ≡ entails_all e atoms
entails_all-local atoms d e agrees =
    list_all-same (entails d) (entails e) atoms (λ a here. ap (list_all (meets a)) (agrees a.var (atom_in_scope atoms a here)))

same_test : (a b f g : Bool) → a ≡ b → f ≡ g → (a || f) ≡ (b || g)
same_test a b f g p q = cc

pub nogood_lawful : (atoms : List Atomic) → IsLawful (face_nogood atoms)
nogood_lawful atoms = record {
  ordered = climbs_in_order (variables atoms);
  dead = λ d gone. true_where atoms d (inl gone);
  monotone = λ d e covers within h. monotone atoms d e within h;
  local = λ d e p r agrees. same_test (is_dead d) (is_dead e) (entails_all d atoms) (entails_all e atoms) (p ∙ sym r) (entails_all-local atoms d e agrees);
}

covered : (atoms : List Atomic) (d : Domains) → Covers (scope_of atoms) d → (a : Atomic) → Among a atoms → a.var < length d
covered atoms d covers a here = Each-among (λ x. x < length d) (scope_of atoms) covers a.var (atom_in_scope atoms a here)

no_clash : (atoms : List Atomic) (d : Domains) (s : ℕ → ℤ) → Covers (scope_of atoms) d → LiesIn s d → MeetsNogood atoms s → ClashesNogood atoms d → ⊥
no_clash atoms d s covers lies met (inl dead) = both_ways (is_dead d) (LiesIn-alive d s lies) dead
no_clash atoms d s covers lies met (inr all) =
    both_ways (meets met.0 (s met.0.var)) met.2 (LiesIn-entails d s met.0 (covered atoms d covers met.0 met.1) lies (all met.0 met.1))

pub nogood_sound : (atoms : List Atomic) (d : Domains) (s : ℕ → ℤ) → Covers (face_nogood atoms).scope d → LiesIn s d → MeetsNogood atoms s → (face_nogood atoms).test d ≡ false
nogood_sound atoms d s covers lies met =
    false_from_ne_true (test_nogood atoms d) (λ e. no_clash atoms d s covers lies met (clashes_where atoms d e))

not_met : (atoms : List Atomic) (d : Domains) (s : ℕ → ℤ) → is_dead d ≡ false → Fixes (scope_of atoms) s d → ClashesNogood atoms d → MeetsNogood atoms s → ⊥
not_met atoms d s alive fixes (inl dead) met = both_ways (is_dead d) alive dead
not_met atoms d s alive fixes (inr all) met =
    let only = fixes met.0.var (atom_in_scope atoms met.0 met.1) in
    both_ways (meets met.0 (s met.0.var)) met.2 (entails-at d met.0 (s met.0.var) (all met.0 met.1) (subst (λ vs. Among (s met.0.var) vs) (sym only) (inl refl)))

met_at : (a : Atomic) (v w : ℤ) → Among v (w ∷ []) → meets a w ≡ true → meets a v ≡ true
met_at a v w (inl e) h = subst (λ u. meets a u ≡ true) (sym e) h
met_at a v w (inr none) h = absurd none

clash_where_not_met : (atoms : List Atomic) (d : Domains) (s : ℕ → ℤ) → Fixes (scope_of atoms) s d → (MeetsNogood atoms s → ⊥) → ClashesNogood atoms d
clash_where_not_met atoms d s fixes fails =
    inr (λ a here. entails-from d a (λ v there.
    met_at a v (s a.var)
    (subst (λ vs. Among v vs) (fixes a.var (atom_in_scope atoms a here)) there)
    (true_from_ne_false (meets a (s a.var)) (λ e. fails (a, here, e)))))

pub nogood_deciding : (atoms : List Atomic) (d : Domains) (s : ℕ → ℤ) → is_dead d ≡ false → Fixes (face_nogood atoms).scope s d → ((face_nogood atoms).test d ≡ true) ↔ (MeetsNogood atoms s → ⊥)
nogood_deciding atoms d s alive fixes =
    (λ e. not_met atoms d s alive fixes (clashes_where atoms d e), λ fails. true_where atoms d (clash_where_not_met atoms d s fixes fails))
