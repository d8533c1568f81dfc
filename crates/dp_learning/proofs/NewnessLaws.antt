-- Where propagation rests, a nogood of which all atoms but those of one sort are entailed denies that sort.
use Rattle.std.proofs.Common.{◌≡◌, ℕ, true, ◌⊎◌, List, None, ℤ, pos, ◌-ℤ◌, ◌+ℤ◌, refl, sym, subst, inl, inr, arith}
use Rattle.std.proofs.lemmas.Int.{ints}
use Rattle.std.proofs.lemmas.Bool.{cases_Bool, or_right}
use Rattle.dp_base.specs.Lists.{Among}
use Rattle.dp_base.proofs.Lists.{list_all-from}
use Rattle.dp_domain.specs.Atoms.{Atomic, negated}
use Rattle.dp_domain.specs.States.{Domains, IsWithin, cut, entails, entails_all, is_dead}
use Rattle.dp_domain.specs.Turns.{IsTurn, at_least, at_most, is_permitted}
use Rattle.dp_domain.specs.declared.atom.Op.{Op}
use Rattle.dp_domain.specs.declared.atom.Op.TheVariants.{Ge, Le, Eq, Ne}
use Rattle.dp_domain.proofs.AtomLaws.{meets-eq, meets-ge, meets-le, meets-ne, negated-negated}
use Rattle.dp_domain.proofs.StateLaws.{Among-cut_meets, IsWithin-cut, IsWithin-trans, entails-at, entails-cut, entails-from, entails-within}
use Rattle.dp_domain.proofs.TurnLaws.{gives-from}
use Rattle.dp_rule_clause.specs.NogoodLaws.{atom_in_scope}
use Rattle.dp_rule_clause.specs.Nogoods.{face_nogood, point_nogood, scope_of, test_nogood}
use Rattle.dp_rule_clause.proofs.AtomSteps.{has-among}
use Rattle.dp_learning.proofs.AlikeLaws.{AreAlike, entails-alike}

-- At a state within the initial domains the nogood gives nothing; u is one of its atoms, and each atom is entailed or of u's sort.
pub record IsLastSort (initial d : Domains) (nogood : List Atomic) (u : Atomic) : Type 0 where
  pub within : IsWithin d initial
  pub quiet : IsTurn (face_nogood nogood) d None
  pub among : Among u nogood
  pub others : (a : Atomic) → Among a nogood → (entails d a ≡ true) ⊎ AreAlike initial u a

-- a permitted atom on the nogood's variables that follows is entailed
entailed_at_rest : (nogood : List Atomic) (d : Domains) (b : Atomic) → IsTurn (face_nogood nogood) d None → Among b.var (scope_of nogood)
    → is_permitted b.op (point_nogood nogood b.var b.value) ≡ true → test_nogood nogood (cut d (negated b)) ≡ true → entails d b ≡ true
entailed_at_rest nogood d b quiet of_scope permitted t = elim (cases_Bool (entails d b)) [
  | inl e ↦ e
  | inr e ↦ absurd (quiet.1 b (record { of_scope = of_scope; permitted = permitted; given = gives-from (face_nogood nogood) d b e t }))
]

-- a smaller state that entails u entails each atom
each_entailed : (initial d e : Domains) (nogood : List Atomic) (u : Atomic) → IsLastSort initial d nogood u → IsWithin e d → entails e u ≡ true → (a : Atomic) → Among a nogood → entails e a ≡ true
each_entailed initial d e nogood u r w t a h = elim (r.others a h) [
  | inl k ↦ entails-within d e a w k
  | inr k ↦ entails-alike initial e u a (IsWithin-trans initial d e w r.within) k t
]

-- so the nogood clashes there
clashes : (initial d e : Domains) (nogood : List Atomic) (u : Atomic) → IsLastSort initial d nogood u → IsWithin e d → entails e u ≡ true → test_nogood nogood e ≡ true
clashes initial d e nogood u r w t =
    or_right (is_dead e) (entails_all e nogood) (list_all-from (entails e) nogood (each_entailed initial d e nogood u r w t))

-- a permitted atom on u's variable is entailed, where u is in force wherever that atom fails
follows : (initial d : Domains) (nogood : List Atomic) (u b : Atomic) → IsLastSort initial d nogood u → b.var ≡ u.var
    → is_permitted b.op (point_nogood nogood b.var b.value) ≡ true → entails (cut d (negated b)) u ≡ true → entails d b ≡ true
follows initial d nogood u b r e permitted t =
    entailed_at_rest nogood d b r.quiet
    (subst (λ x. Among x (scope_of nogood)) (sym e) (atom_in_scope nogood u r.among))
    permitted
    (clashes initial d (cut d (negated b)) nogood u r (IsWithin-cut d (negated b)) t)

-- u is in force where its negation fails
in_force : (d : Domains) (u : Atomic) → entails (cut d (negated (negated u))) u ≡ true
in_force d u = subst (λ b. entails (cut d b) u ≡ true) (sym (negated-negated u)) (entails-cut d u)

-- ---- each comparison

-- the atom of these parts
abbrev atom : ℕ → Op → ℤ → Atomic
atom x o v = record { var = x; op = o; value = v }

-- below v a number is not v
apart_below : (d : Domains) (x : ℕ) (v : ℤ) → entails (cut d (negated (at_least x v))) (atom x Ne v) ≡ true
apart_below d x v = entails-from (cut d (negated (at_least x v))) (atom x Ne v) (λ w h.
    let k = (meets-le x (v -ℤ pos 1) w).0 (Among-cut_meets d (negated (at_least x v)) w h) in
    (meets-ne x v w).1 (λ e. absurd (omega (arith, ints))))

-- above v a number is not v
apart_above : (d : Domains) (x : ℕ) (v : ℤ) → entails (cut d (negated (at_most x v))) (atom x Ne v) ≡ true
apart_above d x v = entails-from (cut d (negated (at_most x v))) (atom x Ne v) (λ w h.
    let k = (meets-ge x (v +ℤ pos 1) w).0 (Among-cut_meets d (negated (at_most x v)) w h) in
    (meets-ne x v w).1 (λ e. absurd (omega (arith, ints))))

-- between both bounds a number is v
fixed_by : (d : Domains) (x : ℕ) (v : ℤ) → entails d (at_least x v) ≡ true → entails d (at_most x v) ≡ true → entails d (atom x Eq v) ≡ true
fixed_by d x v lower upper = entails-from d (atom x Eq v) (λ w h.
    let k = (meets-ge x v w).0 (entails-at d (at_least x v) w lower h) in
    let l = (meets-le x v w).0 (entails-at d (at_most x v) w upper h) in
    (meets-eq x v w).1 (omega (arith, ints)))

denied_by : (initial d : Domains) (nogood : List Atomic) (x : ℕ) (o : Op) (v : ℤ) → IsLastSort initial d nogood (atom x o v) → entails d (negated (atom x o v)) ≡ true
denied_by initial d nogood x Ge v r = follows initial d nogood (atom x Ge v) (negated (atom x Ge v)) r refl refl (in_force d (atom x Ge v))
denied_by initial d nogood x Le v r = follows initial d nogood (atom x Le v) (negated (atom x Le v)) r refl refl (in_force d (atom x Le v))
denied_by initial d nogood x Eq v r =
    follows initial d nogood (atom x Eq v) (negated (atom x Eq v)) r refl (has-among nogood (atom x Eq v) r.among) (in_force d (atom x Eq v))
denied_by initial d nogood x Ne v r = fixed_by d x v
    (follows initial d nogood (atom x Ne v) (at_least x v) r refl refl (apart_below d x v))
    (follows initial d nogood (atom x Ne v) (at_most x v) r refl refl (apart_above d x v))

-- the state denies u
pub denied : (initial d : Domains) (nogood : List Atomic) (u : Atomic) → IsLastSort initial d nogood u → entails d (negated u) ≡ true
denied initial d nogood u r = denied_by initial d nogood u.var u.op u.value r
