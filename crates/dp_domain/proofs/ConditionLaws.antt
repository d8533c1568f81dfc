-- Laws of conditions at states and assignments.
use Rattle.std.specs.Prelude.{◌≡◌, ℕ, ◌<◌, Bool, true, false, ◌&&◌, ◌||◌, ◌⊎◌, Option, Some, None, List, [], ◌∷◌, length, ℤ}
use Rattle.std.specs.List.{list_all}
use Rattle.std.proofs.Common.{refl, sym, ◌∙◌, ap, inl, inr}
use Rattle.std.proofs.lemmas.Bool.{false≢true, both_ways, true_from_ne_false}
use Rattle.dp_base.specs.Lists.{Among}
use Rattle.dp_base.specs.Scopes.{in_order}
use Rattle.dp_base.proofs.Lists.{Each-among}
use Rattle.dp_base.proofs.ScopeLaws.{among_in_order}
use Rattle.dp_domain.specs.Atoms.{Atomic, meets}
use Rattle.dp_domain.specs.Conditions.{Fails, in_force, with_condition}
use Rattle.dp_domain.specs.Faces.{AgreesOn, Covers, Fixes}
use Rattle.dp_domain.specs.States.{Domains, LiesIn, IsWithin, entails, values}
use Rattle.dp_domain.proofs.StateLaws.{LiesIn-entails, entails-within}

-- ---- tests

-- what makes the test true
pub test_cases : (dead force over : Bool) → (dead || (force && over)) ≡ true → (dead ≡ true) ⊎ ((force ≡ true) × (over ≡ true))
test_cases true force over e = inl refl
test_cases false true true e = inr (refl, refl)
test_cases false true false e = absurd (false≢true e)
test_cases false false over e = absurd (false≢true e)

pub test_dead : (dead rest : Bool) → dead ≡ true → (dead || rest) ≡ true
test_dead true rest e = refl
test_dead false rest e = absurd (false≢true e)

pub test_over : (dead force over : Bool) → force ≡ true → over ≡ true → (dead || (force && over)) ≡ true
test_over true force over e f = refl
test_over false true true e f = refl
test_over false true false e f = absurd (false≢true f)
test_over false false over e f = absurd (false≢true e)

-- ---- scopes

pub among_with_condition : (c : Option Atomic) (xs : List ℕ) (x : ℕ) → Among x xs → Among x (with_condition c xs)
among_with_condition None xs x here = here
among_with_condition (Some a) xs x here = inr here

pub condition_in_scope : (a : Atomic) (xs : List ℕ) → Among a.var (in_order (with_condition (Some a) xs))
condition_in_scope a xs = among_in_order a.var (a.var ∷ xs) (inl refl)

-- ---- conditions

-- a condition in force stays so at smaller states
pub in_force-within : (c : Option Atomic) (d e : Domains) → IsWithin e d → in_force d c ≡ true → in_force e c ≡ true
in_force-within None d e within h = refl
in_force-within (Some a) d e within h = entails-within d e a within h

-- whether it is in force depends on the scope's sets alone
pub in_force-local : (c : Option Atomic) (xs : List ℕ) (d e : Domains) → AgreesOn (in_order (with_condition c xs)) d e → in_force d c ≡ in_force e c
in_force-local None xs d e agrees = refl
in_force-local (Some a) xs d e agrees = ap (list_all (meets a)) (agrees a.var (condition_in_scope a xs))

-- an assignment within the state fails no condition that is in force
pub in_force-sound : (c : Option Atomic) (xs : List ℕ) (d : Domains) (s : ℕ → ℤ) → Covers (in_order (with_condition c xs)) d → LiesIn s d → in_force d c ≡ true → Fails s c → ⊥
in_force-sound None xs d s covers lies h fails = fails
in_force-sound (Some a) xs d s covers lies h fails =
    both_ways (meets a (s a.var)) fails (LiesIn-entails d s a (Each-among (λ x. x < length d) (in_order (with_condition (Some a) xs)) covers a.var (condition_in_scope a xs)) lies h)

and_true : (b : Bool) → b ≡ true → (b && true) ≡ true
and_true true e = refl
and_true false e = absurd (false≢true e)

true_of_and : (b : Bool) → (b && true) ≡ true → b ≡ true
true_of_and true e = refl
true_of_and false e = absurd (false≢true e)

entails_fixed : (a : Atomic) (d : Domains) (s : ℕ → ℤ) → values d a.var ≡ s a.var ∷ [] → entails d a ≡ (meets a (s a.var) && true)
entails_fixed a d s e = ap (list_all (meets a)) e

-- where its variable has one value, a condition in force does not fail at it
pub in_force-fixed : (c : Option Atomic) (xs : List ℕ) (d : Domains) (s : ℕ → ℤ) → Fixes (in_order (with_condition c xs)) s d → in_force d c ≡ true → Fails s c → ⊥
in_force-fixed None xs d s fixes h fails = fails
in_force-fixed (Some a) xs d s fixes h fails =
    both_ways (meets a (s a.var)) fails (true_of_and (meets a (s a.var)) (sym (entails_fixed a d s (fixes a.var (condition_in_scope a xs))) ∙ h))

-- and one that does not fail at it is in force
pub in_force-from_fixed : (c : Option Atomic) (xs : List ℕ) (d : Domains) (s : ℕ → ℤ) → Fixes (in_order (with_condition c xs)) s d → (Fails s c → ⊥) → in_force d c ≡ true
in_force-from_fixed None xs d s fixes h = refl
in_force-from_fixed (Some a) xs d s fixes h =
    entails_fixed a d s (fixes a.var (condition_in_scope a xs)) ∙ and_true (meets a (s a.var)) (true_from_ne_false (meets a (s a.var)) h)
