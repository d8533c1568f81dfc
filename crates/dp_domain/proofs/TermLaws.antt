-- Laws of terms at states and assignments.
use Rattle.std.specs.Prelude.{◌≡◌, ℕ, ◌<◌, List, [], ◌∷◌, length, ℤ}
use Rattle.std.proofs.Common.{refl, inl, inr}
use Rattle.dp_base.specs.Lists.{Among}
use Rattle.dp_base.proofs.Lists.{Each-among}
use Rattle.dp_base.proofs.ScopeLaws.{among_in_order}
use Rattle.dp_domain.specs.Faces.{AgreesOn, Covers, Fixes}
use Rattle.dp_domain.specs.States.{Domains, LiesIn, IsWithin}
use Rattle.dp_domain.specs.Terms.{IsTermOf, AreTermsOf, term_at, term_scope, term_values, term_variables}
use Rattle.dp_domain.specs.declared.term.Term.{Term}
use Rattle.dp_domain.specs.declared.term.Term.TheVariants.{Var, Const}

-- the term's variable, if it is one, is of the scope
abbrev pub IsInScope : List ℕ → Term → Type 0
IsInScope scope (Var x) = Among x scope
IsInScope scope (Const v) = Unit {0}

variable_among : (terms : List Term) (x : ℕ) → Among (Var x) terms → Among x (term_variables terms)
variable_among [] x here = here
variable_among (Var y ∷ terms) x (inl e) = inl (same_var x y e)
  where
    same_var : (x y : ℕ) → Var x ≡ Var y → x ≡ y
    same_var x y e = cc
variable_among (Var y ∷ terms) x (inr here) = inr (variable_among terms x here)
variable_among (Const v ∷ terms) x (inl e) = absurd (apart x v e)
  where
    apart : (x : ℕ) (v : ℤ) → Var x ≡ Const v → ⊥
    apart x v e = cc
variable_among (Const v ∷ terms) x (inr here) = variable_among terms x here

-- each of the terms is in their scope
pub term_in_scope : (terms : List Term) (t : Term) → Among t terms → IsInScope (term_scope terms) t
term_in_scope terms (Var x) here = among_in_order x (term_variables terms) (variable_among terms x here)
term_in_scope terms (Const v) here = tt

-- a term of a covered scope is of the state
pub term_covered : (scope : List ℕ) (d : Domains) (t : Term) → Covers scope d → IsInScope scope t → IsTermOf (length d) t
term_covered scope d (Var x) covers here = Each-among (λ y. y < length d) scope covers x here
term_covered scope d (Const v) covers here = tt

terms_covered_by : (scope : List ℕ) (d : Domains) (terms : List Term) → Covers scope d → ((t : Term) → Among t terms → IsInScope scope t) → AreTermsOf (length d) terms
terms_covered_by scope d [] covers each = tt
terms_covered_by scope d (t ∷ terms) covers each =
    (term_covered scope d t covers (each t (inl refl)), terms_covered_by scope d terms covers (λ u here. each u (inr here)))

-- so each of terms whose scope is covered
pub terms_covered : (d : Domains) (terms : List Term) → Covers (term_scope terms) d → AreTermsOf (length d) terms
terms_covered d terms covers = terms_covered_by (term_scope terms) d terms covers (term_in_scope terms)

-- at a smaller state a term has no other values
pub term_values-within : (d e : Domains) (t : Term) → IsWithin e d → (v : ℤ) → Among v (term_values e t) → Among v (term_values d t)
term_values-within d e (Var x) within v here = within.each x v here
term_values-within d e (Const w) within v here = here

-- states that agree on the scope give a term of it the same values
pub term_values-local : (scope : List ℕ) (d e : Domains) (t : Term) → AgreesOn scope d e → IsInScope scope t → term_values d t ≡ term_values e t
term_values-local scope d e (Var x) agrees here = agrees x here
term_values-local scope d e (Const v) agrees here = refl

-- an assignment within the state gives a term one of its values
pub term_values-sound : (d : Domains) (s : ℕ → ℤ) (t : Term) → LiesIn s d → IsTermOf (length d) t → Among (term_at s t) (term_values d t)
term_values-sound d s (Var x) lies covered = lies x covered
term_values-sound d s (Const v) lies covered = inl refl

-- where each variable of the scope has one value, a term of it has its value at that assignment alone
pub term_values-fixed : (scope : List ℕ) (s : ℕ → ℤ) (d : Domains) (t : Term) → Fixes scope s d → IsInScope scope t → term_values d t ≡ term_at s t ∷ []
term_values-fixed scope s d (Var x) fixes here = fixes x here
term_values-fixed scope s d (Const v) fixes here = refl
