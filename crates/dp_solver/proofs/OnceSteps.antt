-- Atoms each of which stands once: one more, one less.
use Rattle.std.proofs.Common.{◌≡◌, ℕ, zero, suc, ◌<◌, true, not, List, [], ◌∷◌, ◌++◌, length, refl, sym, ◌∙◌, ap, subst, inl, inr, arith}
use Rattle.std.specs.List.{remove}
use Rattle.std.specs.Prelude.{filter}
use Rattle.std.proofs.lemmas.Bool.{cases_Bool}
use Rattle.dp_base.specs.Lists.{Among}
use Rattle.dp_base.proofs.Lists.{Among-append_cases, filter-whole, list_all-from}
use Rattle.dp_domain.specs.Atoms.{Atomic}
use Rattle.dp_rule_clause.specs.Nogoods.{IsOnce, each_once, same_atom}
use Rattle.dp_rule_clause.proofs.AtomSteps.{same_where}

-- an atom that is none of them may stand behind them
pub once-push : (xs : List Atomic) (a : Atomic) → IsOnce xs → ¬ (Among a xs) → IsOnce (xs ++ a ∷ [])
once-push [] a once absent = (λ h. h, tt)
once-push (x ∷ xs) a once absent = (
  λ h. elim (Among-append_cases x xs (a ∷ []) h) [
    | inl g ↦ once.0 g
    | inr g ↦ elim g [ inl e ↦ absent (inl (sym e)) | inr n ↦ n ]
  ],
  once-push xs a once.1 (λ h. absent (inr h)),
)

-- an item of those that are left is one of them
pub among-remove : {A : Type 0} (xs : List A) (i : ℕ) (a : A) → Among a (remove xs i) → Among a xs
among-remove [] zero a h = h
among-remove [] (suc i) a h = h
among-remove (x ∷ xs) zero a h = inr h
among-remove (x ∷ xs) (suc i) a (inl e) = inl e
among-remove (x ∷ xs) (suc i) a (inr h) = inr (among-remove xs i a h)

-- each of those that are left stands once
pub once-remove : (xs : List Atomic) (i : ℕ) → IsOnce xs → IsOnce (remove xs i)
once-remove [] zero once = tt
once-remove [] (suc i) once = tt
once-remove (x ∷ xs) zero once = once.1
once-remove (x ∷ xs) (suc i) once = (λ h. once.0 (among-remove xs i x h), once-remove xs i once.1)

-- one that is not the last leaves the last where it is
pub remove-front : {A : Type 0} (xs : List A) (i : ℕ) (a : A) → i < length xs → remove (xs ++ a ∷ []) i ≡ remove xs i ++ a ∷ []
remove-front [] i a h = absurd (omega arith)
remove-front (x ∷ xs) zero a h = refl
remove-front (x ∷ xs) (suc i) a h = ap (λ ys. x ∷ ys) (remove-front xs i a (omega arith))

apart : (a b : Atomic) (xs : List Atomic) → ¬ (Among a xs) → Among b xs → not (same_atom a b) ≡ true
apart a b xs absent h = elim (cases_Bool (same_atom a b)) [
  | inl t ↦ absurd (absent (subst (λ c. Among c xs) (sym (same_where a b t)) h))
  | inr f ↦ ap not f
]

-- atoms that stand once are kept as they are
pub once-whole : (xs : List Atomic) → IsOnce xs → each_once xs ≡ xs
once-whole [] once = refl
once-whole (x ∷ xs) once =
    ap (λ ys. x ∷ filter (λ b. not (same_atom x b)) ys) (once-whole xs once.1)
    ∙ ap (λ ys. x ∷ ys) (filter-whole (λ b. not (same_atom x b)) xs (list_all-from (λ b. not (same_atom x b)) xs (λ b h. apart x b xs once.0 h)))

-- so they make a nogood of just these atoms
pub kept-once : (atoms given nogood : List Atomic) → IsOnce atoms → given ≡ atoms → nogood ≡ each_once given → nogood ≡ atoms
kept-once atoms given nogood once same is = is ∙ ap each_once same ∙ once-whole atoms once
