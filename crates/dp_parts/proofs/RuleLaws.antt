-- Laws of the rules by which steps hold: the state with one value of a variable, and what a hint leaves.
use Rattle.std.proofs.Common.{◌≡◌, ℕ, zero, suc, ◌+◌, Bool, true, List, [], ◌∷◌, length, ℤ, add-one, refl, sym, ◌∙◌, ap, subst}
use Rattle.std.specs.List.{filter, list_all}
use Rattle.dp_base.specs.Lists.{Among}
use Rattle.dp_domain.specs.Atoms.{Atomic, meets}
use Rattle.dp_domain.specs.States.{Domains, values, cut, entails}
use Rattle.dp_domain.proofs.AtomLaws.{meets-eq}
use Rattle.dp_domain.proofs.StateLaws.{Among-cut_all, Among-cut_meets, values-cut_other, entails-at, entails-from}
use Rattle.dp_parts.specs.Rules.{«is», keep_where}

-- ---- the values that may be kept

-- a state keeps its variables
pub length-keep_where : (keep : ℕ → ℤ → Bool) (d : Domains) → length (keep_where keep d) ≡ length d
length-keep_where keep [] = refl
length-keep_where keep (xs ∷ d) = ap suc (length-keep_where (λ x. keep (x + 1)) d)

-- each variable keeps the values that may be kept
pub values-keep_where : (keep : ℕ → ℤ → Bool) (d : Domains) (x : ℕ) → values (keep_where keep d) x ≡ filter (keep x) (values d x)
values-keep_where keep [] x = refl
values-keep_where keep (xs ∷ d) zero = refl
values-keep_where keep (xs ∷ d) (suc x) = values-keep_where (λ y. keep (y + 1)) d x ∙ ap (λ (y : ℕ). filter (keep y) (values d x)) (add-one x)

-- ---- the state with one value of a variable

-- it entails an atom on another variable where the state does
pub entails-is_other : (d : Domains) (x : ℕ) (v : ℤ) (a : Atomic) → (a.var ≡ x → ⊥) → entails (cut d («is» x v)) a ≡ entails d a
entails-is_other d x v a apart = ap (λ (vs : List ℤ). list_all (meets a) vs) (values-cut_other d («is» x v) a.var apart)

-- a value of the variable meets each atom on it that is entailed so
pub one_meets : (d : Domains) (x : ℕ) (v : ℤ) (a : Atomic) → Among v (values d x) → a.var ≡ x → entails (cut d («is» x v)) a ≡ true → meets a v ≡ true
one_meets d x v a here on e =
    entails-at (cut d («is» x v)) a v e (subst (λ (y : ℕ). Among v (values (cut d («is» x v)) y)) (sym on) (Among-cut_all d («is» x v) x v here (λ k. (meets-eq x v v).1 refl)))

-- and entails each atom on it that the value meets
pub meets_one : (d : Domains) (x : ℕ) (v : ℤ) (a : Atomic) → a.var ≡ x → meets a v ≡ true → entails (cut d («is» x v)) a ≡ true
meets_one d x v a on m =
    entails-from (cut d («is» x v)) a (λ w h.
    let same : w ≡ v = (meets-eq x v w).0 (Among-cut_meets d («is» x v) w (subst (λ (y : ℕ). Among w (values (cut d («is» x v)) y)) on h)) in
    subst (λ (u : ℤ). meets a u ≡ true) (sym same) m)
