-- Sorts of atoms: how many there are, and that a state within the initial domains tells no atom from another of its sort.
use Rattle.std.proofs.Common.{◌≡◌, ℕ, zero, suc, ◌+◌, ◌<◌, Bool, true, ◌&&◌, ◌==◌, List, [], ◌∷◌, ◌++◌, map, length, ℤ, refl, sym, ◌∙◌, ap, subst, inl, inr, arith}
use Rattle.std.proofs.lemmas.Bool.{and_from, and_parts, both_ways, false_from_ne_true}
use Rattle.std.proofs.lemmas.Bool.Decides.{Decides-eqb}
use Rattle.std.proofs.lemmas.List.{length-append, length-map}
use Rattle.std.proofs.lemmas.List.Sums.{sum_by-cons}
use Rattle.dp_base.specs.Lists.{Among}
use Rattle.dp_base.proofs.Lists.{Among-append_left, Among-append_right, Among-filter_all, Among-filter_only}
use Rattle.dp_domain.specs.Atoms.{Atomic, meets, negated}
use Rattle.dp_domain.specs.States.{Domains, IsWithin, entails, values}
use Rattle.dp_domain.proofs.AtomLaws.{meets-from_not, not-from_meets}
use Rattle.dp_domain.proofs.StateLaws.{entails-at, entails-from}
use Rattle.dp_learning.specs.Sorts.{kept_by, kept_lists, same_values, sort_count}
use Rattle.dp_learning.proofs.DifferenceLaws.{same_itself, same_where}
use Rattle.dp_learning.proofs.SortLaws.{kept-counted}

-- ---- sorts

-- a sort of atoms: their variable, and the initial values that they keep
pub record Sort : Type 0 where
  pub var : ℕ
  pub kept : List ℤ

-- the sort with this variable and these values
abbrev sort : ℕ → List ℤ → Sort
sort x vs = record { var = x; kept = vs }

-- the sort of the atom
abbrev pub sort_of : Domains → Atomic → Sort
sort_of initial a = sort a.var (kept_by initial a)

-- whether the atom is of the sort
abbrev pub is_of : Domains → Sort → Atomic → Bool
is_of initial s a = (a.var == s.var) && same_values s.kept (kept_by initial a)

-- an atom is of its sort
pub is_of-itself : (initial : Domains) (a : Atomic) → is_of initial (sort_of initial a) a ≡ true
is_of-itself initial a =
    and_from (a.var == a.var) (same_values (kept_by initial a) (kept_by initial a)) ((Decides-eqb a.var a.var).1 refl) (same_itself (kept_by initial a))

-- the sorts of the atoms on variables from x on
abbrev sorts_from : ℕ → Domains → List Sort
sorts_from x [] = []
sorts_from x (vs ∷ d) = map (sort x) (kept_lists vs) ++ sorts_from (suc x) d

-- the sorts of atoms, variable by variable
abbrev pub sorts : Domains → List Sort
sorts initial = sorts_from 0 initial

sum_step : (k l m n t : ℕ) → k ≡ l + m → l ≡ n → t ≡ n + m → k ≡ t
sum_step k l m n t e f g = omega arith

sorts_from_count : (x : ℕ) (d : Domains) → length (sorts_from x d) ≡ sort_count d
sorts_from_count x [] = refl
sorts_from_count x (vs ∷ d) =
    sum_step (length (sorts_from x (vs ∷ d))) (length (map (sort x) (kept_lists vs))) (sort_count d) (length (kept_lists vs)) (sort_count (vs ∷ d))
    (length-append (map (sort x) (kept_lists vs)) (sorts_from (suc x) d) ∙ ap (λ n. length (map (sort x) (kept_lists vs)) + n) (sorts_from_count (suc x) d))
    (length-map (kept_lists vs) (sort x))
    (sum_by-cons (λ (ws : List ℤ). length (kept_lists ws)) vs d)

-- there are as many as are counted
pub sorts-count : (initial : Domains) → length (sorts initial) ≡ sort_count initial
sorts-count initial = sorts_from_count 0 initial

among_map : {A B : Type 0} (f : A → B) (xs : List A) (x : A) → Among x xs → Among (f x) (map f xs)
among_map f [] x h = absurd h
among_map f (y ∷ xs) x (inl e) = inl (ap f e)
among_map f (y ∷ xs) x (inr h) = inr (among_map f xs x h)

-- the variable at a place from x on: at the next one, and at the first
next : (x k : ℕ) → suc x + k ≡ x + suc k
next x k = omega arith

first : (x : ℕ) → x ≡ x + zero
first x = omega arith

among_sorts_from : (x k : ℕ) (d : Domains) (ks : List ℤ) → k < length d → Among ks (kept_lists (values d k)) → Among (sort (x + k) ks) (sorts_from x d)
among_sorts_from x k [] ks h m = absurd (omega arith)
among_sorts_from x zero (vs ∷ d) ks h m =
    Among-append_left (sort (x + zero) ks) (map (sort x) (kept_lists vs)) (sorts_from (suc x) d)
    (subst (λ n. Among (sort n ks) (map (sort x) (kept_lists vs))) (first x) (among_map (sort x) (kept_lists vs) ks m))
among_sorts_from x (suc k) (vs ∷ d) ks h m =
    Among-append_right (sort (x + suc k) ks) (map (sort x) (kept_lists vs)) (sorts_from (suc x) d)
    (subst (λ n. Among (sort n ks) (sorts_from (suc x) d)) (next x k) (among_sorts_from (suc x) k d ks (omega arith) m))

from_zero : (n : ℕ) → 0 + n ≡ n
from_zero n = omega arith

-- the sort of an atom is one of them
pub among_sorts : (initial : Domains) (a : Atomic) → a.var < length initial → Among (sort_of initial a) (sorts initial)
among_sorts initial a h =
    subst (λ n. Among (sort n (kept_by initial a)) (sorts initial)) (from_zero a.var)
    (among_sorts_from 0 a.var initial (kept_by initial a) h (kept-counted initial a))

-- ---- atoms of one sort

-- on one variable, and they keep the same of its initial values
pub record AreAlike (initial : Domains) (a b : Atomic) : Type 0 where
  pub var : a.var ≡ b.var
  pub kept : kept_by initial a ≡ kept_by initial b

-- an atom of another's sort
pub alike-where : (initial : Domains) (a b : Atomic) → is_of initial (sort_of initial a) b ≡ true → AreAlike initial a b
alike-where initial a b e =
    let p = and_parts (b.var == a.var) (same_values (kept_by initial a) (kept_by initial b)) e in
    record { var = sym ((Decides-eqb b.var a.var).0 p.0); kept = same_where (kept_by initial a) (kept_by initial b) p.1 }

-- the other is of the first's sort too
pub alike-sym : (initial : Domains) (a b : Atomic) → AreAlike initial a b → AreAlike initial b a
alike-sym initial a b s = record { var = sym s.var; kept = sym s.kept }

-- and so is a third, of the other's sort
pub alike-trans : (initial : Domains) (a b c : Atomic) → AreAlike initial a b → AreAlike initial b c → AreAlike initial a c
alike-trans initial a b c s t = record { var = s.var ∙ t.var; kept = s.kept ∙ t.kept }

-- an initial value that meets one meets the other
meets_alike : (initial : Domains) (a b : Atomic) (v : ℤ) → AreAlike initial a b → Among v (values initial a.var) → meets a v ≡ true → meets b v ≡ true
meets_alike initial a b v s h e =
    (Among-filter_only (meets b) (values initial b.var) v
    (subst (λ (vs : List ℤ). Among v vs) s.kept (Among-filter_all (meets a) (values initial a.var) v h e))).1

-- the value of one's variable is a value of the other's
value_alike : (initial d : Domains) (a b : Atomic) (v : ℤ) → AreAlike initial a b → Among v (values d b.var) → Among v (values d a.var)
value_alike initial d a b v s h = subst (λ x. Among v (values d x)) (sym s.var) h

-- a state within the initial domains that entails one entails the other
pub entails-alike : (initial d : Domains) (a b : Atomic) → IsWithin d initial → AreAlike initial a b → entails d a ≡ true → entails d b ≡ true
entails-alike initial d a b within s e = entails-from d b (λ v h.
    let k = value_alike initial d a b v s h in
    meets_alike initial a b v s (within.each a.var v k) (entails-at d a v e k))

fails_alike : (initial d : Domains) (a b : Atomic) (v : ℤ) → IsWithin d initial → AreAlike initial a b → entails d (negated a) ≡ true → Among v (values d b.var) → meets b v ≡ true → ⊥
fails_alike initial d a b v within s e h t =
    both_ways (meets a v)
    (not-from_meets a v (entails-at d (negated a) v e (value_alike initial d a b v s h)))
    (meets_alike initial b a v (alike-sym initial a b s) (within.each b.var v h) t)

-- and where it entails the negation of one it entails the negation of the other
pub denies-alike : (initial d : Domains) (a b : Atomic) → IsWithin d initial → AreAlike initial a b → entails d (negated a) ≡ true → entails d (negated b) ≡ true
denies-alike initial d a b within s e = entails-from d (negated b) (λ v h.
    meets-from_not b v (false_from_ne_true (meets b v) (fails_alike initial d a b v within s e h)))
