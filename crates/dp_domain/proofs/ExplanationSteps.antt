-- Steps of the code of descriptions and explanations.
use Rattle.std.proofs.Common.{◌≡◌, ℕ, ◌+◌, ◌<◌, Bool, true, false, not, ◌&&◌, List, [], ◌∷◌, ◌++◌, length, get_or, take, map, ℤ, pos, int_le, ◌↔◌, Option, Some, slice_get, refl, sym, ◌∙◌, ap, subst}
use Rattle.std.specs.List.{filter}
use Rattle.std.proofs.lemmas.Bool.{false_from_ne_true, false≢true}
use Rattle.std.proofs.lemmas.List.{append_assoc, map-append, take_more}
use Rattle.std.proofs.lemmas.List.Elements.{filter-append}
use Rattle.std.proofs.lemmas.Option.{slice_get_within, get_or_from_slice_get}
use Rattle.dp_base.specs.Lists.{Among, Each}
use Rattle.dp_base.proofs.Lists.{Each-weaker, list_any-some, list_any-at}
use Rattle.dp_domain.specs.Atoms.{Atomic}
use Rattle.dp_domain.specs.Sets.{IsDomain, IsSmall, least, greatest}
use Rattle.dp_domain.specs.States.{Domains, values, cut, cut_all, AreOf}
use Rattle.dp_domain.specs.Faces.{Covers}
use Rattle.dp_domain.specs.Explanations.{has, Describes}
use Rattle.dp_domain.proofs.AtomLaws.{same-from_tests, tests-from_same}
use Rattle.dp_domain.proofs.SetLaws.{IsSmall-among, least-among, greatest-among}
use Rattle.dp_domain.proofs.StateLaws.{length-cut_all}
use Rattle.dp_domain.proofs.ScopeLaws.{Covers-at}

-- ---- descriptions

-- in both states the variables have domains
abbrev pub AreSets : Domains → Domains → List ℕ → Type 0
AreSets initial now scope = Each (λ x. IsDomain (values initial x) × IsDomain (values now x)) scope

-- a number that passes the test is one of these
pub from_has : (xs : List ℤ) (v : ℤ) → has xs v ≡ true → Among v xs
from_has xs v t = let r = list_any-some (λ u. int_le u v && int_le v u) xs t in subst (λ w. Among w xs) (same-from_tests r.0 v r.2) r.1

-- one of these passes the test
pub has_from : (xs : List ℤ) (v : ℤ) → Among v xs → has xs v ≡ true
has_from xs v h = list_any-at (λ u. int_le u v && int_le v u) xs v h (tests-from_same v v refl)

same_has : (xs : List ℤ) (v : ℤ) (r : Bool) → ((r ≡ true) ↔ Among v xs) → r ≡ has xs v
same_has xs v true k = sym (has_from xs v (k.0 refl))
same_has xs v false k = sym (false_from_ne_true (has xs v) (λ t. false≢true (k.1 (from_has xs v t))))

-- that a number is lacking, by a search for it
pub lacks_is : (xs : List ℤ) (v w : ℤ) (r : Bool) → w ≡ v → ((r ≡ true) ↔ Among w xs) → not r ≡ not (has xs v)
lacks_is xs v w r e k = ap not (same_has xs w r k ∙ ap (has xs) e)

-- the least value of a domain is small
pub small_least : (xs : List ℤ) (o : Option ℤ) → IsDomain xs → o ≡ least xs → (v : ℤ) → o ≡ Some v → IsSmall v
small_least xs o d e v f = IsSmall-among xs d v (least-among xs v (sym e ∙ f))

-- the greatest value of a domain is small
pub small_greatest : (xs : List ℤ) (o : Option ℤ) → IsDomain xs → o ≡ greatest xs → (v : ℤ) → o ≡ Some v → IsSmall v
small_greatest xs o d e v f = IsSmall-among xs d v (greatest-among xs v (sym e ∙ f))

-- the holes among one more value
pub holes_more : (p : ℤ → Bool) (g : ℤ → Atomic) (xs : List ℤ) (i : ℕ) (v : ℤ) (first old now : List Atomic) → i < length xs → v ≡ get_or xs i (pos 0) → old ≡ first ++ map g (filter p (take i xs)) → now ≡ old ++ map g (filter p (v ∷ [])) → now ≡ first ++ map g (filter p (take (i + 1) xs))
holes_more p g xs i v first old now h e k n =
    let a : take i xs ++ v ∷ [] ≡ take (i + 1) xs = ap (λ (w : ℤ). take i xs ++ w ∷ []) e ∙ sym (take_more xs i (pos 0) h) in
    let b : map g (filter p (take i xs)) ++ map g (filter p (v ∷ [])) ≡ map g (filter p (take (i + 1) xs)) =
    sym (map-append g (filter p (take i xs)) (filter p (v ∷ []))) ∙ ap (map g) (sym (filter-append p (take i xs) (v ∷ [])) ∙ ap (filter p) a)
    in
    n ∙ ap (λ ys. ys ++ map g (filter p (v ∷ []))) k ∙ append_assoc first (map g (filter p (take i xs))) (map g (filter p (v ∷ []))) ∙ ap (λ ys. first ++ ys) b

-- ---- scopes

-- one variable more
pub scope_more : (xs : List ℕ) (i x : ℕ) (old now : List ℕ) → slice_get xs i ≡ Some x → old ≡ take i xs → now ≡ old ++ x ∷ [] → now ≡ take (i + 1) xs
scope_more xs i x old now s e f =
    f ∙ ap (λ ys. ys ++ x ∷ []) e ∙ ap (λ (y : ℕ). take i xs ++ y ∷ []) (sym (get_or_from_slice_get xs i x x s)) ∙ sym (take_more xs i x (slice_get_within xs i x s))

-- atoms of a scope are atoms of the states that cover it
pub of_scope_of : (scope : List ℕ) (d : Domains) (atoms : List Atomic) → Covers scope d → Each (λ a. Among a.var scope) atoms → AreOf d atoms
of_scope_of scope d atoms c h = Each-weaker (λ (a : Atomic). Among a.var scope) (λ (a : Atomic). a.var < length d) (λ a k. Covers-at scope d a.var c k) atoms h

-- the description as the code has it
pub described_as : (initial now : Domains) (scope s : List ℕ) (atoms xs : List Atomic) → s ≡ scope → xs ≡ atoms → Describes initial now s atoms → Describes initial now scope xs
described_as initial now scope s atoms xs e f h = subst (Describes initial now scope) (sym f) (subst (λ k. Describes initial now k atoms) e h)

-- ---- cuts

-- cuts by two lists are cuts by one after the other
pub cut_all-append : (d : Domains) (xs ys : List Atomic) → cut_all d (xs ++ ys) ≡ cut_all (cut_all d xs) ys
cut_all-append d [] ys = refl
cut_all-append d (a ∷ xs) ys = cut_all-append (cut d a) xs ys

pub length_cut : (s t : Domains) (xs : List Atomic) → t ≡ cut_all s xs → length t ≡ length s
length_cut s t xs e = ap (λ (d : Domains). length d) e ∙ length-cut_all s xs

pub of_same : (d e : Domains) (atoms : List Atomic) → length e ≡ length d → AreOf d atoms → AreOf e atoms
of_same d e atoms n h = subst (λ k. Each (λ (a : Atomic). a.var < k) atoms) (sym n) h
