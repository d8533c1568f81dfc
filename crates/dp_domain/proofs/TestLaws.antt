-- Laws of the tests by which a set entails an atom: by its ends, and by whether it has the number.
use Rattle.std.proofs.Common.{◌≡◌, Bool, true, false, not, ◌&&◌, List, [], ◌∷◌, ℤ, ◌≤ℤ◌, int_le, Option, Some, None, refl, sym, ◌∙◌, ap, subst}
use Rattle.std.specs.List.{list_all}
use Rattle.std.specs.Option.{option_map_or}
use Rattle.std.proofs.lemmas.Bool.{and_from, and_parts, both_ways, false_from_ne_true, not-true, not_from_false}
use Rattle.dp_base.specs.Lists.{Among}
use Rattle.dp_base.proofs.Lists.{list_all-at, list_all-from}
use Rattle.dp_domain.specs.declared.atom.Op.{Op}
use Rattle.dp_domain.specs.declared.atom.Op.TheVariants.{Ge, Le, Eq, Ne}
use Rattle.dp_domain.specs.Atoms.{Atomic, compares, meets}
use Rattle.dp_domain.specs.Sets.{greatest, least}
use Rattle.dp_domain.proofs.AtomLaws.{le-from_test, meets-ne, test-from_le}
use Rattle.dp_domain.proofs.IntervalSteps.{le_trans}
use Rattle.dp_domain.proofs.SetLaws.{greatest-among, greatest-bound, least-among, least-bound}

-- two tests that pass together are one
pub same_tests : (a b : Bool) → (a ≡ true → b ≡ true) → (b ≡ true → a ≡ true) → a ≡ b
same_tests true b f g = sym (f refl)
same_tests false b f g = sym (false_from_ne_true b (λ t. both_ways false refl (g t)))

-- whether each number stands in this relation to the value
abbrev pub all_of : Op → ℤ → List ℤ → Bool
all_of o v xs = list_all (λ x. compares o x v) xs

least_none : (xs : List ℤ) (v : ℤ) → least xs ≡ None → Among v xs → ⊥
least_none [] v e h = h
least_none (x ∷ xs) v e h = cc

greatest_none : (xs : List ℤ) (v : ℤ) → greatest xs ≡ None → Among v xs → ⊥
greatest_none [] v e h = h
greatest_none (x ∷ xs) v e h = cc

from_least : (o : Option ℤ) (v : ℤ) (xs : List ℤ) → least xs ≡ o → option_map_or (λ (m : ℤ). int_le v m) o true ≡ true → (x : ℤ) → Among x xs → v ≤ℤ x
from_least None v xs e t x h = absurd (least_none xs x e h)
from_least (Some m) v xs e t x h = le_trans v m x (le-from_test v m t) (least-bound xs m e x h)

to_least : (o : Option ℤ) (v : ℤ) (xs : List ℤ) → least xs ≡ o → ((x : ℤ) → Among x xs → v ≤ℤ x) → option_map_or (λ (m : ℤ). int_le v m) o true ≡ true
to_least None v xs e f = refl
to_least (Some m) v xs e f = test-from_le v m (f m (least-among xs m e))

from_greatest : (o : Option ℤ) (v : ℤ) (xs : List ℤ) → greatest xs ≡ o → option_map_or (λ (m : ℤ). int_le m v) o true ≡ true → (x : ℤ) → Among x xs → x ≤ℤ v
from_greatest None v xs e t x h = absurd (greatest_none xs x e h)
from_greatest (Some m) v xs e t x h = le_trans x m v (greatest-bound xs m e x h) (le-from_test m v t)

to_greatest : (o : Option ℤ) (v : ℤ) (xs : List ℤ) → greatest xs ≡ o → ((x : ℤ) → Among x xs → x ≤ℤ v) → option_map_or (λ (m : ℤ). int_le m v) o true ≡ true
to_greatest None v xs e f = refl
to_greatest (Some m) v xs e f = test-from_le m v (f m (greatest-among xs m e))

-- each number is at least the value where the least is
pub all_ge : (o : Option ℤ) (v : ℤ) (xs : List ℤ) → o ≡ least xs → option_map_or (λ (m : ℤ). int_le v m) o true ≡ all_of Ge v xs
all_ge o v xs e =
    same_tests (option_map_or (λ (m : ℤ). int_le v m) o true) (all_of Ge v xs)
    (λ t. list_all-from (λ x. compares Ge x v) xs (λ x h. test-from_le v x (from_least o v xs (sym e) t x h)))
    (λ t. to_least o v xs (sym e) (λ x h. le-from_test v x (list_all-at (λ y. compares Ge y v) xs x t h)))

-- at most the value where the greatest is
pub all_le : (o : Option ℤ) (v : ℤ) (xs : List ℤ) → o ≡ greatest xs → option_map_or (λ (m : ℤ). int_le m v) o true ≡ all_of Le v xs
all_le o v xs e =
    same_tests (option_map_or (λ (m : ℤ). int_le m v) o true) (all_of Le v xs)
    (λ t. list_all-from (λ x. compares Le x v) xs (λ x h. test-from_le x v (from_greatest o v xs (sym e) t x h)))
    (λ t. to_greatest o v xs (sym e) (λ x h. le-from_test x v (list_all-at (λ y. compares Le y v) xs x t h)))

-- the value where both are
pub all_eq : (o p : Option ℤ) (v : ℤ) (xs : List ℤ) → o ≡ least xs → p ≡ greatest xs → (option_map_or (λ (m : ℤ). int_le v m) o true && option_map_or (λ (m : ℤ). int_le m v) p true) ≡ all_of Eq v xs
all_eq o p v xs e f =
    let low = option_map_or (λ (m : ℤ). int_le v m) o true in
    let high = option_map_or (λ (m : ℤ). int_le m v) p true in
    same_tests (low && high) (all_of Eq v xs)
    (λ t.
    let s = and_parts low high t in
    list_all-from (λ x. compares Eq x v) xs (λ x h. and_from (int_le x v) (int_le v x) (test-from_le x v (from_greatest p v xs (sym f) s.1 x h)) (test-from_le v x (from_least o v xs (sym e) s.0 x h))))
    (λ t.
    let both = λ (x : ℤ) (h : Among x xs). and_parts (int_le x v) (int_le v x) (list_all-at (λ y. compares Eq y v) xs x t h) in
    and_from low high (to_least o v xs (sym e) (λ x h. le-from_test v x (both x h).1)) (to_greatest p v xs (sym f) (λ x h. le-from_test x v (both x h).0)))

-- another than the value where the value is none of them
pub all_ne : (b : Bool) (v w : ℤ) (xs : List ℤ) → w ≡ v → (b ≡ true → Among w xs) → (Among w xs → b ≡ true) → not b ≡ all_of Ne v xs
all_ne b v w xs e f g =
    same_tests (not b) (all_of Ne v xs)
    (λ t. list_all-from (λ x. compares Ne x v) xs (λ x h. (meets-ne 0 v x).1 (λ k. both_ways b (not-true b t) (g (subst (λ (y : ℤ). Among y xs) (k ∙ sym e) h)))))
    (λ t. not_from_false b (false_from_ne_true b (λ s. (meets-ne 0 v w).0 (list_all-at (λ y. compares Ne y v) xs w t (f s)) e)))

-- the relation as the atom has it
pub all_by : (a : Atomic) (o : Op) (xs ys : List ℤ) → a.op ≡ o → xs ≡ ys → all_of o a.value xs ≡ list_all (meets a) ys
all_by a o xs ys e f = ap (all_of o a.value) f ∙ sym (ap (λ (p : Op). all_of p a.value ys) e)

-- a conjunction whose first part is known
pub and_when : (a b : Bool) → a ≡ true → b ≡ (a && b)
and_when true b e = refl
and_when false b e = absurd (both_ways false refl e)

pub and_unless : (a b : Bool) → a ≡ false → a ≡ (a && b)
and_unless true b e = absurd (both_ways true e refl)
and_unless false b e = refl
