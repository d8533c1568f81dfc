-- Numbers that pass the test of a type are of the type.
use Rattle.std.proofs.Common.{◌≡◌, Bool, true, false, not, ◌&&◌, inl, inr, T, List, [], ◌∷◌, map, ℤ, int_le, refl}
use Rattle.std.specs.Int.Signed.{lt_z, lt_z_no}
use Rattle.std.specs.List.{list_any}
use Rattle.std.proofs.lemmas.Bool.{and_parts, and_from, or_cases, or_left, or_right}
use Rattle.dp_domain.specs.Sets.{is_among}
use Rattle.fz_model.specs.Arrays.{is_in}
use Rattle.fz_model.specs.Items.{IntText, SetWords, TypeWords}
use Rattle.fz_model.specs.Items as words
use Rattle.fz_model.specs.Models.{set_type_of, type_of}
use Rattle.fz_sat.specs.Satisfies.{is_of_type}
use Rattle.fz_facts.specs.Declared.{is_bool_type}

from_T : (b : Bool) → T b → b ≡ true
from_T true t = refl
from_T false t = absurd t

to_T : (b : Bool) → b ≡ true → T b
to_T true e = tt
to_T false e = absurd cc

not_less : (a b : ℤ) → not (lt_z a b) ≡ true → int_le b a ≡ true
not_less a b e = from_T (int_le b a) (lt_z_no {a = a} {b = b} (to_T (not (lt_z a b)) e)).le

equal_in : (w v : ℤ) → (not (lt_z w v) && not (lt_z v w)) ≡ true → (int_le v w && int_le w v) ≡ true
equal_in w v e =
    let p = and_parts (not (lt_z w v)) (not (lt_z v w)) e in
    and_from (int_le v w) (int_le w v) (not_less w v p.0) (not_less v w p.1)

in_list : (numbers : List IntText) (v : ℤ) → list_any (λ p. not (lt_z p.0 v) && not (lt_z v p.0)) numbers ≡ true → is_among v (map (λ n. n.0) numbers) ≡ true
in_list [] v e = e
in_list (n ∷ numbers) v e =
    let tested = λ (p : IntText). not (lt_z p.0 v) && not (lt_z v p.0) in
    let one = int_le v n.0 && int_le n.0 v in
    elim (or_cases (tested n) (list_any tested numbers) e) [
      | inl h ↦ or_left one (is_among v (map (λ n. n.0) numbers)) (equal_in n.0 v h)
      | inr h ↦ or_right one (is_among v (map (λ n. n.0) numbers)) (in_list numbers v h)
    ]

pub in_type : (set : SetWords) (v : ℤ) → is_in set v ≡ true → is_of_type (set_type_of set) v ≡ true
in_type (inl numbers) v e = in_list numbers v e
in_type (inr bounds) v e =
    let p = and_parts (not (lt_z v bounds.0.0)) (not (lt_z bounds.1.0 v)) e in
    and_from (int_le bounds.0.0 v) (int_le v bounds.1.0) (not_less v bounds.0.0 p.0) (not_less bounds.1.0 v p.1)

-- the type of Booleans is that of the word `bool`
pub bool_type : (t : TypeWords) → is_bool_type (type_of t) ≡ words.is_bool_type t
bool_type (inl bool) = refl
bool_type (inr (inl int)) = refl
bool_type (inr (inr (inl numbers))) = refl
bool_type (inr (inr (inr bounds))) = refl
