-- Items in their canonical spelling declare the same, and are the same items.
use Rattle.std.proofs.Common.{◌≡◌, ℕ, ◌+◌, Bool, true, false, if◌then◌else◌, ◌⊎◌, inl, inr, List, [], ◌∷◌, ◌++◌, map, length, Option, Some, None, ℤ, codes, refl, sym, ◌∙◌, ap, append-nil}
use Rattle.std.proofs.lemmas.List.{length-map}
use Rattle.fz_model.specs.Context.{BasicText, Context, meaning, with_elements}
use Rattle.fz_model.specs.Items.{TypeWords, is_bool_type, type_elements}
use Rattle.fz_model.specs.Arrays.{is_bools}
use Rattle.fz_model.specs.ModelText.{ItemWords, VariableWords, after_constants, after_item, after_items, array_of, bool_constant, closing, declares, int_constant}
use Rattle.fz_model.specs.Models.{definition_of, elements_of, is_noted, item_of, items_behind, notes_of, number_of, output_of, set_of, type_of}
use Rattle.fz_model.specs.declared.meant.Meant.{Meant}
use Rattle.fz_model.specs.declared.meant.Meant.TheVariants as meant
use Rattle.fz_model.specs.declared.model.Basic.{Basic}
use Rattle.fz_model.specs.declared.model.Item.{Item}
use Rattle.fz_model.specs.declared.model.Item.TheVariants as item
use Rattle.fz_print.specs.Canonical.{kind_words, marked, sized, type_words}
use Rattle.fz_print.proofs.Cleaned.{plain_text, same_basic, same_bool_type, same_elements, same_meaning, same_set_elements, same_type_elements, set_again, type_again}
use Rattle.fz_print.proofs.CleanItems.{clean_definition, clean_item}
use Rattle.fz_print.proofs.Outputs.{output_again, sized_notes}

-- ---- what is declared

same_meanings : {A : Type 0} (f : Option Meant → A) (c : Context) (ts : List BasicText) → map (λ t. f (meaning c t)) (map plain_text ts) ≡ map (λ t. f (meaning c t)) ts
same_meanings f c [] = refl
same_meanings f c (t ∷ ts) = ap (λ m. f m ∷ map (λ t. f (meaning c t)) (map plain_text ts)) (same_meaning c t) ∙ ap (λ l. f (meaning c t) ∷ l) (same_meanings f c ts)

same_array : (c : Context) (bools parameter : Bool) (ts : List BasicText) → array_of c bools parameter (map plain_text ts) ≡ array_of c bools parameter ts
same_array c true parameter ts = ap (λ l. meant.BoolArray parameter l) (same_meanings bool_constant c ts)
same_array c false parameter ts = ap (λ l. meant.IntArray parameter l) (same_meanings int_constant c ts)

abbrev with_array : Context → List ℕ → Meant → ℕ → Context
with_array c n m k = with_elements (declares c n m) k

closing_sized : {C : Type 0} (o : Option (List (ℤ × ℤ))) (c : C) → closing (sized o c) ≡ c
closing_sized None c = refl
closing_sized (Some rs) c = refl

constants_after : (c : Context) (k : Unit {0} ⊎ Unit {0}) (n : List ℕ) (ts : List BasicText) → after_constants c (kind_words (is_bools k)) n (map plain_text ts) ≡ after_constants c k n ts
constants_after c (inl bool) n ts = ap (λ m. with_array c n m (length (map plain_text ts))) (same_array c true true ts) ∙ ap (λ k. with_array c n (array_of c true true ts) k) (length-map ts plain_text)
constants_after c (inr int) n ts = ap (λ m. with_array c n m (length (map plain_text ts))) (same_array c false true ts) ∙ ap (λ k. with_array c n (array_of c false true ts) k) (length-map ts plain_text)

variables_after : (c : Context) (t : TypeWords) (n : List ℕ) (ts : List BasicText)
    → with_array c n (array_of c (is_bool_type (type_words (type_of t))) false (map plain_text ts)) (type_elements (type_words (type_of t)) + length (map plain_text ts))
    ≡ with_array c n (array_of c (is_bool_type t) false ts) (type_elements t + length ts)
variables_after c t n ts =
    ap (λ b. with_array c n (array_of c b false (map plain_text ts)) (type_elements (type_words (type_of t)) + length (map plain_text ts))) (same_bool_type t)
    ∙ ap (λ m. with_array c n m (type_elements (type_words (type_of t)) + length (map plain_text ts))) (same_array c (is_bool_type t) false ts)
    ∙ ap (λ k. with_array c n (array_of c (is_bool_type t) false ts) (k + length (map plain_text ts))) (same_type_elements t)
    ∙ ap (λ k. with_array c n (array_of c (is_bool_type t) false ts) (type_elements t + k)) (length-map ts plain_text)

abbrev with_variable : Context → List ℕ → Bool → ℕ → Context
with_variable c n bools k = record (with_elements (declares c n (if bools then meant.BoolVar else meant.IntVar)) k) { variables = c.variables + 1 }

-- what an item declares
pub item_after : (c : Context) (x : ItemWords) → after_items c (clean_item x) ≡ after_item c x
item_after c (inl p) = refl
item_after c (inr (inl i)) = refl
item_after c (inr (inr (inl b))) = refl
item_after c (inr (inr (inr (inl s)))) = ap (λ k. with_array c s.0 meant.SetConst k) (same_set_elements (closing s.1))
item_after c (inr (inr (inr (inr (inl (size, inl a)))))) =
    ap (λ ts. with_array c a.1.0 (array_of c (is_bool_type (type_words (type_of a.0))) false ts) (type_elements (type_words (type_of a.0)) + length ts)) (closing_sized (output_of (notes_of a.1.1)) (map plain_text (closing a.1.1)))
    ∙ variables_after c a.0 a.1.0 (closing a.1.1)
item_after c (inr (inr (inr (inr (inl (size, inr a)))))) = constants_after c a.0 a.1.0 (closing a.1.1)
item_after c (inr (inr (inr (inr (inr v))))) =
    ap (λ b. with_variable c v.1.0 b (type_elements (type_words (type_of v.0)))) (same_bool_type v.0) ∙ ap (λ k. with_variable c v.1.0 (is_bool_type v.0) k) (same_type_elements v.0)

-- ---- which items they are

same_kind : (k : Unit {0} ⊎ Unit {0}) → is_bools (kind_words (is_bools k)) ≡ is_bools k
same_kind (inl bool) = refl
same_kind (inr int) = refl

same_definition : (items : List Item) (d : BasicText ⊎ Unit {0}) → definition_of items (clean_definition d) ≡ definition_of items d
same_definition items (inl t) = ap (λ b. Some b) (same_basic items t)
same_definition items (inr none) = refl

closing_marked : {C : Type 0} (o : Bool) (c : C) → closing (marked o c) ≡ c
closing_marked true c = refl
closing_marked false c = refl

noted_marked : {C : Type 0} (o : Bool) (c : C) → is_noted (codes "output_var") (notes_of (marked o c)) ≡ o
noted_marked true c = refl
noted_marked false c = refl

notes_sized : {C : Type 0} (o : Option (List (ℤ × ℤ))) (c : C) → notes_of (sized o c) ≡ sized_notes o
notes_sized None c = refl
notes_sized (Some rs) c = refl

abbrev variable_of : List Item → VariableWords → Option Basic → Item
variable_of items v value = item.Var v.1.0 (type_of v.0) (is_noted (codes "output_var") (notes_of v.1.1)) value (number_of items value)

-- an item is the same behind the same items
pub item_same : (items : List Item) (x : ItemWords) → items_behind items (clean_item x) ≡ items ++ item_of items x
item_same items (inl p) = sym (append-nil items)
item_same items (inr (inl i)) = refl
item_same items (inr (inr (inl b))) = refl
item_same items (inr (inr (inr (inl s)))) = ap (λ z. items ++ item.Set s.0 z ∷ []) (set_again (set_of (closing s.1)))
item_same items (inr (inr (inr (inr (inl (size, inl a)))))) =
    ap (λ z. items ++ item.Vars a.1.0 z (output_of (notes_of (sized (output_of (notes_of a.1.1)) (map plain_text (closing a.1.1))))) (elements_of items (closing (sized (output_of (notes_of a.1.1)) (map plain_text (closing a.1.1))))) ∷ []) (type_again (type_of a.0))
    ∙ ap (λ z. items ++ item.Vars a.1.0 (type_of a.0) (output_of z) (elements_of items (closing (sized (output_of (notes_of a.1.1)) (map plain_text (closing a.1.1))))) ∷ []) (notes_sized (output_of (notes_of a.1.1)) (map plain_text (closing a.1.1)))
    ∙ ap (λ z. items ++ item.Vars a.1.0 (type_of a.0) z (elements_of items (closing (sized (output_of (notes_of a.1.1)) (map plain_text (closing a.1.1))))) ∷ []) (output_again (output_of (notes_of a.1.1)))
    ∙ ap (λ z. items ++ item.Vars a.1.0 (type_of a.0) (output_of (notes_of a.1.1)) (elements_of items z) ∷ []) (closing_sized (output_of (notes_of a.1.1)) (map plain_text (closing a.1.1)))
    ∙ ap (λ z. items ++ item.Vars a.1.0 (type_of a.0) (output_of (notes_of a.1.1)) z ∷ []) (same_elements items (closing a.1.1))
item_same items (inr (inr (inr (inr (inl (size, inr a)))))) =
    ap (λ z. items ++ item.Consts a.1.0 z (elements_of items (map plain_text (closing a.1.1))) ∷ []) (same_kind a.0)
    ∙ ap (λ z. items ++ item.Consts a.1.0 (is_bools a.0) z ∷ []) (same_elements items (closing a.1.1))
item_same items (inr (inr (inr (inr (inr v))))) =
    ap (λ z. items ++ variable_of items (type_words (type_of v.0), (v.1.0, marked (is_noted (codes "output_var") (notes_of v.1.1)) (clean_definition (closing v.1.1)))) (definition_of items z) ∷ []) (closing_marked (is_noted (codes "output_var") (notes_of v.1.1)) (clean_definition (closing v.1.1)))
    ∙ ap (λ z. items ++ variable_of items (type_words (type_of v.0), (v.1.0, marked (is_noted (codes "output_var") (notes_of v.1.1)) (clean_definition (closing v.1.1)))) z ∷ []) (same_definition items (closing v.1.1))
    ∙ ap (λ z. items ++ item.Var v.1.0 z (is_noted (codes "output_var") (notes_of (marked (is_noted (codes "output_var") (notes_of v.1.1)) (clean_definition (closing v.1.1))))) (definition_of items (closing v.1.1)) (number_of items (definition_of items (closing v.1.1))) ∷ []) (type_again (type_of v.0))
    ∙ ap (λ z. items ++ item.Var v.1.0 (type_of v.0) z (definition_of items (closing v.1.1)) (number_of items (definition_of items (closing v.1.1))) ∷ []) (noted_marked (is_noted (codes "output_var") (notes_of v.1.1)) (clean_definition (closing v.1.1)))
