-- The names of places are the names that stand for them.
use Rattle.std.proofs.Common.{◌≡◌, ℕ, ◌+◌, ◌<◌, Bool, true, false, cond, not, nat_lt, if◌then◌else◌, ◌⊎◌, inl, inr, Option, Some, None, List, [], ◌∷◌, ◌++◌, length, map, bytes_eq, unwrap_or, slice_get, refl, sym, ap, subst, ◌∙◌, one-add, append-nil, arith}
use Rattle.std.specs.List.{position_or_len}
use Rattle.std.specs.Map.{lookup}
use Rattle.std.specs.Option.{option_map_or}
use Rattle.std.proofs.lemmas.List.{length-map}
use Rattle.std.proofs.lemmas.Bool.Decides.{nat_tests}
use Rattle.std.proofs.lemmas.Option.{slice_get_within}
use Rattle.std.proofs.lemmas.Slice.Eq.{bytes_eq-Decides}
use Rattle.dp_base.specs.Lists.{Each}
use Rattle.std.specs.Prelude.{ℤ}
use Rattle.fz_model.specs.Annotations.{Annotated}
use Rattle.fz_model.specs.Context.{BasicText, Context, Name, Truth, Whole, meant_by}
use Rattle.fz_model.specs.Items.{is_bool_type}
use Rattle.fz_model.specs.ModelText.{ItemWords, after_item, array_of, closing}
use Rattle.fz_model.specs.Models.{basic_of_text, elements_of, item_of, name_of_item, notes_of, output_of, place_of, set_of, type_of, variable_item_of}
use Rattle.fz_model.specs.declared.meant.Meant.{Meant}
use Rattle.fz_model.specs.declared.meant.Meant.TheVariants as meant
use Rattle.fz_model.specs.declared.model.Item.{Item}
use Rattle.fz_model.specs.declared.model.Item.TheVariants as item
use Rattle.fz_facts.proofs.Pairs.{Pairs, Pairs-push, slice_get-append}
use Rattle.fz_print.specs.Canonical.{basic_words}
use Rattle.fz_print.specs.Printed.{name_text}
use Rattle.fz_print.proofs.Cleaned.{IsKnown, plain_text}

-- each name that is declared is that of an item, in order
abbrev pub HasName : List ℕ × Meant → Item → Type 0
HasName e i = e.0 ≡ name_of_item i

abbrev pub AreNamed : Context → List Item → Type 0
AreNamed c items = Pairs HasName c.entries items

after_constants_named : (c : Context) (items : List Item) (size : Bool × (ℤ × Bool)) (a : (Unit {0} ⊎ Unit {0}) × (List ℕ × Annotated (List BasicText))) → AreNamed c items
    → AreNamed (after_item c (inr (inr (inr (inr (inl (size, inr a))))))) (items ++ item_of items (inr (inr (inr (inr (inl (size, inr a)))))))
after_constants_named c items size (inl bool, a) h = Pairs-push HasName c.entries items (a.0, array_of c true true (closing a.1)) (item.Consts a.0 true (elements_of items (closing a.1))) h refl
after_constants_named c items size (inr int, a) h = Pairs-push HasName c.entries items (a.0, array_of c false true (closing a.1)) (item.Consts a.0 false (elements_of items (closing a.1))) h refl

pub named_more : (c : Context) (items : List Item) (x : ItemWords) → AreNamed c items → AreNamed (after_item c x) (items ++ item_of items x)
named_more c items (inl p) h = subst (AreNamed c) (sym (append-nil items)) h
named_more c items (inr (inl i)) h = Pairs-push HasName c.entries items (i.0, meant.IntConst (closing i.1).0) (item.Int i.0 (closing i.1).0) h refl
named_more c items (inr (inr (inl b))) h = Pairs-push HasName c.entries items (b.0, meant.BoolConst (closing b.1)) (item.Bool b.0 (closing b.1)) h refl
named_more c items (inr (inr (inr (inl s)))) h = Pairs-push HasName c.entries items (s.0, meant.SetConst) (item.Set s.0 (set_of (closing s.1))) h refl
named_more c items (inr (inr (inr (inr (inl (size, inl a)))))) h = Pairs-push HasName c.entries items (a.1.0, array_of c (is_bool_type a.0) false (closing a.1.1)) (item.Vars a.1.0 (type_of a.0) (output_of (notes_of a.1.1)) (elements_of items (closing a.1.1))) h refl
named_more c items (inr (inr (inr (inr (inl (size, inr a)))))) h = after_constants_named c items size a h
named_more c items (inr (inr (inr (inr (inr v))))) h = Pairs-push HasName c.entries items (v.1.0, if is_bool_type v.0 then meant.BoolVar else meant.IntVar) (variable_item_of items v) h refl

-- ---- the place of a name

abbrev first_place : List ℕ → List Item → ℕ
first_place bytes items = position_or_len (bytes_eq bytes) (map name_of_item items)

abbrev IsFound : List ℕ → List Item → Type 0
IsFound bytes items = (i : Item) × (slice_get items (first_place bytes items) ≡ Some i) × (name_of_item i ≡ bytes)

found_step : (bytes : List ℕ) (m : Meant) (e : List ℕ × Meant) (o : Option Meant) (i : Item) (items : List Item) (b : Bool)
    → bytes_eq bytes (name_of_item i) ≡ b → cond b (Some e.1) o ≡ Some m → (o ≡ Some m → IsFound bytes items) → IsFound bytes (i ∷ items)
found_step bytes m e o i items true is h more =
    let q = first_place bytes items in
    (i, ap (λ t. slice_get (i ∷ items) (cond (not t) (1 + q) 0)) is, sym ((bytes_eq-Decides bytes (name_of_item i)).0 is))
found_step bytes m e o i items false is h more =
    let q = first_place bytes items in
    let f = more h in
    (f.0, ap (λ t. slice_get (i ∷ items) (cond (not t) (1 + q) 0)) is ∙ ap (λ k. slice_get (i ∷ items) k) (one-add q) ∙ f.1, f.2)

found : (bytes : List ℕ) (m : Meant) (es : List (List ℕ × Meant)) (items : List Item) → Pairs HasName es items → lookup (bytes_eq bytes) es ≡ Some m → IsFound bytes items
found bytes m [] [] p h = absurd cc
found bytes m [] (i ∷ items) p h = absurd p
found bytes m (e ∷ es) [] p h = absurd p
found bytes m (e ∷ es) (i ∷ items) p h =
    found_step bytes m e (lookup (bytes_eq bytes) es) i items (bytes_eq bytes e.0) (ap (bytes_eq bytes) (sym p.0)) h (λ k. found bytes m es items p.1 k)

place_step : (q n : ℕ) → q < n → unwrap_or (cond (nat_lt q n) (Some q) None) 0 ≡ q
place_step q n h =
    let is : nat_lt q n ≡ true = grind (arith, nat_tests) in
    ap (λ t. unwrap_or (cond t (Some q) None) 0) is

place_is : (bytes : List ℕ) (items : List Item) (i : Item) → slice_get items (first_place bytes items) ≡ Some i → place_of items bytes ≡ first_place bytes items
place_is bytes items i h =
    place_step (first_place bytes items) (length (map name_of_item items))
    (subst (λ n. first_place bytes items < n) (sym (length-map items name_of_item)) (slice_get_within items (first_place bytes items) i h))

-- the name of the place of a name is that name, whatever items follow
pub named_text : (c : Context) (items more : List Item) → AreNamed c items → (bytes : List ℕ) (m : Meant) → meant_by c.entries bytes ≡ Some m → name_text (items ++ more) (place_of items bytes) ≡ bytes
named_text c items more named bytes m h =
    let f = found bytes m c.entries items named h in
    let k = first_place bytes items in
    ap (λ p. name_text (items ++ more) p) (place_is bytes items f.0 f.1)
    ∙ ap (λ o. option_map_or name_of_item o []) (slice_get-append items more k (slice_get_within items k f.0 f.1) ∙ f.1) ∙ f.2

-- ---- literals and names

pub basic_again : (c : Context) (items more : List Item) → AreNamed c items → (t : BasicText) → IsKnown c t → basic_words (items ++ more) (basic_of_text items t) ≡ plain_text t
basic_again c items more named (Truth v) k = refl
basic_again c items more named (Whole v dotted) k = refl
basic_again c items more named (Name bytes) k = ap (λ b. Name b) (named_text c items more named bytes k.0 k.1)

pub elements_again : (c : Context) (items more : List Item) → AreNamed c items → (ts : List BasicText) → Each (IsKnown c) ts → map (basic_words (items ++ more)) (elements_of items ts) ≡ map plain_text ts
elements_again c items more named [] k = refl
elements_again c items more named (t ∷ ts) k =
    ap (λ b. b ∷ map (basic_words (items ++ more)) (elements_of items ts)) (basic_again c items more named t k.0)
    ∙ ap (λ l. plain_text t ∷ l) (elements_again c items more named ts k.1)
