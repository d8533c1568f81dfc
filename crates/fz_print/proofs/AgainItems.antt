-- The words of the items of a model are the canonical spelling of the words that the model was read from.
use Rattle.std.proofs.Common.{◌≡◌, ℕ, Bool, if◌then◌else◌, ◌⊎◌, inl, inr, List, [], ◌∷◌, ◌++◌, map, length, Option, None, codes, refl, sym, ◌∙◌, ap, subst, append_assoc, append-nil}
use Rattle.std.specs.Prelude.{ℤ}
use Rattle.std.specs.List.{flat_map}
use Rattle.std.proofs.lemmas.List.{length-map, map-append}
use Rattle.dp_base.specs.Lists.{Each}
use Rattle.fz_model.specs.Arrays.{array_item, count_of, is_bools, type_test}
use Rattle.fz_model.specs.Context.{BasicText, Context, Name, Truth, Whole, bool_test, int_test, meaning, with_elements}
use Rattle.fz_model.specs.Items.{TypeWords, basic, basic_word, definition_test, is_bool_type, type_elements, variable_end}
use Rattle.fz_model.specs.Limits.{beyond_small}
use Rattle.fz_model.specs.Marks.{stop}
use Rattle.fz_model.specs.ModelText.{ArrayWords, ItemWords, after_item, after_items, closing, context_of, item as item_production, nothing}
use Rattle.fz_model.specs.Models.{basic_of_text, definition_of, elements_of, is_noted, item_of, items_behind, notes_of, output_of, type_of}
use Rattle.fz_model.specs.Words.{Semicolon}
use Rattle.fz_model.specs.declared.model.Item.{Item}
use Rattle.fz_facts.proofs.Faults.{EachBehind, before_parts, test_passes}
use Rattle.fz_facts.proofs.Passes.{is_known}
use Rattle.fz_print.specs.Canonical.{definition_words, item_words, kind_words, marked, plain, size_words, sized, type_words}
use Rattle.fz_print.proofs.Cleaned.{IsKnown, are_so_many, elements_known, plain_text}
use Rattle.fz_print.proofs.CleanItems.{array_parts, clean_definition, clean_item, constant_wanted, constants_parts, item_none, variable_parts, variables_parts}
use Rattle.fz_print.proofs.CleanTwins.{item_after, item_same}
use Rattle.fz_print.proofs.Naming.{AreNamed, basic_again, elements_again, named_more}

-- ---- one item

definition_known : (c : Context) (t : TypeWords) (text : BasicText) → (variable_end c t).fault (inl text) ≡ None → IsKnown c text
definition_known c t text e =
    let p = test_passes (definition_test c t text) (basic_word text ∷ []) (before_parts (basic (definition_test c t)) (stop Semicolon) text e).0 in
    let k = is_known (meaning c text) (if is_bool_type t then bool_test else int_test beyond_small) p in
    (k.0, k.1)

definition_again : (c : Context) (items more : List Item) → AreNamed c items → (t : TypeWords) (d : BasicText ⊎ Unit {0}) → (variable_end c t).fault d ≡ None
    → definition_words (items ++ more) (definition_of items d) ≡ clean_definition d
definition_again c items more named t (inl text) e = ap (λ b. inl b) (basic_again c items more named text (definition_known c t text e))
definition_again c items more named t (inr none) e = refl

same_known : (c : Context) (n : ℕ) (t : BasicText) → IsKnown (with_elements c n) t → IsKnown c t
same_known c n (Truth v) k = k
same_known c n (Whole v dotted) k = k
same_known c n (Name bytes) k = k

all_known : (c : Context) (n : ℕ) (ts : List BasicText) → Each (IsKnown (with_elements c n)) ts → Each (IsKnown c) ts
all_known c n [] k = tt
all_known c n (t ∷ ts) k = (same_known c n t k.0, all_known c n ts k.1)

abbrev array_words : ℕ → TypeWords → List ℕ → Option (List (ℤ × ℤ)) → List BasicText → ItemWords
array_words n t name o ts = inr (inr (inr (inr (inl (size_words n, inl (t, (name, sized o ts)))))))

abbrev consts_words : ℕ → Unit {0} ⊎ Unit {0} → List ℕ → List BasicText → ItemWords
consts_words n k name ts = inr (inr (inr (inr (inl (size_words n, inr (k, (name, plain ts)))))))

array_again : (c : Context) (items more : List Item) → AreNamed c items → (a : ArrayWords) → (array_item c).fault a ≡ None
    → map (item_words (items ++ more)) (item_of items (inr (inr (inr (inr (inl a)))))) ≡ clean_item (inr (inr (inr (inr (inl a)))))
array_again c items more named (size, inl a) e =
    let ts = closing a.1.1 in
    let p = variables_parts c size.1 a.0 a.1.0 a.1.1 (array_parts c (size, inl a) e) in
    let k = all_known c (type_elements a.0) (closing a.1.1) (elements_known (with_elements c (type_elements a.0)) (with_elements c (type_elements a.0)) (type_test a.0) (are_so_many (count_of size.1.0)) (closing a.1.1) p.elements) in
    ap (λ l. array_words (length (elements_of items ts)) (type_words (type_of a.0)) a.1.0 (output_of (notes_of a.1.1)) l ∷ []) (elements_again c items more named (closing a.1.1) k)
    ∙ ap (λ n. array_words n (type_words (type_of a.0)) a.1.0 (output_of (notes_of a.1.1)) (map plain_text ts) ∷ []) (length-map (closing a.1.1) (basic_of_text items))
array_again c items more named (size, inr a) e =
    let ts = closing a.1.1 in
    let p = constants_parts c size.1 a.0 a.1.0 a.1.1 (array_parts c (size, inr a) e) in
    let k = elements_known c c (constant_wanted (is_bools a.0)) (are_so_many (count_of size.1.0)) (closing a.1.1) p.1 in
    ap (λ l. consts_words (length (elements_of items ts)) (kind_words (is_bools a.0)) a.1.0 l ∷ []) (elements_again c items more named (closing a.1.1) k)
    ∙ ap (λ n. consts_words n (kind_words (is_bools a.0)) a.1.0 (map plain_text ts) ∷ []) (length-map (closing a.1.1) (basic_of_text items))

abbrev variable_words : TypeWords → List ℕ → Bool → BasicText ⊎ Unit {0} → ItemWords
variable_words t name o d = inr (inr (inr (inr (inr (t, (name, marked o d))))))

item_again : (c : Context) (items more : List Item) → AreNamed c items → (x : ItemWords) → (item_production c).fault x ≡ None → map (item_words (items ++ more)) (item_of items x) ≡ clean_item x
item_again c items more named (inl p) e = refl
item_again c items more named (inr (inl i)) e = refl
item_again c items more named (inr (inr (inl b))) e = refl
item_again c items more named (inr (inr (inr (inl s)))) e = refl
item_again c items more named (inr (inr (inr (inr (inl a))))) e = array_again c items more named a e
item_again c items more named (inr (inr (inr (inr (inr v))))) e =
    ap (λ d. variable_words (type_words (type_of v.0)) v.1.0 (is_noted (codes "output_var") (notes_of v.1.1)) d ∷ []) (definition_again c items more named v.0 (closing v.1.1) (variable_parts c v e).end)

-- ---- all items

abbrev pub IsFree : List ItemWords → ItemWords → Type 0
IsFree kept x = (item_production (context_of kept)).fault x ≡ None

pub after_one : (c : Context) (kept : List ItemWords) (x : ItemWords) → after_items c (kept ++ x ∷ []) ≡ after_item (after_items c kept) x
after_one c [] x = refl
after_one c (k ∷ kept) x = after_one (after_item c k) kept x

after_more : (c : Context) (kept more : List ItemWords) → after_items c (kept ++ more) ≡ after_items (after_items c kept) more
after_more c [] more = refl
after_more c (k ∷ kept) more = after_more (after_item c k) kept more

behind_more : (items : List Item) (kept more : List ItemWords) → items_behind items (kept ++ more) ≡ items_behind (items_behind items kept) more
behind_more items [] more = refl
behind_more items (k ∷ kept) more = behind_more (items ++ item_of items k) kept more

-- the items of further words
pub further_items : (items : List Item) (xs : List ItemWords) → (more : List Item) × (items_behind items xs ≡ items ++ more)
further_items items [] = ([], sym (append-nil items))
further_items items (x ∷ xs) =
    let f = further_items (items ++ item_of items x) xs in
    (item_of items x ++ f.0, f.1 ∙ append_assoc items (item_of items x) f.0)

-- the items of a model in their canonical spelling
pub items_again : (all : List Item) (c : Context) (items : List Item) (kept xs : List ItemWords) → context_of kept ≡ c → AreNamed c items → EachBehind IsFree kept xs → items_behind items xs ≡ all
    → map (item_words all) all ≡ map (item_words all) items ++ flat_map clean_item xs
items_again all c items kept [] e named h is = ap (map (item_words all)) (sym is) ∙ sym (append-nil (map (item_words all) items))
items_again all c items kept (x ∷ xs) e named h is =
    let free : (item_production c).fault x ≡ None = subst (λ d. (item_production d).fault x ≡ None) e h.0 in
    let next = items ++ item_of items x in
    let f = further_items next xs in
    let whole : (items ++ (item_of items x ++ f.0)) ≡ all = sym (append_assoc items (item_of items x) f.0) ∙ sym f.1 ∙ is in
    let one : map (item_words all) (item_of items x) ≡ clean_item x =
    subst (λ a. map (item_words a) (item_of items x) ≡ clean_item x) whole (item_again c items (item_of items x ++ f.0) named x free) in
    items_again all (after_item c x) next (kept ++ x ∷ []) xs (after_one nothing kept x ∙ ap (λ d. after_item d x) e) (named_more c items x named) h.1 is
    ∙ ap (λ l. l ++ flat_map clean_item xs) (map-append (item_words all) items (item_of items x))
    ∙ append_assoc (map (item_words all) items) (map (item_words all) (item_of items x)) (flat_map clean_item xs)
    ∙ ap (λ l. map (item_words all) items ++ (l ++ flat_map clean_item xs)) one

-- they declare the same
pub context_again : (c : Context) (xs : List ItemWords) → after_items c (flat_map clean_item xs) ≡ after_items c xs
context_again c [] = refl
context_again c (x ∷ xs) = after_more c (clean_item x) (flat_map clean_item xs) ∙ ap (λ d. after_items d (flat_map clean_item xs)) (item_after c x) ∙ context_again (after_item c x) xs

-- they are the same
pub behind_again : (items : List Item) (xs : List ItemWords) → items_behind items (flat_map clean_item xs) ≡ items_behind items xs
behind_again items [] = refl
behind_again items (x ∷ xs) =
    behind_more items (clean_item x) (flat_map clean_item xs) ∙ ap (λ d. items_behind d (flat_map clean_item xs)) (item_same items x) ∙ behind_again (items ++ item_of items x) xs

-- the names of all items
pub all_named : (c : Context) (items : List Item) (xs : List ItemWords) → AreNamed c items → AreNamed (after_items c xs) (items_behind items xs)
all_named c items [] named = named
all_named c items (x ∷ xs) named = all_named (after_item c x) (items ++ item_of items x) xs (named_more c items x named)

-- a list in front of whose items others may stand
free_front : (c : Context) (kept ys zs : List ItemWords) → (context_of kept ≡ c) → Each (λ y. (item_production c).fault y ≡ None) ys → (ys ≡ []) ⊎ ((y : ItemWords) × (ys ≡ y ∷ []))
    → EachBehind IsFree (kept ++ ys) zs → EachBehind IsFree kept (ys ++ zs)
free_front c kept ys zs e h (inl none) more =
    subst (λ l. EachBehind IsFree (kept ++ l) zs → EachBehind IsFree kept (l ++ zs)) (sym none) (λ m. subst (λ k. EachBehind IsFree k zs) (append-nil kept) m) more
free_front c kept ys zs e h (inr one) more =
    let first : (item_production c).fault one.0 ≡ None = (subst (Each (λ y. (item_production c).fault y ≡ None)) one.1 h).0 in
    subst (λ l. EachBehind IsFree (kept ++ l) zs → EachBehind IsFree kept (l ++ zs)) (sym one.1) (λ m. (subst (λ d. (item_production d).fault one.0 ≡ None) (sym e) first, m)) more

-- an item has one canonical spelling at most
pub few : (x : ItemWords) → (clean_item x ≡ []) ⊎ ((y : ItemWords) × (clean_item x ≡ y ∷ []))
few (inl p) = inl refl
few (inr (inl i)) = inr (_, refl)
few (inr (inr (inl b))) = inr (_, refl)
few (inr (inr (inr (inl s)))) = inr (_, refl)
few (inr (inr (inr (inr (inl a))))) = inr (_, refl)
few (inr (inr (inr (inr (inr v))))) = inr (_, refl)

-- no test refuses them
pub free_again : (c : Context) (kept clean xs : List ItemWords) → context_of kept ≡ c → context_of clean ≡ c → EachBehind IsFree kept xs → EachBehind IsFree clean (flat_map clean_item xs)
free_again c kept clean [] e f h = tt
free_again c kept clean (x ∷ xs) e f h =
    let free : (item_production c).fault x ≡ None = subst (λ d. (item_production d).fault x ≡ None) e h.0 in
    free_front c clean (clean_item x) (flat_map clean_item xs) f (item_none c x free) (few x)
    (free_again (after_item c x) (kept ++ x ∷ []) (clean ++ clean_item x) xs
    (after_one nothing kept x ∙ ap (λ d. after_item d x) e)
    (after_more nothing clean (clean_item x) ∙ ap (λ d. after_items d (clean_item x)) f ∙ item_after c x) h.1)
