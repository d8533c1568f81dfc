-- An array behind the items.
use Rattle.std.proofs.Common.{◌≡◌, ℕ, ◌+◌, Bool, true, false, if◌then◌else◌, ◌⊎◌, inl, inr, Option, Some, None, List, [], ◌∷◌, ◌++◌, length, ℤ, not, refl, sym, subst}
use Rattle.fz_token.specs.declared.Keyword.TheVariants as key
use Rattle.dp_grammar.specs.Brackets.{Plain, Closes}
use Rattle.dp_grammar.specs.Chain.{behind_mark, chain}
use Rattle.dp_grammar.specs.Choice.{either}
use Rattle.dp_grammar.specs.Leaf.{tested_mark}
use Rattle.dp_grammar.specs.Listed.{Listing}
use Rattle.fz_model.specs.Annotations.{Annotated, annotated}
use Rattle.fz_model.specs.Arrays.{array_item, array_size, constant_element, constants, elements_end, is_bools, is_in, notes_test, size_test, type_test, variable_element, variables}
use Rattle.fz_model.specs.Context.{BasicText, Context, bool_const_test, bool_test, const_test, fresh, int_test, with_elements}
use Rattle.fz_model.specs.Items.{IntText, TypeWords, array_literal, basic, defined, domain_test, is_bool_type, parameter, type_elements}
use Rattle.fz_model.specs.Limits.{beyond_small, no_test, refuse_if}
use Rattle.fz_model.specs.Literals.{name, var_type}
use Rattle.fz_model.specs.Marks.{is_close, is_key, is_stop, keyword, stop}
use Rattle.fz_model.specs.ModelText.{ArrayWords, after_array, array_of, bool_constant, closing, int_constant}
use Rattle.fz_model.specs.Models.{array_item_of, count_variables, elements_of, notes_of, output_of, type_of}
use Rattle.fz_model.specs.Words.{Comma, Colon, Semicolon, Square, Stop, Word}
use Rattle.fz_model.specs.declared.fault.Fault.{Fault}
use Rattle.fz_model.specs.declared.fault.Fault.TheVariants.{Kind}
use Rattle.fz_model.specs.declared.meant.Meant.{Meant}
use Rattle.fz_model.specs.declared.model.Basic.{Basic}
use Rattle.fz_model.specs.declared.model.Item.{Item}
use Rattle.fz_model.specs.declared.model.Item.TheVariants as item
use Rattle.fz_model.specs.declared.model.VarType.{VarType}
use Rattle.fz_sat.specs.Args.{term_of}
use Rattle.fz_facts.specs.Facts.{IsElement, IsSmallType}
use Rattle.fz_facts.proofs.Elements.{AreFree, each_element, meant_elements, placed_elements}
use Rattle.fz_facts.proofs.Faults.{annotated_end, before_parts, chain_parts, listed_parts}
use Rattle.fz_facts.proofs.Shown.{IsBoolOf, IsIntOf, IsRight, Means, Stated}
use Rattle.fz_facts.proofs.SmallTypes.{small_type}
use Rattle.fz_facts.proofs.Steps.{IsPlain, plain_step}
use Rattle.fz_facts.proofs.Tested.{bool_const_stated, bool_stated, const_stated, element, int_stated}

abbrev listing : (List BasicText → BasicText → Option Fault) → (List BasicText → Option Fault) → Listing Word Fault BasicText
listing element close = record {
  is_separator = is_stop Comma;
  separator = Plain (Stop Comma);
  is_close = is_close Square;
  item = λ kept. basic (element kept);
  close = λ kept. tested_mark (is_close Square) (Closes Square) (close kept);
}

abbrev Texts : Type 0
Texts = List ℕ × Annotated (List BasicText)

-- ---- arrays of constants

abbrev const_kind : Bool → Meant → Option Fault
const_kind bools = if bools then bool_const_test else const_test no_test

constants_free : (c : Context) (size : Bool × IntText) (a : (Unit {0} ⊎ Unit {0}) × Texts) → (array_item c).fault (size, inr a) ≡ None
    → AreFree c c.elements (const_kind (is_bools a.0)) [] (closing a.1.1)
constants_free c size a e =
    let element = constant_element c (is_bools a.0) in
    let literal = array_literal element (size_test size.1) in
    let p = chain_parts array_size (λ s. behind_mark (keyword key.Of) (either (is_key key.Var) (variables c s.1) (constants c s.1))) (size, inr a) e in
    let q = chain_parts (either (is_key key.Bool) (keyword key.Bool) (keyword key.Int)) (λ k. parameter c (array_literal (constant_element c (is_bools k)) (size_test size.1))) a p.1 in
    let r = chain_parts (name (fresh c)) (λ bytes. annotated (λ notes. defined literal)) a.1 q.1 in
    let s = annotated_end (λ notes. defined literal) a.1.1 r.1 in
    let t = before_parts literal (stop Semicolon) (closing a.1.1) s.1 in
    (listed_parts (listing element (size_test size.1)) (closing a.1.1) t.0).0

bool_const : (items : List Item) (m : Meant) (b : Basic) → bool_const_test m ≡ None → Stated items m b → IsBoolOf items (bool_constant (Some m)) b
bool_const items m b e s =
    let k = bool_const_stated items b m e s in
    subst (λ n. IsBoolOf items (bool_constant (Some n)) b) (sym k.1) k.2

int_const : (items : List Item) (m : Meant) (b : Basic) → const_test no_test m ≡ None → Stated items m b → IsIntOf items (int_constant (Some m)) b
int_const items m b e s =
    let k = const_stated items b no_test m e s in
    subst (λ n. IsIntOf items (int_constant (Some n)) b) (sym k.1) k.3

plain_consts : (bytes : List ℕ) (bools : Bool) (elements : List Basic) → IsPlain (item.Consts bytes bools elements)
plain_consts bytes bools elements = record { own = λ items. refl; declares = λ x. refl; nameless = refl; numbered = λ items n. tt }

constants_step : (c : Context) (items : List Item) → IsRight c items → (size : Bool × IntText) (a : (Unit {0} ⊎ Unit {0}) × Texts) → (array_item c).fault (size, inr a) ≡ None
    → IsRight (after_array c (size, inr a)) (items ++ array_item_of items (size, inr a) ∷ [])
constants_step c items right size (inl bool, rest) e =
    let texts = closing rest.1 in
    let free = constants_free c size (inl bool, rest) e in
    plain_step c items (item.Consts rest.0 true (elements_of items texts)) (array_of c true true texts) (c.elements + length texts) (plain_consts rest.0 true (elements_of items texts)) right
    (record {
      name = refl;
      spelled = tt;
      placed = placed_elements c items right c.elements bool_const_test texts free;
      means = meant_elements c items right c.elements bool_const_test texts free (IsBoolOf items) bool_constant (bool_const items);
      declared = tt;
    })
constants_step c items right size (inr int, rest) e =
    let texts = closing rest.1 in
    let free = constants_free c size (inr int, rest) e in
    plain_step c items (item.Consts rest.0 false (elements_of items texts)) (array_of c false true texts) (c.elements + length texts) (plain_consts rest.0 false (elements_of items texts)) right
    (record {
      name = refl;
      spelled = tt;
      placed = placed_elements c items right c.elements (const_test no_test) texts free;
      means = meant_elements c items right c.elements (const_test no_test) texts free (IsIntOf items) int_constant (int_const items);
      declared = tt;
    })

-- ---- arrays of variables

variables_free : (c : Context) (size : Bool × IntText) (a : TypeWords × Texts) → (array_item c).fault (size, inl a) ≡ None
    → IsSmallType (type_of a.0) × AreFree c (c.elements + type_elements a.0) (type_test a.0) [] (closing a.1.1)
variables_free c size a e =
    let counts = with_elements c (type_elements a.0) in
    let end = elements_end counts size.1 a.0 in
    let element = variable_element counts a.0 in
    let literal = array_literal element (size_test size.1) in
    let p = chain_parts array_size (λ s. behind_mark (keyword key.Of) (either (is_key key.Var) (variables c s.1) (constants c s.1))) (size, inl a) e in
    let q = chain_parts (var_type (domain_test c) beyond_small) (λ t. behind_mark (stop Colon) (chain (name (fresh c)) (λ bytes. annotated (elements_end (with_elements c (type_elements t)) size.1 t)))) a p.1 in
    let r = chain_parts (name (fresh c)) (λ bytes. annotated end) a.1 q.1 in
    let s = annotated_end end a.1.1 r.1 in
    let t = before_parts literal (tested_mark (is_stop Semicolon) (Plain (Stop Semicolon)) (notes_test size.1 s.0)) (closing a.1.1) s.1 in
    (small_type c a.0 q.0, (listed_parts (listing element (size_test size.1)) (closing a.1.1) t.0).0)

plain_vars : (bytes : List ℕ) (kind : VarType) (output : Option (List (ℤ × ℤ))) (elements : List Basic) → IsPlain (item.Vars bytes kind output elements)
plain_vars bytes kind output elements = record { own = λ items. refl; declares = λ x. refl; nameless = refl; numbered = λ items n. tt }

abbrev vars : List Item → List ℕ → TypeWords → Option (List (ℤ × ℤ)) → List BasicText → Item
vars items bytes t output texts = item.Vars bytes (type_of t) output (elements_of items texts)

vars_mean : (c : Context) (items : List Item) → IsRight c items → (n : ℕ) (bytes : List ℕ) (t : TypeWords) (output : Option (List (ℤ × ℤ))) (texts : List BasicText)
    → AreFree c n (type_test t) [] texts → Means items (array_of c (is_bool_type t) false texts) (vars items bytes t output texts)
vars_mean c items right n bytes (inl bool) output texts free =
    meant_elements c items right n bool_test texts free (IsBoolOf items) bool_constant (λ m b e s. bool_stated items b m e s)
vars_mean c items right n bytes (inr (inl int)) output texts free =
    meant_elements c items right n (int_test no_test) texts free (IsIntOf items) int_constant (λ m b e s. int_stated items b no_test m e s)
vars_mean c items right n bytes (inr (inr set)) output texts free =
    meant_elements c items right n (type_test (inr (inr set))) texts free (IsIntOf items) int_constant
    (λ m b e s. int_stated items b (λ v. refuse_if (not (is_in set v)) Kind) m e s)

variables_step : (c : Context) (items : List Item) → IsRight c items → (size : Bool × IntText) (a : TypeWords × Texts) → (array_item c).fault (size, inl a) ≡ None
    → IsRight (after_array c (size, inl a)) (items ++ array_item_of items (size, inl a) ∷ [])
variables_step c items right size a e =
    let texts = closing a.1.1 in
    let output = output_of (notes_of a.1.1) in
    let n = c.elements + type_elements a.0 in
    let p = variables_free c size a e in
    plain_step c items (vars items a.1.0 a.0 output texts) (array_of c (is_bool_type a.0) false texts) (c.elements + (type_elements a.0 + length texts))
    (plain_vars a.1.0 (type_of a.0) output (elements_of items texts)) right
    (record {
      name = refl;
      spelled = tt;
      placed = placed_elements c items right n (type_test a.0) texts p.1;
      means = vars_mean c items right n a.1.0 a.0 output texts p.1;
      declared = (
        p.0,
        each_element c items right n (type_test a.0) texts p.1
            (λ b. IsElement (count_variables items) (type_of a.0) (term_of items b)) (λ m b f s. element items b a.0 m f s),
      );
    })

-- ---- both

pub array_step : (c : Context) (items : List Item) → IsRight c items → (w : ArrayWords) → (array_item c).fault w ≡ None
    → IsRight (after_array c w) (items ++ array_item_of items w ∷ [])
array_step c items right (size, inl a) e = variables_step c items right size a e
array_step c items right (size, inr a) e = constants_step c items right size a e
