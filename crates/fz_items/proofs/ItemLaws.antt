-- What the code reads of arrays, variables and predicates is what the grammar reads of them.
use Rattle.std.proofs.Common.{◌≡◌, ℕ, ◌+◌, Bool, true, false, if◌then◌else◌, ◌⊎◌, inl, inr, List, [], ◌∷◌, ◌++◌, length, map, Option, Some, ℤ, refl, ap, sym, ◌∙◌, add_assoc}
use Rattle.std.specs.Prelude.{codes}
use Rattle.std.proofs.lemmas.List.{append-nil}
use Rattle.fz_token.specs.declared.Keyword.TheVariants as key
use Rattle.dp_grammar.specs.Chain.{followed, mapped, chain, behind_mark, before_mark}
use Rattle.dp_grammar.specs.Choice.{begins, either, read_either}
use Rattle.dp_grammar.specs.Grammar.{Reading, Takes, Stops}
use Rattle.fz_model.specs.Annotations.{Annotation, Annotated, Balanced, Close, annotated, balanced}
use Rattle.fz_model.specs.Arrays.{array_item, array_size, constant_element, constants, elements_end, is_bools, size_test, variable_element, variables}
use Rattle.fz_model.specs.Context.{Context, BasicText, Truth, Whole, Name, fresh, fresh_variable, with_elements}
use Rattle.fz_model.specs.Items.{IntText, TypeWords, array_literal, bool_item, domain_test, int_item, is_bool_type, parameter, set_item, truth, type_elements, variable_end, variable_item}
use Rattle.fz_model.specs.Limits.{beyond_small, no_test}
use Rattle.fz_model.specs.Literals.{integer, name, var_type}
use Rattle.fz_model.specs.Marks.{Production, is_key, is_stop, keyword, opens, stop}
use Rattle.dp_grammar.specs.Leaf.{tested_mark}
use Rattle.dp_grammar.specs.Brackets.{Plain}
use Rattle.fz_model.specs.ModelText.{ArrayWords, VariableWords, array_of, closing, declares, item, predicate_item}
use Rattle.fz_model.specs.Models.{basic_of_text, definition_of, elements_of, is_noted, name_of_item, notes_of, number_of, output_of, type_of}
use Rattle.fz_model.specs.declared.fault.Fault.{Fault}
use Rattle.fz_model.specs.declared.meant.Meant.TheVariants.{IntVar, BoolVar}
use Rattle.fz_model.specs.declared.model.Basic.{Basic}
use Rattle.fz_model.specs.declared.model.Item.{Item}
use Rattle.fz_model.specs.declared.model.Item.TheVariants as kept
use Rattle.fz_model.specs.Words.{Colon, Equals, Round, Semicolon, Stop, Word}
use Rattle.fz_model.proofs.AnnotationLaws.{IsClose}
use Rattle.fz_model.proofs.ArrayLaws.{elements_end_lawful}
use Rattle.fz_model.proofs.ItemLaws.{array_literal_lawful, no_args, no_second, variable_end_lawful}
use Rattle.fz_names.specs.Counts.{with_variable}
use Rattle.fz_items.specs.Arrays.{Shape, array_behind, elements_shut}
use Rattle.fz_items.specs.ItemReads.{array_told, item_told, predicate_read, vars_told}
use Rattle.fz_items.specs.Notes.{Seen, closing_all, nothing_of, notes, seen_in, seen_of}
use Rattle.fz_items.specs.Parameters.{consts_read, parameter_read, set_read}
use Rattle.fz_items.specs.Places.{basic_in, names_in}
use Rattle.fz_items.specs.States.{State, bool_effect, consts_effect, int_effect, set_effect, definition_in, effect, shown_ranges, variable_effect, vars_effect, with_count}
use Rattle.fz_items.specs.Variables.{Variable, variable_read}
use Rattle.fz_items.proofs.Annotated.{annotated_reads}
use Rattle.fz_items.proofs.ItemReads.{bool_item_reads, defined_closes, from_array, from_bool, from_int, from_set, first_is, int_item_reads, named_closing, parameter_reads, second_is, set_item_reads}
use Rattle.fz_items.proofs.SeenLaws.{output_seen, test_seen, var_seen}

-- ---- how a reading goes on

forget : {X : Type 0} (r : Reading Word Fault X) (u : Unit {0}) → mapped (λ (p : Unit {0} × X). p.1) (mapped (λ y. let p : Unit {0} × X = (u, y) in p) r) ≡ r
forget (Takes x rest) u = refl
forget (Stops cause rest) u = refl

past_mark : {X : Type 0} (r : Reading Word Fault (Unit {0})) (g : Production X) → mapped (λ (p : Unit {0} × X). p.1) (followed r (λ u rest. mapped (λ y. let p : Unit {0} × X = (u, y) in p) (g.read rest))) ≡ followed r (λ u rest. g.read rest)
past_mark (Takes u rest) g = forget (g.read rest) u
past_mark (Stops cause rest) g = refl

behind_reads : {X : Type 0} (m : Production (Unit {0})) (g : Production X) (text : List Word) → (behind_mark m g).read text ≡ followed (m.read text) (λ u rest. g.read rest)
behind_reads m g text = past_mark (m.read text) g

mapped_twice : {X Y Z : Type 0} (f : Y → Z) (g : X → Y) (r : Reading Word Fault X) → mapped f (mapped g r) ≡ mapped (λ x. f (g x)) r
mapped_twice f g (Takes x rest) = refl
mapped_twice f g (Stops cause rest) = refl

mapped_followed : {X Y Z : Type 0} (f : Y → Z) (r : Reading Word Fault X) (k : X → List Word → Reading Word Fault Y) → mapped f (followed r k) ≡ followed r (λ x rest. mapped f (k x rest))
mapped_followed f (Takes x rest) k = refl
mapped_followed f (Stops cause rest) k = refl

followed_same : {X Y : Type 0} (r : Reading Word Fault X) (k l : X → List Word → Reading Word Fault Y) → ((x : X) (rest : List Word) → k x rest ≡ l x rest) → followed r k ≡ followed r l
followed_same (Takes x rest) k l h = h x rest
followed_same (Stops cause rest) k l h = refl

followed_twice : {X Y Z : Type 0} (r : Reading Word Fault X) (f : X → List Word → Reading Word Fault Y) (g : Y → List Word → Reading Word Fault Z) → followed (followed r f) g ≡ followed r (λ x rest. followed (f x rest) g)
followed_twice (Takes x rest) f g = refl
followed_twice (Stops cause rest) f g = refl

followed_mapped : {X Y Z : Type 0} (f : X → Y) (r : Reading Word Fault X) (k : Y → List Word → Reading Word Fault Z) → followed (mapped f r) k ≡ followed r (λ x rest. k (f x) rest)
followed_mapped f (Takes x rest) k = refl
followed_mapped f (Stops cause rest) k = refl

chosen : {X Y Z : Type 0} (f : X ⊎ Y → Z) (b : Bool) (r : Reading Word Fault X) (s : Reading Word Fault Y) → mapped f (if b then mapped inl r else mapped inr s) ≡ (if b then mapped (λ x. f (inl x)) r else mapped (λ y. f (inr y)) s)
chosen f true r s = mapped_twice f inl r
chosen f false r s = mapped_twice f inr s

-- ---- parameters

closed_seen : {C : Type 0} (x : Annotated C) → closing x ≡ (seen_of x).1
closed_seen (inl p) = refl
closed_seen (inr c) = refl

mapped_same : {X Y : Type 0} (f g : X → Y) (r : Reading Word Fault X) → ((x : X) → f x ≡ g x) → mapped f r ≡ mapped g r
mapped_same f g (Takes x rest) h = ap (λ y. Takes y rest) (h x)
mapped_same f g (Stops cause rest) h = refl

-- what the close reads, where the annotations are seen as they are read
closing_read : {C Z : Type 0} (close : Close C) → IsClose close → (shut : Seen → Production C) → ((ns : List Annotation) → close ns ≡ shut (seen_in ns)) → (f : Annotated C → Z) (g : Seen × C → Z) → ((x : Annotated C) → f x ≡ g (seen_of x)) → (text : List Word)
    → mapped f ((annotated close).read text) ≡ followed (notes text) (λ seen rest. mapped (λ c. g (seen, c)) ((shut seen).read rest))
closing_read {C} {Z} close is shut looks f g same text =
    mapped_same f (λ x. g (seen_of x)) ((annotated close).read text) same
    ∙ sym (mapped_twice g seen_of ((annotated close).read text))
    ∙ ap (mapped g) (annotated_reads close is shut looks text)
    ∙ mapped_followed g (notes text) (λ seen rest. mapped (λ c. let p : Seen × C = (seen, c) in p) ((shut seen).read rest))
    ∙ followed_same (notes text) (λ seen rest. mapped g (mapped (λ c. let p : Seen × C = (seen, c) in p) ((shut seen).read rest))) (λ seen rest. mapped (λ c. g (seen, c)) ((shut seen).read rest))
    (λ seen rest. mapped_twice g (λ c. let p : Seen × C = (seen, c) in p) ((shut seen).read rest))

-- ---- places

basic_same : (items : List Item) (t : BasicText) → basic_in (map name_of_item items) t ≡ basic_of_text items t
basic_same items (Truth value) = refl
basic_same items (Whole value dotted) = refl
basic_same items (Name bytes) = refl

all_same : (items : List Item) (ts : List BasicText) → map (basic_in (map name_of_item items)) ts ≡ elements_of items ts
all_same items [] = refl
all_same items (t ∷ ts) = ap (λ (b : Basic). b ∷ map (basic_in (map name_of_item items)) ts) (basic_same items t) ∙ ap (λ (bs : List Basic). basic_of_text items t ∷ bs) (all_same items ts)

elements_same : (s : State) → names_in s.context ≡ map name_of_item s.items → (ts : List BasicText) → elements_of s.items ts ≡ map (basic_in (names_in s.context)) ts
elements_same s named ts = sym (ap (λ (names : List (List ℕ)). map (basic_in names) ts) named ∙ all_same s.items ts)

definition_same : (s : State) → names_in s.context ≡ map name_of_item s.items → (x : BasicText ⊎ Unit {0}) → definition_of s.items x ≡ definition_in (names_in s.context) x
definition_same s named (inl t) = ap (λ (b : Basic). Some b) (sym (ap (λ (names : List (List ℕ)). basic_in names t) named ∙ basic_same s.items t))
definition_same s named (inr u) = refl

-- ---- an array of constants

consts_state : (s : State) → names_in s.context ≡ map name_of_item s.items → (size : Bool × IntText) (p : (Unit {0} ⊎ Unit {0}) × (List ℕ × Annotated (List BasicText)))
    → effect s (inr (inr (inr (inr (inl (size, inr p)))))) ≡ consts_effect s (is_bools p.0, named_closing p.1)
consts_state s named size (inl bool, p) = ap (λ (es : List Basic). with_count (record { context = declares s.context p.0 (array_of s.context true true (closing p.1)); items = s.items ++ kept.Consts p.0 true es ∷ [] }) (length (closing p.1))) (elements_same s named (closing p.1))
consts_state s named size (inr int, p) = ap (λ (es : List Basic). with_count (record { context = declares s.context p.0 (array_of s.context false true (closing p.1)); items = s.items ++ kept.Consts p.0 false es ∷ [] }) (length (closing p.1))) (elements_same s named (closing p.1))

abbrev kinds : Production (Unit {0} ⊎ Unit {0})
kinds = either (is_key key.Bool) (keyword key.Bool) (keyword key.Int)

abbrev const_array : Context → IntText → Unit {0} ⊎ Unit {0} → Production (List BasicText)
const_array context size kind = array_literal (constant_element context (is_bools kind)) (size_test size)

at_kind : (s : State) → names_in s.context ≡ map name_of_item s.items → (size : Bool × IntText) (r : Reading Word Fault (Unit {0} ⊎ Unit {0}))
    → mapped (λ p. effect s (inr (inr (inr (inr (inl (size, inr p))))))) (followed r (λ kind rest. mapped (λ y. let p : (Unit {0} ⊎ Unit {0}) × (List ℕ × Annotated (List BasicText)) = (kind, y) in p) ((parameter s.context (const_array s.context size.1 kind)).read rest)))
    ≡ mapped (consts_effect s) (followed r (λ kind left. mapped (λ p. let q : Bool × (List ℕ × List BasicText) = (is_bools kind, p) in q) (parameter_read s.context (const_array s.context size.1 kind) left)))
at_kind s named size (Takes kind rest) =
    let f = λ (p : (Unit {0} ⊎ Unit {0}) × (List ℕ × Annotated (List BasicText))). effect s (inr (inr (inr (inr (inl (size, inr p)))))) in
    let g = const_array s.context size.1 kind in
    mapped_twice f (λ y. let p : (Unit {0} ⊎ Unit {0}) × (List ℕ × Annotated (List BasicText)) = (kind, y) in p) ((parameter s.context g).read rest)
    ∙ mapped_same (λ (y : List ℕ × Annotated (List BasicText)). f (kind, y)) (λ y. consts_effect s (is_bools kind, named_closing y)) ((parameter s.context g).read rest) (λ y. consts_state s named size (kind, y))
    ∙ sym (mapped_twice (λ (q : List ℕ × List BasicText). consts_effect s (is_bools kind, q)) named_closing ((parameter s.context g).read rest))
    ∙ ap (mapped (λ (q : List ℕ × List BasicText). consts_effect s (is_bools kind, q)))
    (parameter_reads s.context g (defined_closes g (array_literal_lawful (constant_element s.context (is_bools kind)) (size_test size.1))) rest)
    ∙ sym (mapped_twice (consts_effect s) (λ p. let q : Bool × (List ℕ × List BasicText) = (is_bools kind, p) in q) (parameter_read s.context g rest))
at_kind s named size (Stops cause rest) = refl

consts_reads : (s : State) → names_in s.context ≡ map name_of_item s.items → (size : Bool × IntText) (text : List Word)
    → mapped (λ p. effect s (inr (inr (inr (inr (inl (size, inr p))))))) ((constants s.context size.1).read text) ≡ mapped (consts_effect s) (consts_read s.context size.1 text)
consts_reads s named size text = at_kind s named size (kinds.read text)

-- ---- an array of variables

shown_same : {C : Type 0} (x : Annotated C) → output_of (notes_of x) ≡ shown_ranges (seen_of x).0.array
shown_same (inl p) = output_seen (p.0 ++ p.1.0 ∷ [])
shown_same (inr c) = refl

vars_state : (s : State) → names_in s.context ≡ map name_of_item s.items → (size : Bool × IntText) (type : TypeWords) (bytes : List ℕ) (x : Annotated (List BasicText))
    → effect s (inr (inr (inr (inr (inl (size, inl (type, (bytes, x)))))))) ≡ vars_effect (with_count s (type_elements type)) type (bytes, ((seen_of x).0.array, (seen_of x).1))
vars_state s named size type bytes x =
    let made : ℕ → Option (List (ℤ × ℤ)) → List Basic → State = λ n shown es. record {
      context = record (declares s.context bytes (array_of s.context (is_bool_type type) false (closing x))) { elements = n };
      items = s.items ++ kept.Vars bytes (type_of type) shown es ∷ [];
    } in
    ap (λ (n : ℕ). made n (output_of (notes_of x)) (elements_of s.items (closing x))) (sym (add_assoc s.context.elements (type_elements type) (length (closing x))))
    ∙ ap (λ (shown : Option (List (ℤ × ℤ))). made (s.context.elements + type_elements type + length (closing x)) shown (elements_of s.items (closing x))) (shown_same x)
    ∙ ap (made (s.context.elements + type_elements type + length (closing x)) (shown_ranges (seen_of x).0.array)) (elements_same s named (closing x))
    ∙ ap (λ (es : List BasicText). vars_effect (with_count s (type_elements type)) type (bytes, ((seen_of x).0.array, es))) (closed_seen x)

elements_close : (context : Context) (size : IntText) (type : TypeWords) → IsClose (elements_end context size type)
elements_close context size type = record { lawful = elements_end_lawful context size type; no_more = λ notes c. refl; no_args = λ notes c. refl }

elements_look : (context : Context) (size : IntText) (type : TypeWords) (ns : List Annotation) → elements_end context size type ns ≡ elements_shut context size type (seen_in ns).array
elements_look context size type ns =
    ap (λ (o : Option Fault). behind_mark (stop Equals) (before_mark (array_literal (variable_element context type) (size_test size)) (tested_mark (is_stop Semicolon) (Plain (Stop Semicolon)) o))) (test_seen size ns)

vars_named : (s : State) → names_in s.context ≡ map name_of_item s.items → (size : Bool × IntText) (type : TypeWords) (r : Reading Word Fault (List ℕ))
    → mapped (λ y. effect s (inr (inr (inr (inr (inl (size, inl (type, y)))))))) (followed r (λ bytes rest. mapped (λ y. let p : List ℕ × Annotated (List BasicText) = (bytes, y) in p) ((annotated (elements_end (with_elements s.context (type_elements type)) size.1 type)).read rest)))
    ≡ mapped (vars_effect (with_count s (type_elements type)) type) (followed r (λ bytes left. followed (notes left) (λ seen left. mapped (λ elements. let v : Shape = (bytes, (seen.array, elements)) in v) ((elements_shut (with_elements s.context (type_elements type)) size.1 type seen.array).read left))))
vars_named s named size type (Takes bytes rest) =
    let context = with_elements s.context (type_elements type) in
    let f = λ (y : List ℕ × Annotated (List BasicText)). effect s (inr (inr (inr (inr (inl (size, inl (type, y))))))) in
    let told = vars_effect (with_count s (type_elements type)) type in
    mapped_twice f (λ y. let p : List ℕ × Annotated (List BasicText) = (bytes, y) in p) ((annotated (elements_end context size.1 type)).read rest)
    ∙ closing_read (elements_end context size.1 type) (elements_close context size.1 type) (λ seen. elements_shut context size.1 type seen.array) (elements_look context size.1 type) (λ x. f (bytes, x)) (λ q. told (bytes, (q.0.array, q.1))) (λ x. vars_state s named size type bytes x) rest
    ∙ followed_same (notes rest) (λ seen rest. mapped (λ es. told (bytes, (seen.array, es))) ((elements_shut context size.1 type seen.array).read rest)) (λ seen rest. mapped told (mapped (λ elements. let v : Shape = (bytes, (seen.array, elements)) in v) ((elements_shut context size.1 type seen.array).read rest)))
    (λ seen rest. sym (mapped_twice told (λ elements. let v : Shape = (bytes, (seen.array, elements)) in v) ((elements_shut context size.1 type seen.array).read rest)))
    ∙ sym (mapped_followed told (notes rest) (λ seen left. mapped (λ elements. let v : Shape = (bytes, (seen.array, elements)) in v) ((elements_shut context size.1 type seen.array).read left)))
vars_named s named size type (Stops cause rest) = refl

vars_colon : (s : State) → names_in s.context ≡ map name_of_item s.items → (size : Bool × IntText) (type : TypeWords) (r : Reading Word Fault (Unit {0}))
    → mapped (λ y. effect s (inr (inr (inr (inr (inl (size, inl (type, y)))))))) (followed r (λ u rest. (chain (name (fresh s.context)) (λ bytes. annotated (elements_end (with_elements s.context (type_elements type)) size.1 type))).read rest))
    ≡ mapped (vars_effect (with_count s (type_elements type)) type) (followed r (λ u left. followed ((name (fresh s.context)).read left) (λ bytes left. followed (notes left) (λ seen left. mapped (λ elements. let v : Shape = (bytes, (seen.array, elements)) in v) ((elements_shut (with_elements s.context (type_elements type)) size.1 type seen.array).read left)))))
vars_colon s named size type (Takes u rest) = vars_named s named size type ((name (fresh s.context)).read rest)
vars_colon s named size type (Stops cause rest) = refl

vars_type : (s : State) → names_in s.context ≡ map name_of_item s.items → (size : Bool × IntText) (r : Reading Word Fault TypeWords)
    → mapped (λ a. effect s (inr (inr (inr (inr (inl (size, inl a))))))) (followed r (λ type rest. mapped (λ y. let p : TypeWords × (List ℕ × Annotated (List BasicText)) = (type, y) in p)
    ((behind_mark (stop Colon) (chain (name (fresh s.context)) (λ bytes. annotated (elements_end (with_elements s.context (type_elements type)) size.1 type)))).read rest)))
    ≡ followed r (λ type left. mapped (vars_effect (with_count s (type_elements type)) type) (array_behind (with_elements s.context (type_elements type)) size.1 type left))
vars_type s named size (Takes type rest) =
    let f = λ (a : TypeWords × (List ℕ × Annotated (List BasicText))). effect s (inr (inr (inr (inr (inl (size, inl a)))))) in
    let g = chain (name (fresh s.context)) (λ bytes. annotated (elements_end (with_elements s.context (type_elements type)) size.1 type)) in
    mapped_twice f (λ y. let p : TypeWords × (List ℕ × Annotated (List BasicText)) = (type, y) in p) ((behind_mark (stop Colon) g).read rest)
    ∙ ap (mapped (λ y. f (type, y))) (behind_reads (stop Colon) g rest)
    ∙ vars_colon s named size type ((stop Colon).read rest)
vars_type s named size (Stops cause rest) = refl

abbrev var_array : Context → IntText → Production (TypeWords × (List ℕ × Annotated (List BasicText)))
var_array context size = chain (var_type (domain_test context) beyond_small) (λ type. behind_mark (stop Colon) (chain (name (fresh context)) (λ bytes. annotated (elements_end (with_elements context (type_elements type)) size type))))

vars_key : (s : State) → names_in s.context ≡ map name_of_item s.items → (size : Bool × IntText) (r : Reading Word Fault (Unit {0}))
    → mapped (λ a. effect s (inr (inr (inr (inr (inl (size, inl a))))))) (followed r (λ u rest. (var_array s.context size.1).read rest))
    ≡ followed (followed r (λ u left. (var_type (domain_test s.context) beyond_small).read left)) (λ type left. mapped (vars_effect (with_count s (type_elements type)) type) (array_behind (with_elements s.context (type_elements type)) size.1 type left))
vars_key s named size (Takes u rest) = vars_type s named size ((var_type (domain_test s.context) beyond_small).read rest)
vars_key s named size (Stops cause rest) = refl

vars_reads : (s : State) → names_in s.context ≡ map name_of_item s.items → (size : Bool × IntText) (text : List Word)
    → mapped (λ a. effect s (inr (inr (inr (inr (inl (size, inl a))))))) ((variables s.context size.1).read text) ≡ vars_told s size.1 text
vars_reads s named size text =
    ap (mapped (λ (a : TypeWords × (List ℕ × Annotated (List BasicText))). effect s (inr (inr (inr (inr (inl (size, inl a)))))))) (behind_reads (keyword key.Var) (var_array s.context size.1) text)
    ∙ vars_key s named size ((keyword key.Var).read text)

-- ---- an array

abbrev either_array : Context → IntText → Production ((TypeWords × (List ℕ × Annotated (List BasicText))) ⊎ ((Unit {0} ⊎ Unit {0}) × (List ℕ × Annotated (List BasicText))))
either_array context size = either (is_key key.Var) (variables context size) (constants context size)

which_array : (s : State) → names_in s.context ≡ map name_of_item s.items → (size : Bool × IntText) (rest : List Word) (b : Bool)
    → mapped (λ a. effect s (inr (inr (inr (inr (inl (size, a))))))) (read_either b (variables s.context size.1) (constants s.context size.1) rest)
    ≡ (if b then vars_told s size.1 rest else mapped (consts_effect s) (consts_read s.context size.1 rest))
which_array s named size rest true =
    mapped_twice (λ a. effect s (inr (inr (inr (inr (inl (size, a))))))) inl ((variables s.context size.1).read rest) ∙ vars_reads s named size rest
which_array s named size rest false =
    mapped_twice (λ a. effect s (inr (inr (inr (inr (inl (size, a))))))) inr ((constants s.context size.1).read rest) ∙ consts_reads s named size rest

array_of_key : (s : State) → names_in s.context ≡ map name_of_item s.items → (size : Bool × IntText) (r : Reading Word Fault (Unit {0}))
    → mapped (λ a. effect s (inr (inr (inr (inr (inl a)))))) (mapped (λ y. let p : ArrayWords = (size, y) in p) (followed r (λ u rest. (either_array s.context size.1).read rest)))
    ≡ followed (mapped (λ u. size) r) (λ size left. if begins (is_key key.Var) left then vars_told s size.1 left else mapped (consts_effect s) (consts_read s.context size.1 left))
array_of_key s named size (Takes u rest) =
    mapped_twice (λ (a : ArrayWords). effect s (inr (inr (inr (inr (inl a)))))) (λ y. let p : ArrayWords = (size, y) in p) ((either_array s.context size.1).read rest)
    ∙ which_array s named size rest (begins (is_key key.Var) rest)
array_of_key s named size (Stops cause rest) = refl

array_sized : (s : State) → names_in s.context ≡ map name_of_item s.items → (r : Reading Word Fault (Bool × IntText))
    → mapped (λ a. effect s (inr (inr (inr (inr (inl a)))))) (followed r (λ size rest. mapped (λ y. let p : ArrayWords = (size, y) in p) ((behind_mark (keyword key.Of) (either_array s.context size.1)).read rest)))
    ≡ followed (followed r (λ size left. mapped (λ u. size) ((keyword key.Of).read left))) (λ size left. if begins (is_key key.Var) left then vars_told s size.1 left else mapped (consts_effect s) (consts_read s.context size.1 left))
array_sized s named (Takes size rest) =
    ap (λ (r : Reading Word Fault ((TypeWords × (List ℕ × Annotated (List BasicText))) ⊎ ((Unit {0} ⊎ Unit {0}) × (List ℕ × Annotated (List BasicText))))). mapped (λ (a : ArrayWords). effect s (inr (inr (inr (inr (inl a)))))) (mapped (λ y. let p : ArrayWords = (size, y) in p) r)) (behind_reads (keyword key.Of) (either_array s.context size.1) rest)
    ∙ array_of_key s named size ((keyword key.Of).read rest)
array_sized s named (Stops cause rest) = refl

abbrev sized_array : Context → Production ArrayWords
sized_array context = chain array_size (λ size. behind_mark (keyword key.Of) (either_array context size.1))

array_key : (s : State) → names_in s.context ≡ map name_of_item s.items → (r : Reading Word Fault (Unit {0}))
    → mapped (λ a. effect s (inr (inr (inr (inr (inl a)))))) (followed r (λ u rest. (sized_array s.context).read rest))
    ≡ followed (followed r (λ u left. followed (array_size.read left) (λ size left. mapped (λ u. size) ((keyword key.Of).read left)))) (λ size left. if begins (is_key key.Var) left then vars_told s size.1 left else mapped (consts_effect s) (consts_read s.context size.1 left))
array_key s named (Takes u rest) = array_sized s named (array_size.read rest)
array_key s named (Stops cause rest) = refl

array_reads : (s : State) → names_in s.context ≡ map name_of_item s.items → (text : List Word) → mapped (λ a. effect s (inr (inr (inr (inr (inl a)))))) ((array_item s.context).read text) ≡ array_told s text
array_reads s named text = ap (mapped (λ (a : ArrayWords). effect s (inr (inr (inr (inr (inl a))))))) (behind_reads (keyword key.Array) (sized_array s.context) text) ∙ array_key s named ((keyword key.Array).read text)

-- ---- a variable

noted_same : {C : Type 0} (x : Annotated C) → is_noted (codes "output_var") (notes_of x) ≡ (seen_of x).0.var
noted_same (inl p) = sym (var_seen (p.0 ++ p.1.0 ∷ []))
noted_same (inr c) = refl

variable_state : (s : State) → names_in s.context ≡ map name_of_item s.items → (type : TypeWords) (bytes : List ℕ) (x : Annotated (BasicText ⊎ Unit {0}))
    → effect s (inr (inr (inr (inr (inr (type, (bytes, x))))))) ≡ variable_effect s (type, (bytes, ((seen_of x).0.var, (seen_of x).1)))
variable_state s named type bytes x =
    let made : Bool → Option Basic → State = λ output value. record {
      context = with_variable (with_elements (declares s.context bytes (if is_bool_type type then BoolVar else IntVar)) (type_elements type));
      items = s.items ++ kept.Var bytes (type_of type) output value (number_of s.items value) ∷ [];
    } in
    ap (λ (output : Bool). made output (definition_of s.items (closing x))) (noted_same x)
    ∙ ap (made (seen_of x).0.var) (definition_same s named (closing x))
    ∙ ap (λ (value : BasicText ⊎ Unit {0}). variable_effect s (type, (bytes, ((seen_of x).0.var, value)))) (closed_seen x)

end_close : (context : Context) (type : TypeWords) → IsClose {C = BasicText ⊎ Unit {0}} (λ notes. variable_end context type)
end_close context type = record { lawful = λ notes. variable_end_lawful context type; no_more = λ notes c. no_second context type c; no_args = λ notes c. no_args context type c }

variable_named : (s : State) → names_in s.context ≡ map name_of_item s.items → (type : TypeWords) (r : Reading Word Fault (List ℕ))
    → mapped (λ y. effect s (inr (inr (inr (inr (inr (type, y))))))) (followed r (λ bytes rest. mapped (λ y. let p : List ℕ × Annotated (BasicText ⊎ Unit {0}) = (bytes, y) in p) ((annotated (λ notes. variable_end s.context type)).read rest)))
    ≡ mapped (variable_effect s) (followed r (λ bytes left. followed (notes left) (λ seen left. mapped (λ value. let v : Variable = (type, (bytes, (seen.var, value))) in v) ((variable_end s.context type).read left))))
variable_named s named type (Takes bytes rest) =
    let f = λ (y : List ℕ × Annotated (BasicText ⊎ Unit {0})). effect s (inr (inr (inr (inr (inr (type, y)))))) in
    mapped_twice f (λ y. let p : List ℕ × Annotated (BasicText ⊎ Unit {0}) = (bytes, y) in p) ((annotated (λ notes. variable_end s.context type)).read rest)
    ∙ closing_read (λ notes. variable_end s.context type) (end_close s.context type) (λ seen. variable_end s.context type) (λ ns. refl) (λ x. f (bytes, x)) (λ q. variable_effect s (type, (bytes, (q.0.var, q.1)))) (λ x. variable_state s named type bytes x) rest
    ∙ followed_same (notes rest) (λ seen rest. mapped (λ value. variable_effect s (type, (bytes, (seen.var, value)))) ((variable_end s.context type).read rest)) (λ seen rest. mapped (variable_effect s) (mapped (λ value. let v : Variable = (type, (bytes, (seen.var, value))) in v) ((variable_end s.context type).read rest)))
    (λ seen rest. sym (mapped_twice (variable_effect s) (λ value. let v : Variable = (type, (bytes, (seen.var, value))) in v) ((variable_end s.context type).read rest)))
    ∙ sym (mapped_followed (variable_effect s) (notes rest) (λ seen left. mapped (λ value. let v : Variable = (type, (bytes, (seen.var, value))) in v) ((variable_end s.context type).read left)))
variable_named s named type (Stops cause rest) = refl

variable_colon : (s : State) → names_in s.context ≡ map name_of_item s.items → (type : TypeWords) (r : Reading Word Fault (Unit {0}))
    → mapped (λ y. effect s (inr (inr (inr (inr (inr (type, y))))))) (followed r (λ u rest. (chain (name (fresh_variable s.context)) (λ bytes. annotated (λ notes. variable_end s.context type))).read rest))
    ≡ mapped (variable_effect s) (followed r (λ u left. followed ((name (fresh_variable s.context)).read left) (λ bytes left. followed (notes left) (λ seen left. mapped (λ value. let v : Variable = (type, (bytes, (seen.var, value))) in v) ((variable_end s.context type).read left)))))
variable_colon s named type (Takes u rest) = variable_named s named type ((name (fresh_variable s.context)).read rest)
variable_colon s named type (Stops cause rest) = refl

abbrev typed_variable : Context → TypeWords → Production (List ℕ × Annotated (BasicText ⊎ Unit {0}))
typed_variable context type = chain (name (fresh_variable context)) (λ bytes. annotated (λ notes. variable_end context type))

variable_typed : (s : State) → names_in s.context ≡ map name_of_item s.items → (r : Reading Word Fault TypeWords)
    → mapped (λ v. effect s (inr (inr (inr (inr (inr v)))))) (followed r (λ type rest. mapped (λ y. let p : VariableWords = (type, y) in p) ((behind_mark (stop Colon) (typed_variable s.context type)).read rest)))
    ≡ mapped (variable_effect s) (followed r (λ type left. followed ((stop Colon).read left) (λ u left. followed ((name (fresh_variable s.context)).read left) (λ bytes left. followed (notes left) (λ seen left. mapped (λ value. let v : Variable = (type, (bytes, (seen.var, value))) in v) ((variable_end s.context type).read left))))))
variable_typed s named (Takes type rest) =
    let f = λ (v : VariableWords). effect s (inr (inr (inr (inr (inr v))))) in
    mapped_twice f (λ y. let p : VariableWords = (type, y) in p) ((behind_mark (stop Colon) (typed_variable s.context type)).read rest)
    ∙ ap (mapped (λ (y : List ℕ × Annotated (BasicText ⊎ Unit {0})). f (type, y))) (behind_reads (stop Colon) (typed_variable s.context type) rest)
    ∙ variable_colon s named type ((stop Colon).read rest)
variable_typed s named (Stops cause rest) = refl

abbrev any_variable : Context → Production VariableWords
any_variable context = chain (var_type (domain_test context) beyond_small) (λ type. behind_mark (stop Colon) (typed_variable context type))

variable_key : (s : State) → names_in s.context ≡ map name_of_item s.items → (r : Reading Word Fault (Unit {0}))
    → mapped (λ v. effect s (inr (inr (inr (inr (inr v)))))) (followed r (λ u rest. (any_variable s.context).read rest))
    ≡ mapped (variable_effect s) (followed r (λ u left. followed ((var_type (domain_test s.context) beyond_small).read left) (λ type left. followed ((stop Colon).read left) (λ u left. followed ((name (fresh_variable s.context)).read left) (λ bytes left. followed (notes left) (λ seen left. mapped (λ value. let v : Variable = (type, (bytes, (seen.var, value))) in v) ((variable_end s.context type).read left)))))))
variable_key s named (Takes u rest) = variable_typed s named ((var_type (domain_test s.context) beyond_small).read rest)
variable_key s named (Stops cause rest) = refl

variable_reads : (s : State) → names_in s.context ≡ map name_of_item s.items → (text : List Word) → mapped (λ v. effect s (inr (inr (inr (inr (inr v)))))) ((variable_item s.context).read text) ≡ mapped (variable_effect s) (variable_read s.context text)
variable_reads s named text = ap (mapped (λ (v : VariableWords). effect s (inr (inr (inr (inr (inr v))))))) (behind_reads (keyword key.Var) (any_variable s.context) text) ∙ variable_key s named ((keyword key.Var).read text)

-- ---- a predicate

one_state : {X : Type 0} (s t : State) (r : Reading Word Fault X) → t ≡ s → mapped (λ x. t) r ≡ mapped (λ u. s) (nothing_of r)
one_state s t (Takes x rest) e = ap (λ (s : State). Takes s rest) e
one_state s t (Stops cause rest) e = refl

ended : (s t : State) (x : Balanced) (r : Reading Word Fault (Unit {0})) → t ≡ s → mapped (λ x. t) (mapped (λ (p : Balanced × Unit {0}). p.0) (mapped (λ y. let p : Balanced × Unit {0} = (x, y) in p) r)) ≡ mapped (λ u. s) r
ended s t x (Takes u rest) e = ap (λ (s : State). Takes s rest) e
ended s t x (Stops cause rest) e = refl

inner : (s t : State) (r : Reading Word Fault Balanced) → t ≡ s
    → mapped (λ x. t) (mapped (λ (p : Balanced × Unit {0}). p.0) (followed r (λ x rest. mapped (λ y. let p : Balanced × Unit {0} = (x, y) in p) ((stop Semicolon).read rest)))) ≡ mapped (λ u. s) (followed (nothing_of r) (λ u left. (stop Semicolon).read left))
inner s t (Takes x rest) e = ended s t x ((stop Semicolon).read rest) e
inner s t (Stops cause rest) e = refl

in_round : (s t : State) (text : List Word) → t ≡ s → mapped (λ (x : Balanced). t) ((before_mark balanced (stop Semicolon)).read text) ≡ mapped (λ u. s) (followed (closing_all (Round ∷ []) text) (λ u left. (stop Semicolon).read left))
unfolding closing_all
in_round s t text e = inner s t (balanced.read text) e

at_round : (s t : State) (r : Reading Word Fault (Unit {0})) → t ≡ s → mapped (λ (x : Balanced). t) (followed r (λ u rest. (before_mark balanced (stop Semicolon)).read rest)) ≡ mapped (λ u. s) (followed r (λ u left. followed (closing_all (Round ∷ []) left) (λ u left. (stop Semicolon).read left)))
at_round s t (Takes u rest) e = in_round s t rest e
at_round s t (Stops cause rest) e = refl

abbrev in_brackets : Production Balanced
in_brackets = behind_mark (opens Round) (before_mark balanced (stop Semicolon))

at_name : (s t : State) (r : Reading Word Fault (List ℕ)) → t ≡ s
    → mapped (λ (x : List ℕ × Balanced). t) (followed r (λ bytes rest. mapped (λ y. let p : List ℕ × Balanced = (bytes, y) in p) (in_brackets.read rest)))
    ≡ mapped (λ u. s) (followed r (λ bytes left. followed ((opens Round).read left) (λ u left. followed (closing_all (Round ∷ []) left) (λ u left. (stop Semicolon).read left))))
at_name s t (Takes bytes rest) e =
    mapped_twice (λ (x : List ℕ × Balanced). t) (λ y. let p : List ℕ × Balanced = (bytes, y) in p) (in_brackets.read rest)
    ∙ ap (mapped (λ (x : Balanced). t)) (behind_reads (opens Round) (before_mark balanced (stop Semicolon)) rest)
    ∙ at_round s t ((opens Round).read rest) e
at_name s t (Stops cause rest) e = refl

abbrev named_brackets : Production (List ℕ × Balanced)
named_brackets = chain (name no_test) (λ bytes. in_brackets)

at_predicate : (s t : State) (r : Reading Word Fault (Unit {0})) → t ≡ s
    → mapped (λ (x : List ℕ × Balanced). t) (followed r (λ u rest. named_brackets.read rest))
    ≡ mapped (λ u. s) (followed r (λ u left. followed ((name no_test).read left) (λ bytes left. followed ((opens Round).read left) (λ u left. followed (closing_all (Round ∷ []) left) (λ u left. (stop Semicolon).read left)))))
at_predicate s t (Takes u rest) e = at_name s t ((name no_test).read rest) e
at_predicate s t (Stops cause rest) e = refl

predicate_reads : (s : State) (text : List Word) → mapped (λ p. effect s (inl p)) (predicate_item.read text) ≡ mapped (λ u. s) (predicate_read text)
predicate_reads s text =
    let t : State = record { context = s.context; items = s.items ++ [] } in
    ap (mapped (λ (x : List ℕ × Balanced). t)) (behind_reads (keyword key.Predicate) named_brackets text)
    ∙ at_predicate s t ((keyword key.Predicate).read text) (ap (λ (is : List Item). let u : State = record { context = s.context; items = is } in u) (append-nil s.items))

-- ---- any item

abbrev past_int : State → List Word → Reading Word Fault State
past_int s left =
    if begins (is_key key.Bool) left then mapped (bool_effect s) (followed ((keyword key.Bool).read left) (λ u left. parameter_read s.context truth left))
    else (if begins (is_key key.Set) left then mapped (set_effect s) (set_read s.context left)
    else (if begins (is_key key.Array) left then array_told s left
    else mapped (variable_effect s) (variable_read s.context left)))

past_bool : (s : State) → names_in s.context ≡ map name_of_item s.items → (text : List Word) (b : Bool) → begins (is_key key.Array) text ≡ b
    → mapped (λ z. effect s (inr (inr (inr (inr z))))) ((from_array s.context).read text) ≡ (if b then array_told s text else mapped (variable_effect s) (variable_read s.context text))
past_bool s named text true b =
    ap (mapped (λ z. effect s (inr (inr (inr (inr z)))))) (first_is (is_key key.Array) (array_item s.context) (variable_item s.context) text b)
    ∙ mapped_twice (λ z. effect s (inr (inr (inr (inr z))))) inl ((array_item s.context).read text) ∙ array_reads s named text
past_bool s named text false b =
    ap (mapped (λ z. effect s (inr (inr (inr (inr z)))))) (second_is (is_key key.Array) (array_item s.context) (variable_item s.context) text b)
    ∙ mapped_twice (λ z. effect s (inr (inr (inr (inr z))))) inr ((variable_item s.context).read text) ∙ variable_reads s named text

by_set : (s : State) → names_in s.context ≡ map name_of_item s.items → (text : List Word) (b : Bool) → begins (is_key key.Predicate) text ≡ false → begins (is_key key.Int) text ≡ false → begins (is_key key.Bool) text ≡ false → begins (is_key key.Set) text ≡ b
    → mapped (effect s) ((item s.context).read text) ≡ (if b then mapped (set_effect s) (set_read s.context text) else (if begins (is_key key.Array) text then array_told s text else mapped (variable_effect s) (variable_read s.context text)))
by_set s named text true p i o b = set_item_reads s text p i o b
by_set s named text false p i o b =
    ap (mapped (effect s)) (second_is (is_key key.Predicate) predicate_item (from_int s.context) text p
    ∙ ap (mapped inr) (second_is (is_key key.Int) (int_item s.context) (from_bool s.context) text i
    ∙ ap (mapped inr) (second_is (is_key key.Bool) (bool_item s.context) (from_set s.context) text o
    ∙ ap (mapped inr) (second_is (is_key key.Set) (set_item s.context) (from_array s.context) text b))))
    ∙ mapped_twice (effect s) inr (mapped inr (mapped inr (mapped inr ((from_array s.context).read text))))
    ∙ mapped_twice (λ z. effect s (inr z)) inr (mapped inr (mapped inr ((from_array s.context).read text)))
    ∙ mapped_twice (λ z. effect s (inr (inr z))) inr (mapped inr ((from_array s.context).read text))
    ∙ mapped_twice (λ z. effect s (inr (inr (inr z)))) inr ((from_array s.context).read text)
    ∙ past_bool s named text (begins (is_key key.Array) text) refl

by_bool : (s : State) → names_in s.context ≡ map name_of_item s.items → (text : List Word) (b : Bool) → begins (is_key key.Predicate) text ≡ false → begins (is_key key.Int) text ≡ false → begins (is_key key.Bool) text ≡ b
    → mapped (effect s) ((item s.context).read text) ≡ (if b then mapped (bool_effect s) (followed ((keyword key.Bool).read text) (λ u left. parameter_read s.context truth left))
    else (if begins (is_key key.Set) text then mapped (set_effect s) (set_read s.context text) else (if begins (is_key key.Array) text then array_told s text else mapped (variable_effect s) (variable_read s.context text))))
by_bool s named text true p i b = bool_item_reads s text p i b
by_bool s named text false p i b = by_set s named text (begins (is_key key.Set) text) p i b refl

by_int : (s : State) → names_in s.context ≡ map name_of_item s.items → (text : List Word) (b : Bool) → begins (is_key key.Predicate) text ≡ false → begins (is_key key.Int) text ≡ b
    → mapped (effect s) ((item s.context).read text) ≡ (if b then mapped (int_effect s) (followed ((keyword key.Int).read text) (λ u left. parameter_read s.context (integer no_test) left)) else past_int s text)
by_int s named text true p b = int_item_reads s text p b
by_int s named text false p b = by_bool s named text (begins (is_key key.Bool) text) p b refl

by_predicate : (s : State) → names_in s.context ≡ map name_of_item s.items → (text : List Word) (b : Bool) → begins (is_key key.Predicate) text ≡ b
    → mapped (effect s) ((item s.context).read text) ≡ (if b then mapped (λ u. s) (predicate_read text) else (if begins (is_key key.Int) text then mapped (int_effect s) (followed ((keyword key.Int).read text) (λ u left. parameter_read s.context (integer no_test) left)) else past_int s text))
by_predicate s named text true b =
    ap (mapped (effect s)) (first_is (is_key key.Predicate) predicate_item (from_int s.context) text b)
    ∙ mapped_twice (effect s) inl (predicate_item.read text) ∙ predicate_reads s text
by_predicate s named text false b = by_int s named text (begins (is_key key.Int) text) b refl

-- an item is read as its first word says
pub item_reads : (s : State) → names_in s.context ≡ map name_of_item s.items → (text : List Word) → mapped (effect s) ((item s.context).read text) ≡ item_told s text
item_reads s named text = by_predicate s named text (begins (is_key key.Predicate) text) refl
