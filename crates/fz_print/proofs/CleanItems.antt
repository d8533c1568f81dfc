-- Items in their canonical spelling: they pass the tests that the same items pass in other spellings, and declare the same.
use Rattle.std.proofs.Common.{◌≡◌, ℕ, Bool, true, false, if◌then◌else◌, ◌⊎◌, inl, inr, List, [], ◌∷◌, ◌++◌, map, length, Option, Some, None, ℤ, pos, find, codes, refl, sym, ◌∙◌, subst}
use Rattle.dp_base.specs.Lists.{Each}
use Rattle.dp_grammar.specs.Brackets.{Plain}
use Rattle.dp_grammar.specs.Chain.{chain, behind_mark}
use Rattle.dp_grammar.specs.Choice.{either}
use Rattle.dp_grammar.specs.Leaf.{fault_at, tested_mark}
use Rattle.fz_token.specs.declared.Keyword.TheVariants as key
use Rattle.fz_model.specs.Annotations.{Annotation, Annotated, Balanced, Close, annotated, annotation_link, link_parts, parts_with}
use Rattle.fz_model.specs.Arrays.{array_item, array_size, constants, constant_element, count_of, elements_end, is_bools, notes_test, output_test, size_test, type_test, variable_element, variables}
use Rattle.fz_model.specs.Context.{BasicText, Context, bool_const_test, bool_test, const_test, fresh, fresh_variable, int_test, known, meaning, one_more, with_elements}
use Rattle.fz_model.specs.Items.{IntText, TypeWords, array_literal, basic, basic_word, defined, definition_test, domain_test, is_bool_type, parameter, truth, type_elements, variable_end, variable_item}
use Rattle.fz_model.specs.Limits.{beyond_small, no_test, or_else, refuse_if}
use Rattle.fz_model.specs.Literals.{integer, name, set_literal, var_type}
use Rattle.fz_model.specs.Marks.{Production, is_key, is_stop, keyword, stop}
use Rattle.fz_model.specs.ModelText.{ArrayWords, ItemWords, VariableWords, closing, item as item_production}
use Rattle.fz_model.specs.Models.{is_noted, notes_of, output_of, set_of, type_of}
use Rattle.fz_model.specs.Words.{Colon, Semicolon, Stop, Word}
use Rattle.fz_model.specs.declared.fault.Fault.{Fault}
use Rattle.fz_model.specs.declared.fault.Fault.TheVariants.{Unbounded}
use Rattle.fz_model.specs.declared.meant.Meant.{Meant}
use Rattle.fz_facts.proofs.Faults.{before_parts, chain_parts, test_passes}
use Rattle.fz_print.specs.Canonical.{kind_words, marked, plain, set_words, size_words, sized, type_words}
use Rattle.fz_print.proofs.Cleaned.{are_so_many, basic_none, element_of, elements_none, plain_text, same_bool_type, same_int_type, same_type_elements, same_type_test, set_none, so_many, type_none}
use Rattle.fz_print.proofs.Outputs.{fits_again, is_sized, sized_notes}
use Rattle.fz_print.proofs.Unrefused.{at_none, before_none, chain_none, links_end}

-- ---- the canonical words

abbrev pub clean_definition : BasicText ⊎ Unit {0} → BasicText ⊎ Unit {0}
clean_definition (inl t) = inl (plain_text t)
clean_definition (inr none) = inr tt

abbrev pub clean_variable : VariableWords → VariableWords
clean_variable v = (type_words (type_of v.0), (v.1.0, marked (is_noted (codes "output_var") (notes_of v.1.1)) (clean_definition (closing v.1.1))))

abbrev pub clean_array : ArrayWords → ArrayWords
clean_array (size, inl a) = (size_words (length (closing a.1.1)), inl (type_words (type_of a.0), (a.1.0, sized (output_of (notes_of a.1.1)) (map plain_text (closing a.1.1)))))
clean_array (size, inr a) = (size_words (length (closing a.1.1)), inr (kind_words (is_bools a.0), (a.1.0, plain (map plain_text (closing a.1.1)))))

-- a predicate is not kept
abbrev pub clean_item : ItemWords → List ItemWords
clean_item (inl p) = []
clean_item (inr (inl i)) = inr (inl (i.0, plain ((closing i.1).0, false))) ∷ []
clean_item (inr (inr (inl b))) = inr (inr (inl (b.0, plain (closing b.1)))) ∷ []
clean_item (inr (inr (inr (inl s)))) = inr (inr (inr (inl (s.0, plain (set_words (set_of (closing s.1))))))) ∷ []
clean_item (inr (inr (inr (inr (inl a))))) = inr (inr (inr (inr (inl (clean_array a))))) ∷ []
clean_item (inr (inr (inr (inr (inr v))))) = inr (inr (inr (inr (inr (clean_variable v))))) ∷ []

-- ---- annotations

notes_end : {C : Type 0} (close : Close C) (kept : List Annotation) (bytes : List ℕ) (args : Option Balanced) (c : C)
    → (link_parts close kept).fault (parts_with bytes args (inr c)) ≡ None → (close (kept ++ record { name = bytes; args = args } ∷ [])).fault c ≡ None
notes_end close kept bytes None c e = e
notes_end close kept bytes (Some args) c e = e

-- what closes annotations has no fault behind these
pub annotated_notes : {C : Type 0} (close : Close C) (a : Annotated C) → (annotated close).fault a ≡ None → (close (notes_of a)).fault (closing a) ≡ None
annotated_notes close (inl p) e =
    notes_end close p.0 p.1.0.name p.1.0.args p.1.1 (links_end (annotation_link close) [] p.0 p.1 e)
annotated_notes close (inr c) e = e

marked_none : {C : Type 0} (g : Production C) (output : Bool) (c : C) → g.fault c ≡ None → (annotated (λ notes. g)).fault (marked output c) ≡ None
marked_none g true c e = e
marked_none g false c e = e

sized_none : {C : Type 0} (close : Close C) (o : Option (List (ℤ × ℤ))) (c : C) → (close (sized_notes o)).fault c ≡ None → (annotated close).fault (sized o c) ≡ None
sized_none close None c e = e
sized_none close (Some rs) c e = e

-- ---- parameters

pub parameter_parts : {C : Type 0} (c : Context) (g : Production C) (n : List ℕ) (a : Annotated C) → (parameter c g).fault (n, a) ≡ None → ((name (fresh c)).fault n ≡ None) × (g.fault (closing a) ≡ None)
parameter_parts c g n a e =
    let p = chain_parts (name (fresh c)) (λ bytes. annotated (λ notes. defined g)) (n, a) e in
    (p.0, (before_parts g (stop Semicolon) (closing a) (annotated_notes (λ notes. defined g) a p.1)).0)

parameter_none : {C : Type 0} (c : Context) (g : Production C) (n : List ℕ) (x : C) → (name (fresh c)).fault n ≡ None → g.fault x ≡ None → (parameter c g).fault (n, plain x) ≡ None
parameter_none c g n x e f = chain_none (name (fresh c)) (λ bytes. annotated (λ notes. defined g)) (n, plain x) e (before_none g (stop Semicolon) x f refl)

-- ---- variables

abbrev behind_type : Context → TypeWords → Production (List ℕ × Annotated (BasicText ⊎ Unit {0}))
behind_type c t = behind_mark (stop Colon) (chain (name (fresh_variable c)) (λ bytes. annotated (λ notes. variable_end c t)))

abbrev wanted : Bool → Meant → Option Fault
wanted bools = if bools then bool_test else int_test beyond_small

abbrev unbounded : Bool → Option (Fault × List Word)
unbounded b = fault_at (refuse_if b Unbounded) (Plain (Stop Semicolon) ∷ [])

end_none : (c : Context) (t : TypeWords) (d : BasicText ⊎ Unit {0}) → (variable_end c t).fault d ≡ None → (variable_end c (type_words (type_of t))).fault (clean_definition d) ≡ None
end_none c t (inl text) e =
    let p = test_passes (definition_test c t text) (basic_word text ∷ []) (before_parts (basic (definition_test c t)) (stop Semicolon) text e).0 in
    before_none (basic (definition_test c (type_words (type_of t)))) (stop Semicolon) (plain_text text)
    (at_none (definition_test c (type_words (type_of t)) (plain_text text)) (basic_word (plain_text text) ∷ [])
    (subst (λ b. known (meaning c (plain_text text)) (wanted b) ≡ None) (sym (same_bool_type t)) (basic_none c (wanted (is_bool_type t)) (wanted (is_bool_type t)) (λ m h. h) text p))) refl
end_none c t (inr none) e =
    subst (λ b. unbounded b ≡ None) (sym (same_int_type t)) e

pub record VariableParts (c : Context) (v : VariableWords) : Type 0 where
  pub type : (var_type (domain_test c) beyond_small).fault v.0 ≡ None
  pub name : (name (fresh_variable c)).fault v.1.0 ≡ None
  pub end : (variable_end c v.0).fault (closing v.1.1) ≡ None

pub variable_parts : (c : Context) (v : VariableWords) → (variable_item c).fault v ≡ None → VariableParts c v
variable_parts c v e =
    let p = chain_parts (var_type (domain_test c) beyond_small) (behind_type c) v e in
    let q = chain_parts (name (fresh_variable c)) (λ bytes. annotated (λ notes. variable_end c v.0)) v.1 p.1 in
    record { type = p.0; name = q.0; end = annotated_notes (λ notes. variable_end c v.0) v.1.1 q.1 }

variable_none : (c : Context) (v : VariableWords) → (variable_item c).fault v ≡ None → (variable_item c).fault (clean_variable v) ≡ None
variable_none c v e =
    let p = variable_parts c v e in
    chain_none (var_type (domain_test c) beyond_small) (behind_type c) (clean_variable v)
    (type_none (λ k x. or_else (beyond_small x) (one_more c k)) beyond_small v.0 p.type)
    (chain_none (name (fresh_variable c)) (λ bytes. annotated (λ notes. variable_end c (type_words (type_of v.0)))) (clean_variable v).1 p.name
    (marked_none (variable_end c (type_words (type_of v.0))) (is_noted (codes "output_var") (notes_of v.1.1)) (clean_definition (closing v.1.1)) (end_none c v.0 (closing v.1.1) p.end)))

-- ---- arrays

abbrev pub constant_wanted : Bool → Meant → Option Fault
constant_wanted bools = if bools then bool_const_test else const_test no_test

abbrev constants_literal : Context → Bool → ℕ → Production (List BasicText)
constants_literal c bools n = array_literal (element_of c c (constant_wanted bools)) (are_so_many n)

pub constants_parts : (c : Context) (size : IntText) (k : Unit {0} ⊎ Unit {0}) (n : List ℕ) (a : Annotated (List BasicText)) → (constants c size).fault (k, (n, a)) ≡ None
    → ((name (fresh c)).fault n ≡ None) × ((constants_literal c (is_bools k) (count_of size.0)).fault (closing a) ≡ None)
constants_parts c size k n a e =
    let p = chain_parts (either (is_key key.Bool) (keyword key.Bool) (keyword key.Int)) (λ kind. parameter c (array_literal (constant_element c (is_bools kind)) (size_test size))) (k, (n, a)) e in
    parameter_parts c (constants_literal c (is_bools k) (count_of size.0)) n a p.1

constants_none : (c : Context) (size : IntText) (k : Unit {0} ⊎ Unit {0}) (n : List ℕ) (a : Annotated (List BasicText)) → (constants c size).fault (k, (n, a)) ≡ None
    → (constants c (pos (length (closing a)), false)).fault (kind_words (is_bools k), (n, plain (map plain_text (closing a)))) ≡ None
constants_none c size (inl bool) n a e =
    let p = constants_parts c size (inl bool) n a e in
    parameter_none c (constants_literal c true (length (closing a))) n (map plain_text (closing a)) p.0
    (elements_none c c (constant_wanted true) (constant_wanted true) (λ m h. h) (count_of size.0) (closing a) p.1)
constants_none c size (inr int) n a e =
    let p = constants_parts c size (inr int) n a e in
    parameter_none c (constants_literal c false (length (closing a))) n (map plain_text (closing a)) p.0
    (elements_none c c (constant_wanted false) (constant_wanted false) (λ m h. h) (count_of size.0) (closing a) p.1)

abbrev ending : IntText → List Annotation → Production (Unit {0})
ending size notes = tested_mark (is_stop Semicolon) (Plain (Stop Semicolon)) (notes_test size notes)

abbrev variables_literal : Context → TypeWords → ℕ → Production (List BasicText)
variables_literal c t n = array_literal (element_of c c (type_test t)) (are_so_many n)

abbrev behind_variables : Context → IntText → TypeWords → Production (List ℕ × Annotated (List BasicText))
behind_variables c size t = behind_mark (stop Colon) (chain (name (fresh c)) (λ bytes. annotated (elements_end (with_elements c (type_elements t)) size t)))

pub record VariablesParts (c : Context) (size : IntText) (t : TypeWords) (n : List ℕ) (a : Annotated (List BasicText)) : Type 0 where
  pub type : (var_type (domain_test c) beyond_small).fault t ≡ None
  pub name : (name (fresh c)).fault n ≡ None
  pub elements : (variables_literal (with_elements c (type_elements t)) t (count_of size.0)).fault (closing a) ≡ None
  pub notes : notes_test size (notes_of a) ≡ None

pub variables_parts : (c : Context) (size : IntText) (t : TypeWords) (n : List ℕ) (a : Annotated (List BasicText)) → (variables c size).fault (t, (n, a)) ≡ None → VariablesParts c size t n a
variables_parts c size t n a e =
    let p = chain_parts (var_type (domain_test c) beyond_small) (behind_variables c size) (t, (n, a)) e in
    let q = chain_parts (name (fresh c)) (λ bytes. annotated (elements_end (with_elements c (type_elements t)) size t)) (n, a) p.1 in
    let r = annotated_notes (elements_end (with_elements c (type_elements t)) size t) a q.1 in
    let u = before_parts (array_literal (variable_element (with_elements c (type_elements t)) t) (size_test size)) (ending size (notes_of a)) (closing a) r in
    record { type = p.0; name = q.0; elements = u.0; notes = test_passes (notes_test size (notes_of a)) (Plain (Stop Semicolon) ∷ []) u.1 }

ended_none : (c : Context) (size : IntText) (t : TypeWords) (n : List ℕ) (a : Annotated (List BasicText)) → VariablesParts c size t n a → (k : ℕ) → type_elements t ≡ k
    → (elements_end (with_elements c k) (pos (length (closing a)), false) (type_words (type_of t)) (sized_notes (output_of (notes_of a)))).fault (map plain_text (closing a)) ≡ None
ended_none c size t n a p k same =
    let many = so_many (element_of (with_elements c (type_elements t)) (with_elements c (type_elements t)) (type_test t)) (count_of size.0) (closing a) p.elements in
    let notes : notes_test (pos (length (closing a)), false) (sized_notes (output_of (notes_of a))) ≡ None =
    subst (λ m. output_test m (find is_sized (sized_notes (output_of (notes_of a)))) ≡ None) (sym many) (fits_again (count_of size.0) (find is_sized (notes_of a)) p.notes) in
    before_none (array_literal (variable_element (with_elements c k) (type_words (type_of t))) (size_test (pos (length (closing a)), false))) (ending (pos (length (closing a)), false) (sized_notes (output_of (notes_of a)))) (map plain_text (closing a))
    (subst (λ j. (variables_literal (with_elements c j) (type_words (type_of t)) (length (closing a))).fault (map plain_text (closing a)) ≡ None) same
    (elements_none (with_elements c (type_elements t)) (with_elements c (type_elements t)) (type_test t) (type_test (type_words (type_of t))) (λ m h. same_type_test t m ∙ h) (count_of size.0) (closing a) p.elements))
    (at_none (notes_test (pos (length (closing a)), false) (sized_notes (output_of (notes_of a)))) (Plain (Stop Semicolon) ∷ []) notes)

variables_none : (c : Context) (size : IntText) (t : TypeWords) (n : List ℕ) (a : Annotated (List BasicText)) → (variables c size).fault (t, (n, a)) ≡ None
    → (variables c (pos (length (closing a)), false)).fault (type_words (type_of t), (n, sized (output_of (notes_of a)) (map plain_text (closing a)))) ≡ None
variables_none c size t n a e =
    let p = variables_parts c size t n a e in
    chain_none (var_type (domain_test c) beyond_small) (behind_variables c (pos (length (closing a)), false)) (type_words (type_of t), (n, sized (output_of (notes_of a)) (map plain_text (closing a))))
    (type_none (λ k x. or_else (beyond_small x) (one_more c k)) beyond_small t p.type)
    (chain_none (name (fresh c)) (λ bytes. annotated (elements_end (with_elements c (type_elements (type_words (type_of t)))) (pos (length (closing a)), false) (type_words (type_of t)))) (n, sized (output_of (notes_of a)) (map plain_text (closing a))) p.name
    (sized_none (elements_end (with_elements c (type_elements (type_words (type_of t)))) (pos (length (closing a)), false) (type_words (type_of t))) (output_of (notes_of a)) (map plain_text (closing a))
    (ended_none c size t n a p (type_elements (type_words (type_of t))) (sym (same_type_elements t)))))

abbrev either_array : Context → IntText → Production ((TypeWords × (List ℕ × Annotated (List BasicText))) ⊎ ((Unit {0} ⊎ Unit {0}) × (List ℕ × Annotated (List BasicText))))
either_array c size = either (is_key key.Var) (variables c size) (constants c size)

pub array_parts : (c : Context) (a : ArrayWords) → (array_item c).fault a ≡ None → (either_array c a.0.1).fault a.1 ≡ None
array_parts c a e = (chain_parts array_size (λ size. behind_mark (keyword key.Of) (either_array c size.1)) a e).1

array_none : (c : Context) (a : ArrayWords) → (array_item c).fault a ≡ None → (array_item c).fault (clean_array a) ≡ None
array_none c (size, inl a) e = variables_none c size.1 a.0 a.1.0 a.1.1 (array_parts c (size, inl a) e)
array_none c (size, inr a) e = constants_none c size.1 a.0 a.1.0 a.1.1 (array_parts c (size, inr a) e)

-- ---- any item

-- an item that is kept has no fault in its canonical spelling
pub item_none : (c : Context) (x : ItemWords) → (item_production c).fault x ≡ None → Each (λ y. (item_production c).fault y ≡ None) (clean_item x)
item_none c (inl p) e = tt
item_none c (inr (inl i)) e = (parameter_none c (integer no_test) i.0 ((closing i.1).0, false) (parameter_parts c (integer no_test) i.0 i.1 e).0 refl, tt)
item_none c (inr (inr (inl b))) e = (parameter_none c truth b.0 (closing b.1) (parameter_parts c truth b.0 b.1 e).0 refl, tt)
item_none c (inr (inr (inr (inl s)))) e =
    let p = parameter_parts c (set_literal (λ kept value. one_more c (length kept)) no_test) s.0 s.1 e in
    (parameter_none c (set_literal (λ kept value. one_more c (length kept)) no_test) s.0 (set_words (set_of (closing s.1))) p.0 (set_none (λ k v. one_more c k) no_test (closing s.1) p.1), tt)
item_none c (inr (inr (inr (inr (inl a))))) e = (array_none c a e, tt)
item_none c (inr (inr (inr (inr (inr v))))) e = (variable_none c v e, tt)
