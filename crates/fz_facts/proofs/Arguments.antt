-- An argument without fault fits where it stands, and an array has the length that the words have.
use Rattle.std.proofs.Common.{◌≡◌, ℕ, Bool, true, false, not, inl, inr, Option, Some, None, List, [], ◌∷◌, length, ℤ, refl, sym, ap, ◌∙◌}
use Rattle.std.proofs.lemmas.List.{length-map}
use Rattle.dp_grammar.specs.Brackets.{Plain, Opens}
use Rattle.dp_grammar.specs.Chain.{behind_mark}
use Rattle.dp_grammar.specs.Leaf.{Leaf, leaf, tested_mark}
use Rattle.dp_grammar.specs.Listed.{Listing, listed}
use Rattle.fz_model.specs.Constraints.{ArgText, ArgWords, arg_basic, arg_word, argument, argument_test, array_length, dotted_of, element_test, meant_length, wants_array, wants_set}
use Rattle.fz_model.specs.Context.{BasicText, Context, known, meaning, one_more}
use Rattle.fz_model.specs.Items.{IntText, basic}
use Rattle.fz_model.specs.Limits.{no_test, or_else, refuse_if}
use Rattle.fz_model.specs.Literals.{integer}
use Rattle.fz_model.specs.Marks.{closes, is_close, is_open, is_stop, stop}
use Rattle.fz_model.specs.Models.{basic_of_text, elements_of, expr_of}
use Rattle.fz_model.specs.Words.{Comma, Curly, DoubleDot, Number, Square, Stop, Word}
use Rattle.fz_model.specs.declared.fault.Fault.{Fault}
use Rattle.fz_model.specs.declared.fault.Fault.TheVariants.{Kind}
use Rattle.fz_model.specs.declared.kinds.ArgKind.{ArgKind}
use Rattle.fz_model.specs.declared.kinds.ArgKind.TheVariants as arg
use Rattle.fz_model.specs.declared.model.Item.{Item}
use Rattle.fz_sat.specs.Args.{elements_of_expr, term_of, term_of_expr, terms_of}
use Rattle.fz_facts.proofs.Elements.{counting, each_element, few_elements, same_meaning}
use Rattle.fz_facts.proofs.Faults.{chain_parts, listed_parts, test_passes}
use Rattle.fz_facts.proofs.Finding.{stated}
use Rattle.fz_facts.proofs.Fits.{Fits}
use Rattle.fz_facts.proofs.Passes.{is_known}
use Rattle.fz_facts.proofs.Shown.{IsRight}
use Rattle.fz_facts.proofs.Wanted.{elements_fit, set_fits, wanted_fits, wanted_long}

-- the argument is what is wanted; and where that is an array, its words have the length of its terms
pub record IsGood (c : Context) (items : List Item) (kind : ArgKind) (a : ArgWords) : Type 0 where
  pub fits : Fits items kind (term_of_expr items (expr_of items a)) (terms_of items (elements_of_expr items (expr_of items a)))
  pub long : wants_array (Some kind) ≡ true → (n : ℕ) → array_length (counting c n) a ≡ Some (length (terms_of items (elements_of_expr items (expr_of items a))))

-- ---- marks

said : (b : Bool) → refuse_if (not b) Kind ≡ None → b ≡ true
said true e = refl
said false e = absurd cc

no_both : (kind : ArgKind) → wants_set (Some kind) ≡ true → wants_array (Some kind) ≡ true → ⊥
no_both arg.Set s a = absurd cc
no_both kind s a = absurd cc

set_good : (c : Context) (items : List Item) (kind : ArgKind) (a : ArgWords) → wants_set (Some kind) ≡ true → IsGood c items kind a
set_good c items kind a w =
    record {
      fits = set_fits items kind w (term_of_expr items (expr_of items a)) (terms_of items (elements_of_expr items (expr_of items a)));
      long = λ array n. absurd (no_both kind w array);
    }

abbrev numbers_listing : Context → Listing Word Fault IntText
numbers_listing context = record {
  is_separator = is_stop Comma;
  separator = Plain (Stop Comma);
  is_close = is_close Curly;
  item = λ kept. integer (λ value. one_more context (length kept));
  close = λ kept. closes Curly;
}

abbrev elements_listing : Context → Option ArgKind → Listing Word Fault BasicText
elements_listing context wanted = record {
  is_separator = is_stop Comma;
  separator = Plain (Stop Comma);
  is_close = is_close Square;
  item = λ kept. basic (λ text. or_else (known (meaning context text) (element_test wanted)) (one_more context (length kept)));
  close = λ kept. closes Square;
}

abbrev low_leaf : Option ArgKind → Leaf Word Fault ℤ
low_leaf wanted = record { value = dotted_of; token = λ value. Plain (Number value true); test = λ value. refuse_if (not (wants_set wanted)) Kind }

-- ---- the argument

module _ (c : Context) (items : List Item) (right : IsRight c items) (n : ℕ) (kind : ArgKind) where
  abbrev IsFree : ArgWords → Type 0
  IsFree a = (argument (counting c n) (Some kind)).fault a ≡ None

  numbers_good : (numbers : List IntText) → IsFree (inl numbers) → IsGood c items kind (inl numbers)
  numbers_good numbers e =
      let refusal = refuse_if (not (wants_set (Some kind))) Kind in
      let p = chain_parts (tested_mark (is_open Curly) (Opens Curly) refusal) (λ _. listed (numbers_listing (counting c n))) (tt, numbers) e in
      set_good c items kind (inl numbers) (said (wants_set (Some kind)) (test_passes refusal (Opens Curly ∷ []) p.0))

  array_good : (texts : List BasicText) → IsFree (inr (inl texts)) → IsGood c items kind (inr (inl texts))
  array_good texts e =
      let refusal = refuse_if (not (wants_array (Some kind))) Kind in
      let l = elements_listing (counting c n) (Some kind) in
      let p = chain_parts (tested_mark (is_open Square) (Opens Square) refusal) (λ _. listed l) (tt, texts) e in
      let w = said (wants_array (Some kind)) (test_passes refusal (Opens Square ∷ []) p.0) in
      let free = (listed_parts l texts p.1).0 in
      let test = element_test (Some kind) in
      let elements = elements_of items texts in
      record {
        fits = elements_fit items kind w (term_of_expr items (expr_of items (inr (inl texts)))) elements (few_elements c items right n test texts free) (each_element c items right n test texts free);
        long = λ _ k. ap (λ m. Some m) (sym (length-map elements (term_of items) ∙ length-map texts (basic_of_text items)));
      }

  range_good : (bounds : ℤ × IntText) → IsFree (inr (inr (inl bounds))) → IsGood c items kind (inr (inr (inl bounds)))
  range_good bounds e =
      let refusal = refuse_if (not (wants_set (Some kind))) Kind in
      let p = chain_parts (leaf (low_leaf (Some kind))) (λ low. behind_mark (stop DoubleDot) (integer no_test)) bounds e in
      set_good c items kind (inr (inr (inl bounds))) (said (wants_set (Some kind)) (test_passes refusal (Plain (Number bounds.0 true) ∷ []) p.0))

  text_good : (text : ArgText) → IsFree (inr (inr (inr text))) → IsGood c items kind (inr (inr (inr text)))
  text_good text e =
      let t = arg_basic text in
      let test = argument_test (Some kind) in
      let k = is_known (meaning (counting c n) t) test (test_passes (known (meaning (counting c n) t) test) (arg_word text ∷ []) e) in
      let same : meaning c t ≡ Some k.0 = sym (same_meaning c n t) ∙ k.1 in
      let s = stated c items right t k.0 same in
      record {
        fits = wanted_fits items kind k.0 (basic_of_text items t) k.2 s.1;
        long = λ array m. ap meant_length (same_meaning c m t ∙ same) ∙ wanted_long items kind k.0 (basic_of_text items t) array k.2 s.1;
      }

  -- an argument without fault
  pub good : (a : ArgWords) → IsFree a → IsGood c items kind a
  good (inl numbers) e = numbers_good numbers e
  good (inr (inl texts)) e = array_good texts e
  good (inr (inr (inl bounds))) e = range_good bounds e
  good (inr (inr (inr text))) e = text_good text e
