-- What the tests of a variable's words show.
use Rattle.std.proofs.Common.{◌≡◌, ℕ, true, false, if◌then◌else◌, ◌⊎◌, inl, inr, Some, None, List, [], ◌∷◌, nat_le, sym, subst}
use Rattle.dp_base.specs.Lists.{Each}
use Rattle.dp_base.specs.Names.{is_name}
use Rattle.dp_base.proofs.Lists.{Each-append_parts}
use Rattle.dp_grammar.specs.Brackets.{Plain}
use Rattle.dp_grammar.specs.Chain.{behind_mark, chain}
use Rattle.fz_model.specs.Annotations.{annotated}
use Rattle.fz_model.specs.Context.{BasicText, Context, bool_test, fresh, fresh_variable, int_test, meaning, meant_by}
use Rattle.fz_model.specs.Items.{TypeWords, basic, basic_word, definition_test, domain_test, is_int_type, variable_end, variable_item}
use Rattle.fz_model.specs.Items as words
use Rattle.fz_model.specs.Limits.{beyond_small, max_variables, refuse_if}
use Rattle.fz_model.specs.Literals.{name, var_type}
use Rattle.fz_model.specs.Marks.{stop}
use Rattle.fz_model.specs.ModelText.{VariableWords, closing}
use Rattle.fz_model.specs.Models.{basic_of_text, count_variables, definition_of, named_variable, type_of}
use Rattle.fz_model.specs.Words.{Colon, IsSpelled, Named, Semicolon, Stop}
use Rattle.fz_model.specs.declared.fault.Fault.TheVariants.{Limit, Unbounded}
use Rattle.fz_model.specs.declared.model.Item.{Item}
use Rattle.fz_facts.specs.Declared.{is_boolean}
use Rattle.fz_facts.specs.Facts.{IsBounding, IsSmallType}
use Rattle.fz_facts.proofs.Faults.{annotated_end, before_parts, chain_parts, test_passes}
use Rattle.fz_facts.proofs.Finding.{stated}
use Rattle.fz_facts.proofs.Passes.{below_limit, is_fresh, is_known, neither, not_refused}
use Rattle.fz_facts.proofs.Shown.{IsRight}
use Rattle.fz_facts.proofs.SmallTypes.{small_type}
use Rattle.fz_facts.proofs.Tested.{defines}
use Rattle.fz_facts.proofs.Typed.{bool_type}
use Rattle.fz_facts.proofs.VariableSteps.{IsAlias, IsNew}

-- the name has the form of one
spelled_name : (c : Context) (v : VariableWords) → Each IsSpelled ((variable_item c).spell v) → is_name v.1.0 ≡ true
spelled_name c v h =
    let rest = (behind_mark (stop Colon) (chain (name (fresh_variable c)) (λ bytes. annotated (λ notes. variable_end c v.0)))).spell v.1 in
    (Each-append_parts IsSpelled ((var_type (domain_test c) beyond_small).spell v.0) rest h.1).1.1.0

-- a type that is not `int` gives bounds
bounding : (t : TypeWords) → is_int_type t ≡ false → IsBounding (type_of t)
bounding (inl bool) e = tt
bounding (inr (inl int)) e = absurd cc
bounding (inr (inr (inl numbers))) e = tt
bounding (inr (inr (inr bounds))) e = tt

-- the words of a variable of this type are such
abbrev New : Context → List Item → List ℕ → TypeWords → BasicText ⊎ Unit {0} → Type 0
New c items bytes t value = IsNew c items bytes (type_of t) (definition_of items value)

module _ (c : Context) (items : List Item) (right : IsRight c items) (bytes : List ℕ) (t : TypeWords)
    (spelled : is_name bytes ≡ true) (free : fresh_variable c bytes ≡ None) (small : IsSmallType (type_of t)) where
  free_parts : (fresh c bytes ≡ None) × (refuse_if (nat_le max_variables c.variables) Limit ≡ None)
  free_parts = neither (fresh c bytes) (refuse_if (nat_le max_variables c.variables) Limit) free

  defined_by : (text : BasicText) → definition_test c t text ≡ None → New c items bytes t (inl text)
  defined_by text e =
      let test = if words.is_bool_type t then bool_test else int_test beyond_small in
      let k = is_known (meaning c text) test e in
      let s = stated c items right text k.0 k.1 in
      let d = defines items (basic_of_text items text) (words.is_bool_type t) k.0 k.2 s.1 in
      record {
        spelled = spelled;
        fresh = is_fresh (meant_by c.entries bytes) free_parts.0;
        fewer = below_limit max_variables c.variables Limit free_parts.1;
        small = small;
        bounded = d.bounded (type_of t);
        placed = λ output var. (s.0, tt);
        alias = subst (λ k. IsAlias (is_boolean items) (count_variables items) k (named_variable items (Some (basic_of_text items text)))) (sym (bool_type t)) d.alias;
      }

  undefined : is_int_type t ≡ false → New c items bytes t (inr tt)
  undefined e =
      record {
        spelled = spelled;
        fresh = is_fresh (meant_by c.entries bytes) free_parts.0;
        fewer = below_limit max_variables c.variables Limit free_parts.1;
        small = small;
        bounded = bounding t e;
        placed = λ output var. tt;
        alias = tt;
      }

  ended : (value : BasicText ⊎ Unit {0}) → (variable_end c t).fault value ≡ None → New c items bytes t value
  ended (inl text) e =
      defined_by text (test_passes (definition_test c t text) (basic_word text ∷ []) (before_parts (basic (definition_test c t)) (stop Semicolon) text e).0)
  ended (inr none) e = undefined (not_refused (is_int_type t) Unbounded (test_passes (refuse_if (is_int_type t) Unbounded) (Plain (Stop Semicolon) ∷ []) e))

-- the words of a variable that have no fault
pub new_variable : (c : Context) (items : List Item) → IsRight c items → (v : VariableWords) → (variable_item c).fault v ≡ None → Each IsSpelled ((variable_item c).spell v)
    → New c items v.1.0 v.0 (closing v.1.1)
new_variable c items right v e h =
    let p = chain_parts (var_type (domain_test c) beyond_small) (λ t. behind_mark (stop Colon) (chain (name (fresh_variable c)) (λ bytes. annotated (λ notes. variable_end c t)))) v e in
    let q = chain_parts (name (fresh_variable c)) (λ bytes. annotated (λ notes. variable_end c v.0)) v.1 p.1 in
    let r = annotated_end (λ notes. variable_end c v.0) v.1.1 q.1 in
    ended c items right v.1.0 v.0 (spelled_name c v h) (test_passes (fresh_variable c v.1.0) (Plain (Named v.1.0) ∷ []) q.0) (small_type c v.0 p.0) (closing v.1.1) r.1
