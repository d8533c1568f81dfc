-- Parameters and variables are lawful, behind any items.
use Rattle.std.proofs.Common.{◌≡◌, Bool, true, false, cond, ◌⊎◌, inl, inr, List, length, Option, Some, refl, sym, ap, ◌∙◌}
use Rattle.fz_token.specs.declared.Keyword.{Keyword}
use Rattle.fz_token.specs.declared.Keyword.TheVariants as key
use Rattle.dp_grammar.specs.Brackets.{Plain, Opens, Closes}
use Rattle.dp_grammar.specs.Chain.{chain, behind_mark, before_mark}
use Rattle.dp_grammar.specs.Choice.{IsLed}
use Rattle.dp_grammar.specs.Grammar.{IsLawful}
use Rattle.dp_grammar.specs.Leaf.{tested_mark}
use Rattle.dp_grammar.specs.Listed.{Listing, listed}
use Rattle.dp_grammar.proofs.Leaves.{leaf_lawful, tested_mark_lawful}
use Rattle.dp_grammar.proofs.Chains.{chain_lawful, behind_mark_lawful, before_mark_lawful}
use Rattle.dp_grammar.proofs.Choices.{either_lawful}
use Rattle.dp_grammar.proofs.Lists.{listed_lawful}
use Rattle.fz_model.specs.Annotations.{annotated}
use Rattle.fz_model.specs.Context.{Context, BasicText, Truth, Whole, Name, fresh, fresh_variable, one_more}
use Rattle.fz_model.specs.Limits.{beyond_small, refuse_if, no_test}
use Rattle.fz_model.specs.Items.{TypeWords, basic_of, basic_word, basic, truth_of, truth, array_literal, defined, parameter, int_item, bool_item, set_item, domain_test, is_int_type, definition_test, variable_end, variable_item}
use Rattle.fz_model.specs.Literals.{name, integer, set_literal, var_type}
use Rattle.fz_model.specs.Marks.{Production, is_stop, is_open, is_close, keyword, stop, opens}
use Rattle.fz_model.specs.declared.fault.Fault.{Fault}
use Rattle.fz_model.specs.declared.fault.Fault.TheVariants.{Unbounded}
use Rattle.fz_model.specs.Words.{Bracket, Round, Square, Comma, Semicolon, Colon, DoubleColon, Equals, Word, Named, Key, Number, Float, Quoted, Stop}
use Rattle.fz_model.proofs.AnnotationLaws.{annotated_lawful}
use Rattle.fz_model.proofs.LiteralLaws.{name_lawful, integer_lawful, set_literal_lawful, var_type_lawful}
use Rattle.fz_model.proofs.MarkLaws.{stop_is_only, close_is_only, keyword_lawful, stop_lawful, opens_lawful}

basic_is_of : (x : BasicText) → basic_of (basic_word x) ≡ Some x
basic_is_of (Name bytes) = refl
basic_is_of (Whole value dotted) = refl
basic_is_of (Truth true) = refl
basic_is_of (Truth false) = refl

some_basic : (x y : BasicText) (w : Word) → basic_word x ≡ w → Some x ≡ Some y → basic_word y ≡ w
some_basic x y w e s = let same : x ≡ y = cc in ap basic_word (sym same) ∙ e

key_basic : (k : Keyword) (x : BasicText) → basic_of (Plain (Key k)) ≡ Some x → basic_word x ≡ Plain (Key k)
key_basic key.True x e = some_basic (Truth true) x (Plain (Key key.True)) refl e
key_basic key.False x e = some_basic (Truth false) x (Plain (Key key.False)) refl e
key_basic key.Array x e = absurd cc
key_basic key.Bool x e = absurd cc
key_basic key.Constraint x e = absurd cc
key_basic key.Float x e = absurd cc
key_basic key.Int x e = absurd cc
key_basic key.Maximize x e = absurd cc
key_basic key.Minimize x e = absurd cc
key_basic key.Of x e = absurd cc
key_basic key.Predicate x e = absurd cc
key_basic key.Satisfy x e = absurd cc
key_basic key.Set x e = absurd cc
key_basic key.Solve x e = absurd cc
key_basic key.Var x e = absurd cc

basic_is : (w : Word) (x : BasicText) → basic_of w ≡ Some x → basic_word x ≡ w
basic_is (Plain (Named bytes)) x e = some_basic (Name bytes) x (Plain (Named bytes)) refl e
basic_is (Plain (Number value dotted)) x e = some_basic (Whole value dotted) x (Plain (Number value dotted)) refl e
basic_is (Plain (Key k)) x e = key_basic k x e
basic_is (Plain Float) x e = absurd cc
basic_is (Plain Quoted) x e = absurd cc
basic_is (Plain (Stop p)) x e = absurd cc
basic_is (Opens b) x e = absurd cc
basic_is (Closes b) x e = absurd cc

pub basic_lawful : (test : BasicText → Option Fault) → IsLawful (basic test)
basic_lawful test = leaf_lawful (record { value = basic_of; token = basic_word; test = test }) (record { some = Truth true; value_is = basic_is_of; token_is = basic_is })

abbrev truth_word : Bool → Word
truth_word b = Plain (Key (cond b key.True key.False))

truth_is_of : (b : Bool) → truth_of (truth_word b) ≡ Some b
truth_is_of true = refl
truth_is_of false = refl

some_truth : (a b : Bool) (w : Word) → truth_word a ≡ w → Some a ≡ Some b → truth_word b ≡ w
some_truth a b w e s = let same : a ≡ b = cc in ap truth_word (sym same) ∙ e

key_truth : (k : Keyword) (b : Bool) → truth_of (Plain (Key k)) ≡ Some b → truth_word b ≡ Plain (Key k)
key_truth key.True b e = some_truth true b (Plain (Key key.True)) refl e
key_truth key.False b e = some_truth false b (Plain (Key key.False)) refl e
key_truth key.Array b e = absurd cc
key_truth key.Bool b e = absurd cc
key_truth key.Constraint b e = absurd cc
key_truth key.Float b e = absurd cc
key_truth key.Int b e = absurd cc
key_truth key.Maximize b e = absurd cc
key_truth key.Minimize b e = absurd cc
key_truth key.Of b e = absurd cc
key_truth key.Predicate b e = absurd cc
key_truth key.Satisfy b e = absurd cc
key_truth key.Set b e = absurd cc
key_truth key.Solve b e = absurd cc
key_truth key.Var b e = absurd cc

truth_is : (w : Word) (b : Bool) → truth_of w ≡ Some b → truth_word b ≡ w
truth_is (Plain (Key k)) b e = key_truth k b e
truth_is (Plain (Named bytes)) b e = absurd cc
truth_is (Plain (Number value dotted)) b e = absurd cc
truth_is (Plain Float) b e = absurd cc
truth_is (Plain Quoted) b e = absurd cc
truth_is (Plain (Stop p)) b e = absurd cc
truth_is (Opens c) b e = absurd cc
truth_is (Closes c) b e = absurd cc

pub truth_lawful : IsLawful truth
truth_lawful = leaf_lawful (record { value = truth_of; token = truth_word; test = no_test }) (record { some = true; value_is = truth_is_of; token_is = truth_is })

pub basic_no_close : (b : Bracket) (x : BasicText) → is_close b (basic_word x) ≡ false
basic_no_close b (Name bytes) = refl
basic_no_close b (Whole value dotted) = refl
basic_no_close b (Truth true) = refl
basic_no_close b (Truth false) = refl

abbrev elements : (List BasicText → BasicText → Option Fault) → (List BasicText → Option Fault) → Listing Word Fault BasicText
elements element close = record {
  is_separator = is_stop Comma;
  separator = Plain (Stop Comma);
  is_close = is_close Square;
  item = λ kept. basic (element kept);
  close = λ kept. tested_mark (is_close Square) (Closes Square) (close kept);
}

pub array_literal_lawful : (element : List BasicText → BasicText → Option Fault) (close : List BasicText → Option Fault) → IsLawful (array_literal element close)
array_literal_lawful element close =
    behind_mark_lawful (opens Square) (listed (elements element close)) (opens_lawful Square) (listed_lawful (elements element close) (record {
      separates = stop_is_only Comma;
      item = λ kept. basic_lawful (element kept);
      close = λ kept. tested_mark_lawful (is_close Square) (Closes Square) (close kept) (close_is_only Square);
      begins = λ kept x. basic_no_close Square x;
      closes = λ kept c. refl;
      apart = λ kept c. refl;
    }))

pub defined_lawful : {C : Type 0} (g : Production C) → IsLawful g → IsLawful (defined g)
defined_lawful g gl = behind_mark_lawful (stop Equals) (before_mark g (stop Semicolon)) (stop_lawful Equals) (before_mark_lawful g (stop Semicolon) gl (stop_lawful Semicolon))

pub parameter_lawful : {C : Type 0} (context : Context) (g : Production C) → IsLawful g → IsLawful (parameter context g)
parameter_lawful context g gl =
    behind_mark_lawful (stop Colon) (chain (name (fresh context)) (λ bytes. annotated (λ notes. defined g))) (stop_lawful Colon)
    (chain_lawful (name (fresh context)) (λ bytes. annotated (λ notes. defined g)) (name_lawful (fresh context))
    (λ bytes. annotated_lawful (λ notes. defined g) (record { lawful = λ notes. defined_lawful g gl; no_more = λ notes c. refl; no_args = λ notes c. refl })))

pub int_item_lawful : (context : Context) → IsLawful (int_item context)
int_item_lawful context = behind_mark_lawful (keyword key.Int) (parameter context (integer no_test)) (keyword_lawful key.Int) (parameter_lawful context (integer no_test) (integer_lawful no_test))

pub bool_item_lawful : (context : Context) → IsLawful (bool_item context)
bool_item_lawful context = behind_mark_lawful (keyword key.Bool) (parameter context truth) (keyword_lawful key.Bool) (parameter_lawful context truth truth_lawful)

pub set_item_lawful : (context : Context) → IsLawful (set_item context)
set_item_lawful context =
    let set = set_literal (λ kept value. one_more context (length kept)) no_test in
    let of_int = behind_mark (keyword key.Int) (parameter context set) in
    behind_mark_lawful (keyword key.Set) (behind_mark (keyword key.Of) of_int) (keyword_lawful key.Set)
    (behind_mark_lawful (keyword key.Of) of_int (keyword_lawful key.Of)
    (behind_mark_lawful (keyword key.Int) (parameter context set) (keyword_lawful key.Int)
    (parameter_lawful context set (set_literal_lawful (λ kept value. one_more context (length kept)) no_test))))

pub variable_end_lawful : (context : Context) (type : TypeWords) → IsLawful (variable_end context type)
variable_end_lawful context type =
    either_lawful (is_stop Equals) (defined (basic (definition_test context type))) (tested_mark (is_stop Semicolon) (Plain (Stop Semicolon)) (refuse_if (is_int_type type) Unbounded))
    (record { first = λ x. refl; second = λ y. refl })
    (defined_lawful (basic (definition_test context type)) (basic_lawful (definition_test context type)))
    (tested_mark_lawful (is_stop Semicolon) (Plain (Stop Semicolon)) (refuse_if (is_int_type type) Unbounded) (stop_is_only Semicolon))

pub no_second : (context : Context) (type : TypeWords) (z : BasicText ⊎ Unit {0}) → IsLed (is_stop DoubleColon) false ((variable_end context type).spell z)
no_second context type (inl x) = refl
no_second context type (inr y) = refl

pub no_args : (context : Context) (type : TypeWords) (z : BasicText ⊎ Unit {0}) → IsLed (is_open Round) false ((variable_end context type).spell z)
no_args context type (inl x) = refl
no_args context type (inr y) = refl

pub variable_item_lawful : (context : Context) → IsLawful (variable_item context)
variable_item_lawful context =
    let names = λ (type : TypeWords). behind_mark (stop Colon) (chain (name (fresh_variable context)) (λ bytes. annotated (λ notes. variable_end context type))) in
    behind_mark_lawful (keyword key.Var) (chain (var_type (domain_test context) beyond_small) names) (keyword_lawful key.Var)
    (chain_lawful (var_type (domain_test context) beyond_small) names (var_type_lawful (domain_test context) beyond_small) (λ type.
    behind_mark_lawful (stop Colon) (chain (name (fresh_variable context)) (λ bytes. annotated (λ notes. variable_end context type))) (stop_lawful Colon)
    (chain_lawful (name (fresh_variable context)) (λ bytes. annotated (λ notes. variable_end context type)) (name_lawful (fresh_variable context))
    (λ bytes. annotated_lawful (λ notes. variable_end context type) (record {
      lawful = λ notes. variable_end_lawful context type;
      no_more = λ notes c. no_second context type c;
      no_args = λ notes c. no_args context type c;
    })))))
