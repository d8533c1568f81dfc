-- The items of a model, up to the constraints, behind the items that stand before them.
use Rattle.std.specs.Prelude.{ℕ, Bool, true, false, ◌⊎◌, if◌then◌else◌, List, length, Option, Some, None, ℤ}
use Rattle.std.proofs.Common.{inl, inr}
use Rattle.fz_token.specs.declared.Keyword.TheVariants as key
use Rattle.dp_grammar.specs.Brackets.{Plain, Closes}
use Rattle.dp_grammar.specs.Chain.{chain, behind_mark, before_mark}
use Rattle.dp_grammar.specs.Choice.{either}
use Rattle.dp_grammar.specs.Leaf.{leaf, tested_mark}
use Rattle.dp_grammar.specs.Listed.{listed}
use Rattle.fz_model.specs.Annotations.{Annotated, annotated}
use Rattle.fz_model.specs.Context.{Context, BasicText, Truth, Whole, Name, meaning, known, one_more, fresh, fresh_variable, int_test, bool_test}
use Rattle.fz_model.specs.Limits.{or_else, refuse_if, beyond_small, no_test}
use Rattle.fz_model.specs.Literals.{name, integer, set_literal, var_type}
use Rattle.fz_model.specs.Marks.{Production, is_stop, is_close, keyword, stop, opens}
use Rattle.fz_model.specs.declared.fault.Fault.{Fault}
use Rattle.fz_model.specs.declared.fault.Fault.TheVariants.{Unbounded}
use Rattle.fz_model.specs.Words.{Square, Comma, Semicolon, Colon, Equals, Word, Named, Key, Number, Stop}

-- a number, and whether `..` follows it
abbrev pub IntText : Type 0
IntText = ℤ × Bool

-- numbers in curly brackets, or a range
abbrev pub SetWords : Type 0
SetWords = List IntText ⊎ (IntText × IntText)

-- 'bool', 'int', or a set
abbrev pub TypeWords : Type 0
TypeWords = Unit {0} ⊎ (Unit {0} ⊎ SetWords)

abbrev pub set_elements : SetWords → ℕ
set_elements (inl numbers) = length numbers
set_elements (inr bounds) = 0

-- how many numbers a type lists
abbrev pub type_elements : TypeWords → ℕ
type_elements (inl bool) = 0
type_elements (inr (inl int)) = 0
type_elements (inr (inr set)) = set_elements set

-- ---- literals and names

abbrev pub basic_of : Word → Option BasicText
basic_of (Plain (Named bytes)) = Some (Name bytes)
basic_of (Plain (Number value dotted)) = Some (Whole value dotted)
basic_of (Plain (Key key.True)) = Some (Truth true)
basic_of (Plain (Key key.False)) = Some (Truth false)
basic_of _ = None

abbrev pub basic_word : BasicText → Word
basic_word (Name bytes) = Plain (Named bytes)
basic_word (Whole value dotted) = Plain (Number value dotted)
basic_word (Truth true) = Plain (Key key.True)
basic_word (Truth false) = Plain (Key key.False)

abbrev pub basic : (BasicText → Option Fault) → Production BasicText
basic test = leaf (record { value = basic_of; token = basic_word; test = test })

abbrev pub truth_of : Word → Option Bool
truth_of (Plain (Key key.True)) = Some true
truth_of (Plain (Key key.False)) = Some false
truth_of _ = None

abbrev pub truth : Production Bool
truth = leaf (record { value = truth_of; token = λ b. Plain (Key (if b then key.True else key.False)); test = no_test })

-- '[' (basic (',' basic)*)? ']', where an element and the close may look at the elements before them
abbrev pub array_literal : (List BasicText → BasicText → Option Fault) → (List BasicText → Option Fault) → Production (List BasicText)
array_literal element close = behind_mark (opens Square) (listed (record {
  is_separator = is_stop Comma;
  separator = Plain (Stop Comma);
  is_close = is_close Square;
  item = λ kept. basic (element kept);
  close = λ kept. tested_mark (is_close Square) (Closes Square) (close kept);
}))

-- ---- parameters

-- '=' g ';'
abbrev pub defined : {C : Type 0} → Production C → Production C
defined g = behind_mark (stop Equals) (before_mark g (stop Semicolon))

-- ':' NAME annotations '=' g ';'
abbrev pub parameter : {C : Type 0} → Context → Production C → Production (List ℕ × Annotated C)
parameter context g = behind_mark (stop Colon) (chain (name (fresh context)) (λ bytes. annotated (λ notes. defined g)))

-- 'int' ':' NAME annotations '=' INT ';'
abbrev pub int_item : Context → Production (List ℕ × Annotated IntText)
int_item context = behind_mark (keyword key.Int) (parameter context (integer no_test))

-- 'bool' ':' NAME annotations '=' BOOL ';'
abbrev pub bool_item : Context → Production (List ℕ × Annotated Bool)
bool_item context = behind_mark (keyword key.Bool) (parameter context truth)

-- 'set' 'of' 'int' ':' NAME annotations '=' setlit ';'
abbrev pub set_item : Context → Production (List ℕ × Annotated SetWords)
set_item context =
    behind_mark (keyword key.Set) (behind_mark (keyword key.Of) (behind_mark (keyword key.Int)
    (parameter context (set_literal (λ kept value. one_more context (length kept)) no_test))))

-- ---- variables

-- a listed value of a type
abbrev pub domain_test : Context → List IntText → ℤ → Option Fault
domain_test context kept value = or_else (beyond_small value) (one_more context (length kept))

abbrev pub is_bool_type : TypeWords → Bool
is_bool_type (inl bool) = true
is_bool_type (inr other) = false

abbrev pub is_int_type : TypeWords → Bool
is_int_type (inr (inl int)) = true
is_int_type _ = false

-- what defines a variable has its kind, and is small
abbrev pub definition_test : Context → TypeWords → BasicText → Option Fault
definition_test context type text =
    known (meaning context text) (if is_bool_type type then bool_test else int_test beyond_small)

-- ('=' basic)? ';', where `var int` alone is unbounded
abbrev pub variable_end : Context → TypeWords → Production (BasicText ⊎ Unit {0})
variable_end context type =
    either (is_stop Equals) (defined (basic (definition_test context type)))
    (tested_mark (is_stop Semicolon) (Plain (Stop Semicolon)) (refuse_if (is_int_type type) Unbounded))

-- 'var' vtype ':' NAME annotations ('=' basic)? ';'
abbrev pub variable_item : Context → Production (TypeWords × (List ℕ × Annotated (BasicText ⊎ Unit {0})))
variable_item context =
    behind_mark (keyword key.Var) (chain (var_type (domain_test context) beyond_small) (λ type.
    behind_mark (stop Colon) (chain (name (fresh_variable context)) (λ bytes.
    annotated (λ notes. variable_end context type)))))
