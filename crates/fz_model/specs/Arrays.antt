-- Arrays of constants and of variables, behind the items that stand before them.
use Rattle.std.specs.Prelude.{ℕ, ◌*◌, ◌==◌, Bool, true, false, not, ◌&&◌, ◌⊎◌, if◌then◌else◌, List, [], ◌∷◌, length, Option, Some, None, Result, Ok, Err, find, bytes_eq, codes, ℤ, pos, ◌+ℤ◌, ◌-ℤ◌}
use Rattle.std.proofs.Common.{inl, inr}
use Rattle.std.specs.List.{list_any}
use Rattle.std.specs.Int.Signed.{lt_z}
use Rattle.fz_token.specs.declared.Keyword.TheVariants as key
use Rattle.dp_grammar.specs.Brackets.{Plain, spell_inside}
use Rattle.dp_grammar.specs.Chain.{chain, behind_mark, before_mark}
use Rattle.dp_grammar.specs.Choice.{either}
use Rattle.dp_grammar.specs.Grammar.{Cause}
use Rattle.dp_grammar.specs.Leaf.{leaf, tested_mark}
use Rattle.dp_grammar.specs.Listed.{listed}
use Rattle.dp_grammar.specs.Whole.{whole}
use Rattle.fz_model.specs.Annotations.{Balanced, Annotation, Annotated, annotated}
use Rattle.fz_model.specs.Context.{Context, BasicText, meaning, known, one_more, fresh, int_test, bool_test, const_test, bool_const_test, with_elements}
use Rattle.fz_model.specs.Limits.{or_else, refuse_if, beyond_small, no_test}
use Rattle.fz_model.specs.declared.meant.Meant.{Meant}
use Rattle.fz_model.specs.Items.{IntText, SetWords, TypeWords, array_literal, parameter, domain_test, type_elements}
use Rattle.fz_model.specs.Literals.{name, integer, range, var_type}
use Rattle.fz_model.specs.Marks.{Production, is_key, is_stop, is_close, keyword, stop, opens, closes}
use Rattle.fz_model.specs.declared.fault.Fault.{Fault}
use Rattle.fz_model.specs.declared.fault.Fault.TheVariants.{Kind}
use Rattle.fz_model.specs.Words.{Round, Square, Comma, Semicolon, Colon, DoubleDot, Equals, Word, Number, Stop, bracketing}

-- ---- the number of elements

abbrev pub is_one : ℤ → Bool
is_one value = not (lt_z value (pos 1)) && not (lt_z (pos 1) value)

-- as a number of elements: none below 1
abbrev pub count_of : ℤ → ℕ
count_of (pos n) = n
count_of _ = 0

-- the integer 1, in any spelling
abbrev pub one_word : Word → Option Bool
one_word (Plain (Number value dotted)) = if is_one value then Some dotted else None
one_word _ = None

abbrev pub one : Production Bool
one = leaf (record { value = one_word; token = λ dotted. Plain (Number (pos 1) dotted); test = no_test })

-- '[' '1' '..' INT ']'
abbrev pub array_size : Production (Bool × IntText)
array_size = behind_mark (opens Square) (chain one (λ dotted. behind_mark (stop DoubleDot) (before_mark (integer no_test) (closes Square))))

-- the elements are as many as declared
abbrev pub size_test : IntText → List BasicText → Option Fault
size_test size kept = refuse_if (not (length kept == count_of size.0)) Kind

-- ---- elements

-- a constant of the kind
abbrev pub constant_element : Context → Bool → List BasicText → BasicText → Option Fault
constant_element context bools kept text =
    or_else (known (meaning context text) (if bools then bool_const_test else const_test no_test)) (one_more context (length kept))

abbrev pub is_in : SetWords → ℤ → Bool
is_in (inl numbers) value = list_any (λ p. not (lt_z p.0 value) && not (lt_z value p.0)) numbers
is_in (inr bounds) value = not (lt_z value bounds.0.0) && not (lt_z bounds.1.0 value)

-- a constant lies in the type
abbrev pub type_test : TypeWords → Meant → Option Fault
type_test (inl bool) = bool_test
type_test (inr (inl int)) = int_test no_test
type_test (inr (inr set)) = int_test (λ value. refuse_if (not (is_in set value)) Kind)

abbrev pub variable_element : Context → TypeWords → List BasicText → BasicText → Option Fault
variable_element context type kept text = or_else (known (meaning context text) (type_test type)) (one_more context (length kept))

-- ---- how an array is printed

-- the ranges of `output_array`: '[' range (',' range)* ']' ')'
abbrev pub output_ranges : Production (List (IntText × IntText))
output_ranges = before_mark (behind_mark (opens Square) (listed (record {
  is_separator = is_stop Comma;
  separator = Plain (Stop Comma);
  is_close = is_close Square;
  item = λ kept. range no_test;
  close = λ kept. closes Square;
}))) (closes Round)

abbrev pub product : List (IntText × IntText) → ℕ
product [] = 1
product (p ∷ ranges) = count_of (p.1.0 -ℤ p.0.0 +ℤ pos 1) * product ranges

-- one or more ranges, whose sizes multiply to the number of elements
abbrev pub fit : ℕ → Result (List (IntText × IntText)) (Cause Fault × List Word) → Bool
fit count (Ok []) = false
fit count (Ok (p ∷ ranges)) = product (p ∷ ranges) == count
fit count (Err refusal) = false

abbrev pub args_fit : ℕ → Option Balanced → Bool
args_fit count None = false
args_fit count (Some args) = fit count (whole output_ranges (spell_inside bracketing (Round ∷ []) args))

abbrev pub output_test : ℕ → Option Annotation → Option Fault
output_test count None = None
output_test count (Some note) = refuse_if (not (args_fit count note.args)) Kind

-- the first `output_array` counts, and no other
abbrev pub notes_test : IntText → List Annotation → Option Fault
notes_test size notes = output_test (count_of size.0) (find (λ note. bytes_eq note.name (codes "output_array")) notes)

-- ---- the items

-- 'bool' or 'int'
abbrev pub is_bools : Unit {0} ⊎ Unit {0} → Bool
is_bools (inl bool) = true
is_bools (inr int) = false

-- ('int' | 'bool') ':' NAME annotations '=' arraylit ';'
abbrev pub constants : Context → IntText → Production ((Unit {0} ⊎ Unit {0}) × (List ℕ × Annotated (List BasicText)))
constants context size =
    chain (either (is_key key.Bool) (keyword key.Bool) (keyword key.Int)) (λ kind.
    parameter context (array_literal (constant_element context (is_bools kind)) (size_test size)))

-- '=' arraylit ';', where the annotations are tested at the end
abbrev pub elements_end : Context → IntText → TypeWords → List Annotation → Production (List BasicText)
elements_end context size type notes =
    behind_mark (stop Equals) (before_mark (array_literal (variable_element context type) (size_test size))
    (tested_mark (is_stop Semicolon) (Plain (Stop Semicolon)) (notes_test size notes)))

-- 'var' vtype ':' NAME annotations '=' arraylit ';'
abbrev pub variables : Context → IntText → Production (TypeWords × (List ℕ × Annotated (List BasicText)))
variables context size =
    behind_mark (keyword key.Var) (chain (var_type (domain_test context) beyond_small) (λ type.
    behind_mark (stop Colon) (chain (name (fresh context)) (λ bytes. annotated (elements_end (with_elements context (type_elements type)) size type)))))

-- 'array' '[' '1' '..' INT ']' 'of', and the one or the other
abbrev pub array_item : Context → Production ((Bool × IntText) × ((TypeWords × (List ℕ × Annotated (List BasicText))) ⊎ ((Unit {0} ⊎ Unit {0}) × (List ℕ × Annotated (List BasicText)))))
array_item context =
    behind_mark (keyword key.Array) (chain array_size (λ size.
    behind_mark (keyword key.Of) (either (is_key key.Var) (variables context size.1) (constants context size.1))))
