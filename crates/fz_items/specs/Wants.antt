-- What is wanted where a literal or a name stands.
use Rattle.std.specs.Prelude.{ℕ, ◌==◌, Bool, not, ◌&&◌, length, Option, Some, None, ℤ}
use Rattle.std.specs.Int.Signed.{lt_z}
use Rattle.dp_grammar.specs.Brackets.{Plain, Closes}
use Rattle.dp_grammar.specs.Leaf.{tested_mark}
use Rattle.dp_grammar.specs.Listed.{Listing}
use Rattle.fz_model.specs.Arrays.{is_in, type_test, count_of}
use Rattle.fz_model.specs.Constraints.{argument_test, element_test}
use Rattle.fz_model.specs.Context.{Context, BasicText, meaning, known, one_more, bool_test, bool_const_test, const_test, int_test}
use Rattle.fz_model.specs.Items.{basic}
use Rattle.fz_model.specs.Limits.{or_else, refuse_if, beyond_small, no_test}
use Rattle.fz_model.specs.Marks.{is_stop, is_close}
use Rattle.fz_model.specs.declared.fault.Fault.{Fault}
use Rattle.fz_model.specs.declared.fault.Fault.TheVariants.{Kind}
use Rattle.fz_model.specs.declared.meant.Meant.{Meant}
use Rattle.fz_model.specs.Words.{Square, Comma, Word, Stop}
use Rattle.fz_items.specs.Literals.{set_words, type_words}
use Rattle.fz_items.specs.declared.text.Number.{Number}
use Rattle.fz_items.specs.declared.text.SetWords.{SetWords}
use Rattle.fz_items.specs.declared.want.Want.{Want}
use Rattle.fz_items.specs.declared.want.Want.TheVariants as want

-- the number is of this value
abbrev pub has_value : ℤ → ℤ × Bool → Bool
has_value value p = not (lt_z p.0 value) && not (lt_z value p.0)

-- the value is one of the set
abbrev pub is_within : SetWords → ℤ → Bool
is_within set value = is_in (set_words set) value

abbrev pub want_test : Want → Meant → Option Fault
want_test want.Bool = bool_test
want_test want.BoolConst = bool_const_test
want_test want.Const = const_test no_test
want_test want.SmallInt = int_test beyond_small
want_test (want.Typed type) = type_test (type_words type.now)
want_test (want.Argument kind) = argument_test kind
want_test (want.Element kind) = element_test kind

-- what refuses an element of an array, behind as many
abbrev pub element_wanted : Context → Want → ℕ → BasicText → Option Fault
element_wanted context want count text = or_else (known (meaning context text) (want_test want)) (one_more context count)

-- so many elements are not as many as declared, where a number is declared
abbrev pub size_wanted : Option Number → ℕ → Option Fault
size_wanted None count = None
size_wanted (Some size) count = refuse_if (not (count == count_of size.value)) Kind

-- the elements of an array
abbrev pub element_listing : Context → Want → Option Number → Listing Word Fault BasicText
element_listing context want size = record {
  is_separator = is_stop Comma;
  separator = Plain (Stop Comma);
  is_close = is_close Square;
  item = λ kept. basic (element_wanted context want (length kept));
  close = λ kept. tested_mark (is_close Square) (Closes Square) (size_wanted size (length kept));
}
