-- The arguments of constraints, as the code reads them.
use Rattle.std.specs.Prelude.{ℕ, true, not, length, map, slice_get, Option, ℤ}
use Rattle.std.proofs.Common.{inl, inr}
use Rattle.dp_grammar.specs.Brackets.{Plain, Closes}
use Rattle.dp_grammar.specs.Leaf.{leaf, tested_mark}
use Rattle.dp_grammar.specs.Listed.{Listing}
use Rattle.fz_model.specs.Constraints.{ArgText, ArgTruth, ArgWhole, ArgName, ArgWords, arg_of, arg_word, argument, behind, close_test, dotted_of, wants_array, wants_set}
use Rattle.fz_model.specs.Context.{Context}
use Rattle.fz_model.specs.Items.{IntText}
use Rattle.fz_model.specs.Limits.{refuse_if}
use Rattle.fz_model.specs.Marks.{Production, is_stop, is_close}
use Rattle.fz_model.specs.declared.fault.Fault.{Fault}
use Rattle.fz_model.specs.declared.fault.Fault.TheVariants.{Kind}
use Rattle.fz_model.specs.declared.kinds.ArgKind.{ArgKind}
use Rattle.fz_model.specs.declared.kinds.ConstraintKind.{ConstraintKind}
use Rattle.fz_model.specs.Table.{args_of}
use Rattle.fz_model.specs.Words.{Round, Comma, Word, Number, Stop}
use Rattle.fz_items.specs.Seen.{number_of, basic_text}
use Rattle.fz_items.specs.declared.argument.ArgWords as words
use Rattle.fz_items.specs.declared.argument.ArgWords.TheVariants as arg
use Rattle.fz_items.specs.declared.text.BasicWord.{BasicWord}
use Rattle.fz_items.specs.declared.text.BasicWord.TheVariants as basic
use Rattle.fz_items.specs.declared.text.Number as code

-- an integer that begins a range
abbrev pub dotted : (ℤ → Option Fault) → Production ℤ
dotted test = leaf (record { value = dotted_of; token = λ value. Plain (Number value true); test = test })

-- a literal or a name that begins no range
abbrev pub text : (ArgText → Option Fault) → Production ArgText
text test = leaf (record { value = arg_of; token = arg_word; test = test })

-- where no set is wanted
abbrev pub no_set : Option ArgKind → Option Fault
no_set wanted = refuse_if (not (wants_set wanted)) Kind

-- where no array is wanted
abbrev pub no_array : Option ArgKind → Option Fault
no_array wanted = refuse_if (not (wants_array wanted)) Kind

-- ---- values

abbrev pub arg_text : BasicWord → ArgText
arg_text (basic.Truth value) = ArgTruth value
arg_text (basic.Whole n) = ArgWhole n.value
arg_text (basic.Name bytes) = ArgName bytes.now

abbrev pub range_words : ℤ × code.Number → ℤ × IntText
range_words p = (p.0, number_of p.1)

abbrev pub arg_words : words.ArgWords → ArgWords
arg_words (arg.Set numbers) = inl (map number_of numbers.items)
arg_words (arg.Array elements) = inr (inl (map basic_text elements.items))
arg_words (arg.Range low high) = inr (inr (inl (low, number_of high)))
arg_words (arg.Basic word) = inr (inr (inr (arg_text word)))

-- how many elements it lists
abbrev pub arg_count : words.ArgWords → ℕ
arg_count (arg.Set numbers) = length numbers.items
arg_count (arg.Array elements) = length elements.items
arg_count _ = 0

-- ---- all arguments of a constraint

abbrev pub args_listing : Context → ConstraintKind → Listing Word Fault ArgWords
args_listing context kind = record {
  is_separator = is_stop Comma;
  separator = Plain (Stop Comma);
  is_close = is_close Round;
  item = λ kept. argument (behind context kept) (slice_get (args_of kind) (length kept));
  close = λ kept. tested_mark (is_close Round) (Closes Round) (close_test context kind kept);
}
