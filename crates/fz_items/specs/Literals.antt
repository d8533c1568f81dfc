-- Integers, ranges, sets and the types of variables, as the code reads them.
use Rattle.std.specs.Prelude.{ℕ, Bool, length, map, Option, ℤ}
use Rattle.std.proofs.Common.{inl, inr}
use Rattle.dp_grammar.specs.Brackets.{Plain}
use Rattle.dp_grammar.specs.Listed.{Listing}
use Rattle.fz_model.specs.Context.{Context, one_more}
use Rattle.fz_model.specs.Items as grammar
use Rattle.fz_model.specs.Limits.{or_else, beyond_small, no_test}
use Rattle.fz_model.specs.Literals.{integer}
use Rattle.fz_model.specs.Marks.{is_stop, is_close, closes}
use Rattle.fz_model.specs.declared.fault.Fault.{Fault}
use Rattle.fz_model.specs.Words.{Curly, Comma, Word, Stop}
use Rattle.fz_items.specs.Seen.{number_of}
use Rattle.fz_items.specs.declared.literals.Bound.{Bound}
use Rattle.fz_items.specs.declared.literals.Bound.TheVariants.{Small, Any}
use Rattle.fz_items.specs.declared.text.Number.{Number}
use Rattle.fz_items.specs.declared.text.SetWords.{SetWords}
use Rattle.fz_items.specs.declared.text.SetWords.TheVariants as set
use Rattle.fz_items.specs.declared.text.TypeWords.{TypeWords}
use Rattle.fz_items.specs.declared.text.TypeWords.TheVariants as type

-- what a bound refuses
abbrev pub bound_test : Bound → ℤ → Option Fault
bound_test Small = beyond_small
bound_test Any = no_test

-- what refuses a number of a list, behind as many
abbrev pub list_test : Context → Bound → ℕ → ℤ → Option Fault
list_test context bound count value = or_else (bound_test bound value) (one_more context count)

-- the numbers of a list
abbrev pub number_listing : Context → Bound → Listing Word Fault (ℤ × Bool)
number_listing context bound = record {
  is_separator = is_stop Comma;
  separator = Plain (Stop Comma);
  is_close = is_close Curly;
  item = λ kept. integer (list_test context bound (length kept));
  close = λ kept. closes Curly;
}

-- ---- values

abbrev pub range_of : Number × Number → (ℤ × Bool) × (ℤ × Bool)
range_of p = (number_of p.0, number_of p.1)

abbrev pub set_words : SetWords → grammar.SetWords
set_words (set.List numbers) = inl (map number_of numbers.items)
set_words (set.Range low high) = inr (number_of low, number_of high)

abbrev pub type_words : TypeWords → grammar.TypeWords
type_words type.Bool = inl tt
type_words type.Int = inr (inl tt)
type_words (type.Set set) = inr (inr (set_words set))

-- how many numbers are listed
abbrev pub set_count : SetWords → ℕ
set_count (set.List numbers) = length numbers.items
set_count (set.Range low high) = 0

abbrev pub type_count : TypeWords → ℕ
type_count (type.Set set) = set_count set
type_count _ = 0
