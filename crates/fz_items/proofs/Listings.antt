-- The lists of models are lawful lists.
use Rattle.std.proofs.Common.{length, Option, refl}
use Rattle.dp_grammar.specs.Brackets.{Closes}
use Rattle.dp_grammar.specs.Listed.{IsListing}
use Rattle.fz_model.specs.Context.{Context}
use Rattle.fz_model.specs.Words.{Curly, Square, Comma}
use Rattle.fz_model.specs.Limits.{no_test}
use Rattle.fz_items.specs.Notes.{range_listing}
use Rattle.fz_model.specs.Marks.{is_close}
use Rattle.dp_grammar.proofs.Leaves.{tested_mark_lawful}
use Rattle.fz_model.proofs.ItemLaws.{basic_lawful, basic_no_close}
use Rattle.fz_model.proofs.LiteralLaws.{integer_lawful, range_lawful}
use Rattle.fz_model.proofs.MarkLaws.{stop_is_only, close_is_only, closes_lawful}
use Rattle.fz_items.specs.Literals.{list_test, number_listing}
use Rattle.fz_items.specs.Wants.{element_listing, element_wanted, size_wanted}
use Rattle.fz_items.specs.declared.text.Number.{Number}
use Rattle.fz_items.specs.declared.want.Want.{Want}
use Rattle.fz_items.specs.declared.literals.Bound.{Bound}

pub number_listing_is : (context : Context) (bound : Bound) → IsListing (number_listing context bound)
number_listing_is context bound = record {
  separates = stop_is_only Comma;
  item = λ kept. integer_lawful (list_test context bound (length kept));
  close = λ kept. closes_lawful Curly;
  begins = λ kept x. refl;
  closes = λ kept u. refl;
  apart = λ kept u. refl;
}

pub element_listing_is : (context : Context) (want : Want) (size : Option Number) → IsListing (element_listing context want size)
element_listing_is context want size = record {
  separates = stop_is_only Comma;
  item = λ kept. basic_lawful (element_wanted context want (length kept));
  close = λ kept. tested_mark_lawful (is_close Square) (Closes Square) (size_wanted size (length kept)) (close_is_only Square);
  begins = λ kept x. basic_no_close Square x;
  closes = λ kept u. refl;
  apart = λ kept u. refl;
}

pub range_listing_is : IsListing range_listing
range_listing_is = record {
  separates = stop_is_only Comma;
  item = λ kept. range_lawful no_test;
  close = λ kept. closes_lawful Square;
  begins = λ kept x. refl;
  closes = λ kept u. refl;
  apart = λ kept u. refl;
}
