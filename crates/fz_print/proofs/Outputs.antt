-- The ranges of an array to be printed read back, and fit where they did.
use Rattle.std.proofs.Common.{◌≡◌, ℕ, ◌*◌, ◌==◌, Bool, true, not, List, [], ◌∷◌, ◌++◌, map, Option, Some, None, Result, Ok, Err, ℤ, pos, ◌+ℤ◌, ◌-ℤ◌, find, bytes_eq, codes, refl, sym, ◌∙◌, ap, append-nil}
use Rattle.std.specs.Option.{option_map_or}
use Rattle.std.proofs.lemmas.Bool.{not-false}
use Rattle.dp_grammar.specs.Brackets.{Plain, Opens, Closes, Open, spell_inside}
use Rattle.dp_grammar.specs.Chain.{behind_mark}
use Rattle.dp_grammar.specs.Choice.{either}
use Rattle.dp_grammar.specs.Grammar.{Cause, IsLawful, verdict}
use Rattle.dp_grammar.specs.Listed.{Listing, further, listed}
use Rattle.dp_grammar.specs.Many.{spell_behind}
use Rattle.dp_grammar.specs.Whole.{finished, whole}
use Rattle.dp_grammar.proofs.Chains.{behind_mark_lawful, before_mark_lawful}
use Rattle.dp_grammar.proofs.Lists.{listed_lawful}
use Rattle.fz_model.specs.Annotations.{Annotation, Balanced}
use Rattle.fz_model.specs.Arrays.{args_fit, count_of, fit, output_ranges, output_test, product}
use Rattle.fz_model.specs.Items.{IntText}
use Rattle.fz_model.specs.Limits.{no_test, refuse_if}
use Rattle.fz_model.specs.Literals.{range}
use Rattle.fz_model.specs.Marks.{closes, is_close, is_stop, opens}
use Rattle.fz_model.specs.Models.{output_of, ranges_of, ranges_read}
use Rattle.fz_model.specs.Words.{Round, Square, Comma, Stop, Word, bracketing}
use Rattle.fz_model.specs.declared.fault.Fault.{Fault}
use Rattle.fz_model.specs.declared.fault.Fault.TheVariants.{Kind}
use Rattle.fz_model.proofs.LiteralLaws.{range_lawful}
use Rattle.fz_model.proofs.MarkLaws.{closes_lawful, opens_lawful, stop_is_only}
use Rattle.fz_facts.proofs.Faults.{EachBehind}
use Rattle.fz_facts.proofs.Passes.{not_refused}
use Rattle.fz_print.specs.Canonical.{further_inside, range_words, ranges_inside}
use Rattle.fz_print.proofs.Unrefused.{before_none, listed_none}

abbrev pub Range : Type 0
Range = IntText × IntText

abbrev pub as_words : ℤ × ℤ → Range
as_words r = range_words r.0 r.1

abbrev pub as_values : Range → ℤ × ℤ
as_values r = (r.0.0, r.1.0)

abbrev pub sizes : Listing Word Fault Range
sizes = record {
  is_separator = is_stop Comma;
  separator = Plain (Stop Comma);
  is_close = is_close Square;
  item = λ kept. range no_test;
  close = λ kept. closes Square;
}

-- ---- reading

pub sizes_lawful : IsLawful output_ranges
sizes_lawful =
    before_mark_lawful (behind_mark (opens Square) (listed sizes)) (closes Round)
    (behind_mark_lawful (opens Square) (listed sizes) (opens_lawful Square)
    (listed_lawful sizes (record {
      separates = stop_is_only Comma;
      item = λ kept. range_lawful no_test;
      close = λ kept. closes_lawful Square;
      begins = λ kept x. refl;
      closes = λ kept c. refl;
      apart = λ kept c. refl;
    })))
    (closes_lawful Round)

each_fine : (kept xs : List Range) → EachBehind (λ before x. (sizes.item before).fault x ≡ None) kept xs
each_fine kept [] = tt
each_fine kept (x ∷ xs) = (refl, each_fine (kept ++ x ∷ []) xs)

sizes_none : (xs : List Range) → output_ranges.fault xs ≡ None
sizes_none xs = before_none (behind_mark (opens Square) (listed sizes)) (closes Round) xs (listed_none sizes xs (each_fine [] xs) refl) refl

read_back : (xs : List Range) → whole output_ranges (output_ranges.spell xs) ≡ Ok xs
read_back xs =
    ap (λ t. finished (output_ranges.read t)) (sym (append-nil (output_ranges.spell xs)))
    ∙ ap (λ r. finished r) (sizes_lawful.again xs [])
    ∙ ap (λ f. finished (verdict f xs [])) (sizes_none xs)

further_spell : (first : Range) (kept : List Range) (rs : List (ℤ × ℤ))
    → spell_behind (λ before. either (further sizes first).goes_on ((further sizes first).item before) ((further sizes first).close before)) kept (map as_words rs) tt ++ Closes Round ∷ []
    ≡ spell_inside bracketing (Square ∷ Round ∷ []) (further_inside rs)
further_spell first kept [] = refl
further_spell first kept (r ∷ rs) = ap (λ t. Plain (Stop Comma) ∷ ((range no_test).spell (as_words r) ++ t)) (further_spell first (kept ++ as_words r ∷ []) rs)

pub ranges_spell : (rs : List (ℤ × ℤ)) → output_ranges.spell (map as_words rs) ≡ spell_inside bracketing (Round ∷ []) (Open Square (ranges_inside rs))
ranges_spell [] = refl
ranges_spell (r ∷ rs) = ap (λ t. Opens Square ∷ ((range no_test).spell (as_words r) ++ t)) (further_spell (as_words r) [] rs)

pub ranges_back : (rs : List (ℤ × ℤ)) → whole output_ranges (spell_inside bracketing (Round ∷ []) (Open Square (ranges_inside rs))) ≡ Ok (map as_words rs)
ranges_back rs = ap (whole output_ranges) (sym (ranges_spell rs)) ∙ read_back (map as_words rs)

-- ---- the annotation

-- the annotation of an array to be printed with these ranges
abbrev pub sized_notes : Option (List (ℤ × ℤ)) → List Annotation
sized_notes None = []
sized_notes (Some rs) = record { name = codes "output_array"; args = Some (Open Square (ranges_inside rs)) } ∷ []

values_words : (rs : List (ℤ × ℤ)) → map as_values (map as_words rs) ≡ rs
values_words [] = refl
values_words (r ∷ rs) = ap (λ l. r ∷ l) (values_words rs)

pub output_again : (o : Option (List (ℤ × ℤ))) → output_of (sized_notes o) ≡ o
output_again None = refl
output_again (Some rs) = ap ranges_read (ranges_back rs) ∙ ap (λ l. Some l) (values_words rs)

same_product : (xs : List Range) → product (map as_words (map as_values xs)) ≡ product xs
same_product [] = refl
same_product (p ∷ xs) = ap (λ n. count_of (p.1.0 -ℤ p.0.0 +ℤ pos 1) * n) (same_product xs)

same_fit : (count : ℕ) (xs : List Range) → fit count (Ok xs) ≡ true → fit count (Ok (map as_words (map as_values xs))) ≡ true
same_fit count [] e = absurd cc
same_fit count (p ∷ xs) e = ap (λ n. n == count) (same_product (p ∷ xs)) ∙ e

abbrev pub is_sized : Annotation → Bool
is_sized note = bytes_eq note.name (codes "output_array")

read_fits : (count : ℕ) (r : Result (List Range) (Cause Fault × List Word)) → fit count r ≡ true → output_test count (find is_sized (sized_notes (ranges_read r))) ≡ None
read_fits count (Err refusal) e = absurd cc
read_fits count (Ok xs) e =
    let rs = map as_values xs in
    ap (λ r. refuse_if (not (fit count r)) Kind) (ranges_back rs) ∙ ap (λ b. refuse_if (not b) Kind) (same_fit count xs e)

args_fit_again : (count : ℕ) (args : Option Balanced) → args_fit count args ≡ true → output_test count (find is_sized (sized_notes (ranges_of args))) ≡ None
args_fit_again count None e = absurd cc
args_fit_again count (Some args) e = read_fits count (whole output_ranges (spell_inside bracketing (Round ∷ []) args)) e

-- where the first `output_array` fits, so does that of the canonical spelling
pub fits_again : (count : ℕ) (o : Option Annotation) → output_test count o ≡ None → output_test count (find is_sized (sized_notes (option_map_or (λ note. ranges_of note.args) o None))) ≡ None
fits_again count None e = refl
fits_again count (Some note) e = args_fit_again count note.args (not-false (args_fit count note.args) (not_refused (not (args_fit count note.args)) Kind e))
