-- What is printed is read as the same model.
use Rattle.std.specs.Prelude.{◌≡◌, ℕ, ◌≤◌, nat_le, true, Option, None, Result, Ok, length, List}
use Rattle.std.proofs.Common.{refl, ◌∙◌, ap, arith}
use Rattle.std.proofs.lemmas.Bool.Decides.{nat_tests}
use Rattle.dp_grammar.specs.Grammar as grammar
use Rattle.fz_token.specs.Stream.{Stream, stream}
use Rattle.fz_token.specs.declared.TokenRefusal.{TokenRefusal}
use Rattle.fz_items.specs.Answers.{answered, max_bytes, modelled, model_text, within_limit}
use Rattle.fz_items.specs.declared.refusal.ModelRefusal.{ModelRefusal}
use Rattle.fz_model.specs.Models.{IsModel, Plan, model_of}
use Rattle.fz_model.specs.ModelText.{ModelWords, model_words}
use Rattle.fz_model.specs.Words.{Word, words}
use Rattle.fz_model.specs.declared.fault.Fault.{Fault}
use Rattle.fz_print.specs.Canonical.{canonical}
use Rattle.fz_print.specs.Printed.{printed}
use Rattle.fz_print.proofs.Passing.{canonical_means, read_again}
use Rattle.fz_print.proofs.Printing.{printed_words}
use Rattle.fz_print.proofs.SpelledItems.{canonical_spelled}

fits : (size : ℕ) → size ≤ max_bytes → nat_le size max_bytes ≡ true
fits size h = grind (arith, nat_tests, h)

within : (size : ℕ) (answer : Result Plan ModelRefusal) → size ≤ max_bytes → within_limit size answer ≡ answer
within size answer h = rw (fits size h) refl

read_so : (size : ℕ) (s : Stream) (r : Result ModelWords (grammar.Cause Fault × List Word)) (w : ModelWords) → s.refusal ≡ None → r ≡ Ok w → answered size s r ≡ Ok (model_of w)
read_so size s r w e f = ap (λ (q : Result ModelWords (grammar.Cause Fault × List Word)). answered size s q) f ∙ ap (λ (o : Option TokenRefusal). modelled o w) e

-- the text of a model is read as it
pub round_trip : (m : Plan) → IsModel m → length (printed m) ≤ max_bytes → model_text (printed m) ≡ Ok m
round_trip m is short =
    let spelled = canonical_spelled m is in
    within (length (printed m)) (answered (length (printed m)) (stream (printed m)) (model_words (words (printed m) (stream (printed m)).tokens))) short
    ∙ read_so (length (printed m)) (stream (printed m)) (model_words (words (printed m) (stream (printed m)).tokens)) (canonical m) (printed_words m spelled).0 (read_again m is spelled)
    ∙ ap Ok (canonical_means m is)
