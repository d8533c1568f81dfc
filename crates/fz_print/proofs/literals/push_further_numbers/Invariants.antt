use Rattle.std.proofs.Common.{◌≡◌, ◌++◌, drop}
use Rattle.fz_print.specs.Printed.{further_text, integer_text}
use Rattle.fz_print.proofs.literals.push_further_numbers.Given as goal

abbrev pub invariant-loop-number : goal.invariant-loop-number
invariant-loop-number l =
    l.text.items ++ further_text integer_text (drop l.number-index l.numbers)
    ≡ l.fn.text.items ++ further_text integer_text l.numbers
