use Rattle.std.proofs.Common.{◌≡◌, ◌++◌, drop}
use Rattle.fz_print.specs.Printed.{further_text, basic_text}
use Rattle.fz_print.proofs.literals.push_further_elements.Given as goal

abbrev pub invariant-loop-element : goal.invariant-loop-element
invariant-loop-element l =
    l.text.items ++ further_text (basic_text l.items) (drop l.element-index l.elements)
    ≡ l.fn.text.items ++ further_text (basic_text l.items) l.elements
