use Rattle.std.proofs.Common.{◌≡◌, ◌++◌, drop}
use Rattle.fz_print.specs.Printed.{further_text, range_text}
use Rattle.fz_print.proofs.literals.push_further_ranges.Given as goal

abbrev pub invariant-loop-range : goal.invariant-loop-range
invariant-loop-range l =
    l.text.items ++ further_text (λ r. range_text r.0 r.1) (drop l.range-index l.ranges)
    ≡ l.fn.text.items ++ further_text (λ r. range_text r.0 r.1) l.ranges
