use Rattle.std.proofs.Common.{◌≡◌, ◌++◌, drop}
use Rattle.std.specs.List.{flat_map}
use Rattle.std.specs.Fmt.{decimal}
use Rattle.dp_lines.specs.Spelling.{field}
use Rattle.dp_lines.proofs.text.push_numbers.Given as goal

abbrev pub invariant-loop-number : goal.invariant-loop-number
invariant-loop-number l =
    l.text.items ++ flat_map (λ k. field (decimal k)) (drop l.number-index l.numbers)
    ≡ l.fn.text.items ++ flat_map (λ k. field (decimal k)) l.numbers
