-- What was added so far, with what is left, is the whole.
use Rattle.std.proofs.Common.{◌≡◌, ◌++◌, drop}
use Rattle.std.specs.List.{flat_map}
use Rattle.dp_lower.specs.Intervals.{clipped}
use Rattle.dp_lower.proofs.intervals.push_numbers.Given as goal

abbrev pub invariant-loop-number : goal.invariant-loop-number
invariant-loop-number l = l.intervals.items ++ flat_map (λ n. clipped n n) (drop l.number-index l.numbers) ≡ l.initial.intervals.items ++ flat_map (λ n. clipped n n) l.numbers
