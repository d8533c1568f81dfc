use Rattle.std.proofs.Common.{◌≡◌, length}
use Rattle.dp_lines.specs.Fields.{numbers}
use Rattle.dp_lines.proofs.ManyLaws.{with_front}
use Rattle.dp_lines.proofs.fields.numbers.Given as goal

abbrev pub invariant-loop-numbers : goal.invariant-loop-numbers
invariant-loop-numbers l = (with_front l.numbers.items (numbers l.words.words) ≡ numbers l.initial.words.words) × (l.words.end ≡ l.initial.words.end)

abbrev pub decreases-loop-numbers : goal.decreases-loop-numbers
decreases-loop-numbers l = length l.words.words
