use Rattle.std.proofs.Common.{◌≡◌, length}
use Rattle.dp_lines.specs.Fields.{literals}
use Rattle.dp_lines.proofs.ManyLaws.{with_front}
use Rattle.dp_lines.proofs.fields.literals.Given as goal

abbrev pub invariant-loop-literals : goal.invariant-loop-literals
invariant-loop-literals l = (with_front l.literals.items (literals l.words.words) ≡ literals l.initial.words.words) × (l.words.end ≡ l.initial.words.end)

abbrev pub decreases-loop-literals : goal.decreases-loop-literals
decreases-loop-literals l = length l.words.words
