-- After the numbers that were there stand those from the first up to the next.
use Rattle.dp_domain.proofs.RunSteps.{Runs}
use Rattle.dp_domain.proofs.intervals.push_numbers.Given as goal

abbrev pub invariant-loop-number : goal.invariant-loop-number
invariant-loop-number l = Runs l.initial.numbers.items l.numbers.items l.first l.last l.number
