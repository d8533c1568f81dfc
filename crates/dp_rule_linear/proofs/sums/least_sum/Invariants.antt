-- The sum so far, with what is left, is the whole.
use Rattle.dp_rule_linear.proofs.SumSteps.{IsSumSoFar}
use Rattle.dp_rule_linear.proofs.sums.least_sum.Given as goal

abbrev pub invariant-loop-coefficient : goal.invariant-loop-coefficient
invariant-loop-coefficient l = IsSumSoFar l.state l.terms l.coefficient-index l.sum
