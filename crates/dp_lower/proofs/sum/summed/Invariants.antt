-- The sum so far, with what is left, is the whole.
use Rattle.dp_lower.specs.Merged.{sum_in}
use Rattle.dp_lower.proofs.MergeLaws.{IsSummed}
use Rattle.dp_lower.proofs.sum.summed.Given as goal

abbrev pub invariant-loop-coefficient : goal.invariant-loop-coefficient
invariant-loop-coefficient l = IsSummed l.terms l.coefficient-index (sum_in l.coefficients.entries l.constant)
