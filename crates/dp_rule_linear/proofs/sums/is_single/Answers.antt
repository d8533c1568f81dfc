-- One value is the least and the greatest.
use Rattle.dp_rule_linear.proofs.SumSteps.{single_bits}
use Rattle.dp_rule_linear.proofs.sums.is_single.Goals as goal

pub returns-in-Some-Some-clause-single : goal.returns-in-Some-Some-clause-single
returns-in-Some-Some-clause-single c = single_bits _ _ _ c.lower.ensures.domain c.in-Some-Some.ensures.least c.in-Some-Some.ensures'.greatest
