-- The product is least at the least value for a positive coefficient, and else at the greatest.
use Rattle.std.proofs.Common.{arith}
use Rattle.std.proofs.lemmas.Int.{ints}
use Rattle.dp_rule_linear.proofs.SumSteps.{lower_least, lower_small, upper_least, upper_small}
use Rattle.dp_rule_linear.proofs.sums.least_at.Goals as goal

pub returns-then-coefficient-gt0-clause-least : goal.returns-then-coefficient-gt0-clause-least
returns-then-coefficient-gt0-clause-least c = lower_least c.args.state.now c.args.coefficient c.args.var _ (omega (arith, ints)) c.lower.ensures.least

pub returns-then-coefficient-gt0-clause-small : goal.returns-then-coefficient-gt0-clause-small
returns-then-coefficient-gt0-clause-small c = lower_small _ _ c.lower.ensures.domain c.lower.ensures.least

pub returns-else-coefficient-gt0-clause-least : goal.returns-else-coefficient-gt0-clause-least
returns-else-coefficient-gt0-clause-least c = upper_least c.args.state.now c.args.coefficient c.args.var _ (omega (arith, ints)) c.upper.ensures.greatest

pub returns-else-coefficient-gt0-clause-small : goal.returns-else-coefficient-gt0-clause-small
returns-else-coefficient-gt0-clause-small c = upper_small _ _ c.upper.ensures.domain c.upper.ensures.greatest
