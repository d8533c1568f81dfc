-- A value of a domain is small, and so is 0.
use Rattle.dp_domain.specs.States.{values}
use Rattle.dp_solver.proofs.DecisionSteps.{number-small}
use Rattle.dp_solver.proofs.best.number.Goals as goal

pub returns-clause-small : goal.returns-clause-small
returns-clause-small c = number-small (values c.args.state.now c.args.var) c.lower.result c.unwrap_or.result c.lower.ensures.domain c.lower.ensures.least c.unwrap_or.ensures
