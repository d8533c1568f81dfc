-- The lowering's law, and what holds of every model.
use Rattle.dp_command.proofs.Claims.{problem_is}
use Rattle.dp_command.proofs.finding.problem_of.Goals as goal

pub returns : goal.returns
returns c = problem_is c.args.model.now c.in_ok-problem.problem c.goal-goal.ensures.model c.goal-aim.ensures.problem c.in_ok-problem.ensures.problem c.in_ok-problem.ensures.same
