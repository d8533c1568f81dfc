-- What is accepted is of the goal, and is true of the model.
use Rattle.dp_command.proofs.Proves.{aimed_of, proving_is}
use Rattle.dp_command.proofs.prove.prove_problem.Goals as goal

pub proving_of-requires : goal.proving_of-requires
proving_of-requires g c = aimed_of c.args.model.now c.args.problem.now c.args.conflicts c.in_ok-proof.proof c.goal-goal.ensures.problem c.in_ok-proof.ensures

pub returns : goal.returns
returns g c =
    proving_is c.args.model.now c.args.problem.now c.args.conflicts c.in_ok-proof.proof c.in_ok-proving.proving c.goal-goal.ensures.problem c.requires.problem c.in_ok-proof.ensures
    c.in_ok-proving.ensures
