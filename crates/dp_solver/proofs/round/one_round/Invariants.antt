use Rattle.dp_solver.proofs.round.one_round.Given as goal

abbrev pub ghost-conclude : goal.ghost-conclude
ghost-conclude g a = g.was

abbrev pub ghost-learn : goal.ghost-learn
ghost-learn g a = g.was
