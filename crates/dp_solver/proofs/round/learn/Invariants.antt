use Rattle.dp_solver.proofs.round.learn.Given as goal

abbrev pub ghost-add : goal.ghost-add
ghost-add g a = g.was
