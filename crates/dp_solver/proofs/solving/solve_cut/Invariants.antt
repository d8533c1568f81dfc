-- What was written is told from the beginning on.
use Rattle.dp_desk.specs.Sight.{output}
use Rattle.dp_solver.proofs.solving.solve_cut.Given as goal

abbrev pub ghost-search_on : goal.ghost-search_on
ghost-search_on g a = output a.out (g.D.Desk.sight a.desk.now)
