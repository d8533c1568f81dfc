-- The file and the answer written whole, and that what they say is true of the model.
use Rattle.fz_solve.proofs.Files.{part_told, solved_ok}
use Rattle.fz_solve.proofs.Truths.{truth_of}
use Rattle.fz_solve.proofs.solving.solve_model.Goals as goal

pub returns-clause-solved : goal.returns-clause-solved
returns-clause-solved g c =
    let h = c.in_ok-outcome.ensures.whole in
    let truth = truth_of c.args.model.now c.args.problem.now c.args.conflicts h.found.nogoods h.found.claim c.in_ok-outcome.outcome
    c.goal-asked.ensures.model c.goal-posed.ensures.problem c.requires.problem c.requires.same h.found.learned h.found.outcome_is in
    solved_ok c.args.model.now c.args.problem.now c.args.conflicts (g.D.Desk.sight c.args.desk.now) (g.D.Desk.sight c.solve_to_file.new.desk) (g.D.Desk.sight c.tell.new.desk)
    c.in_ok-outcome.outcome c.tell.result c.solve_to_file.ensures.rest c.tell.ensures.rest h truth c.tell.ensures.told c.tell.ensures.status

pub returns-clause-front : goal.returns-clause-front
returns-clause-front g c =
    part_told c.args.model.now c.args.problem.now c.args.conflicts (g.D.Desk.sight c.args.desk.now) (g.D.Desk.sight c.solve_to_file.new.desk) (g.D.Desk.sight c.tell.new.desk)
    c.in_ok-outcome.outcome c.tell.result c.solve_to_file.ensures.rest c.tell.ensures.rest c.in_ok-outcome.ensures.whole c.tell.ensures.part
