-- A file that was not opened, and one that holds what was found.
use Rattle.std.proofs.Common.{ap}
use Rattle.dp_desk.specs.Sight.{Sight}
use Rattle.fz_solve.proofs.Files.{holds_found, on_err, unopened}
use Rattle.fz_solve.specs.Solved.{FilesFront}
use Rattle.fz_solve.proofs.solving.solve_to_file.Goals as goal

pub returns-in_err-open_out-clause-front : goal.returns-in_err-open_out-clause-front
returns-in_err-open_out-clause-front g c =
    let was = (g.D.Desk.sight c.args.desk.now).first in
    let now = (g.D.Desk.sight c.open_out.new.self).first in
    on_err c.from_residual.result (FilesFront c.args.problem.now c.args.conflicts was now)
    (unopened c.args.problem.now c.args.conflicts was now (ap (λ (t : Sight). t.first) c.in_err-open_out.ensures.failed))

pub returns-clause-whole : goal.returns-clause-whole
returns-clause-whole g c =
    holds_found c.args.problem.now c.args.conflicts (g.D.Desk.sight c.open_out.new.self).first (g.D.Desk.sight c.solve.new.desk).first c.solve.result
    c.in_ok-open_out.ensures.opened c.solve.ensures.solved
