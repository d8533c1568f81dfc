-- The search begins with nothing written, and ends decided where there is room for each set of sorts.
use Rattle.std.proofs.Common.{rules}
use Rattle.dp_desk.specs.Sight.{output}
use Rattle.dp_learning.specs.Solutions.{cut_problem}
use Rattle.dp_solver.proofs.RoundSteps.{decided-enough, fresh-searching, stopped-fresh}
use Rattle.dp_solver.proofs.WritingSteps.{on-err}
use Rattle.dp_solver.proofs.solving.solve_cut.Goals as goal

pub returns-in_err-index-clause-part : goal.returns-in_err-index-clause-part
returns-in_err-index-clause-part g c =
    on-err c.from_residual.result _ (stopped-fresh (cut_problem c.args.problem.now c.args.atoms.now c.args.goal) c.args.conflicts (output c.args.out (g.D.Desk.sight c.args.desk.now)) c.requires.opened)

pub returns-in_err-search-clause-part : goal.returns-in_err-search-clause-part
returns-in_err-search-clause-part g c =
    on-err c.from_residual-in_err-search.result _ (stopped-fresh (cut_problem c.args.problem.now c.args.atoms.now c.args.goal) c.args.conflicts (output c.args.out (g.D.Desk.sight c.args.desk.now)) c.requires.opened)

pub search_on-requires : goal.search_on-requires
search_on-requires g c =
    let fresh = fresh-searching (cut_problem c.args.problem.now c.args.atoms.now c.args.goal) c.args.conflicts (output c.args.out (g.D.Desk.sight c.args.desk.now)) c.in_ok-search.search c.in_ok-search.ensures c.requires.opened in
    search (rules, fresh)

pub returns-clause-decided : goal.returns-clause-decided
returns-clause-decided g c = λ enough.
    decided-enough (cut_problem c.args.problem.now c.args.atoms.now c.args.goal) c.args.conflicts (output c.args.out (g.D.Desk.sight c.args.desk.now)) (output c.args.out (g.D.Desk.sight c.search_on.new.desk)) c.search_on.result
    c.in_ok-search.ensures.on.engine.problem enough c.search_on.ensures.solved
