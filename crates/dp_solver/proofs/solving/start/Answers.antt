-- The engine stands at the initial domains as they are cut.
use Rattle.std.proofs.Common.{[], ◌∙◌, refl, subst}
use Rattle.dp_engine.specs.Engines.{Starts}
use Rattle.dp_engine.specs.Indexes.{Indexed}
use Rattle.dp_solver.proofs.RoundSteps.{fresh-on}
use Rattle.dp_solver.proofs.solving.start.Goals as goal

pub returns : goal.returns
returns c =
    let starts : Starts c.args.task.now.problem.now [] c.in_ok-engine.engine = subst (λ (i : Indexed). Starts i.problem i.nogoods c.in_ok-engine.engine) c.requires.index c.in_ok-engine.ensures in
    record {
      on = fresh-on c.args.task.now.problem.now c.args.task.now.atoms.now c.args.task.now.goal c.in_ok-engine.engine c.assume.new.self c.mark-root.result
          c.goal-goal.ensures.problem c.requires.goal starts c.in_ok-assume.ensures.parts c.in_ok-assume.ensures.present c.mark-root.ensures;
      none = c.in_ok-assume.ensures.parts.nogoods ∙ starts.nogoods;
      empty = c.new-2.ensures;
      count = refl;
    }
