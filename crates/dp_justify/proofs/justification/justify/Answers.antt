use Rattle.dp_engine.proofs.SeenLaws.{keeps-over, starts-over}
use Rattle.dp_justify.proofs.justification.justify.Goals as goal

pub returns-clause-over : goal.returns-clause-over
returns-clause-over c =
    keeps-over c.args.index.now c.go_to.new.self c.justify_next.new.engine (starts-over c.args.index.now c.go_to.new.self c.args.place c.in_ok-go_to.ensures.starts) c.justify_next.ensures.parts
