use Rattle.dp_engine.proofs.SeenLaws.{resized-kept}
use Rattle.dp_engine.proofs.woken.resize.Goals as goal

pub returns-clause-kept : goal.returns-clause-kept
returns-clause-kept c =
    resized-kept c.args.count c.args.woken.now c.grow-grown.ensures.grown.0 c.grow-grown.new.woken c.cut-2.new.self c.grow-grown.ensures.grown.1 c.grow-grown.ensures.grown.2 c.cut-2.ensures
