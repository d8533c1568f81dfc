-- What is left of the variable's set.
use Rattle.dp_justify.proofs.GoneLaws.{leave_step}
use Rattle.dp_justify.proofs.gone.leave.Goals as goal

pub returns-clause-pairs : goal.returns-clause-pairs
returns-clause-pairs c = leave_step c.args.gone.now.items c.args.atom c.index_mut.inside.0 c.var.result c.index_mut-set.result.now c.exclude.new.self c.index_mut.view_is c.var.ensures c.requires c.index_mut-set.ensures.value c.in_ok-exclude.ensures.kept
