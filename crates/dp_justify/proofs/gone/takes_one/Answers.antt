-- The pairs that the atom excludes, and those of the state, share one.
use Rattle.dp_justify.proofs.GoneLaws.{takes_step}
use Rattle.dp_justify.proofs.gone.takes_one.Goals as goal

pub returns : goal.returns
returns c = takes_step c.args.gone.now c.args.before.now c.args.atom c.negated.result c.var.inside.0 c.var-var.result c.index-gone-var.result c.in_ok-excluded.excluded c.exclude.new.self c.set.result.now c.shares.result
    c.var.view_is c.var-var.ensures c.requires.gone c.index-gone-var.is c.in_ok-excluded.ensures c.negated.ensures c.in_ok-exclude.ensures.kept c.set.ensures c.shares.ensures
