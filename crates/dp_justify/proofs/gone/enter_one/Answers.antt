-- The variable's set is joined with the initial values that fail the atom.
use Rattle.dp_justify.proofs.GoneLaws.{enter_one_step}
use Rattle.dp_justify.proofs.gone.enter_one.Goals as goal

pub returns-clause-pairs : goal.returns-clause-pairs
returns-clause-pairs c = enter_one_step c.args.gone.now.items c.args.initial.now c.args.atom c.negated.result c.place.inside.0 c.var.result c.var-2.result c.index.result.now c.set.result.now c.in_ok-excluded.excluded c.exclude.new.self c.in_ok-joined.joined
    c.place.view_is c.var.ensures c.var-2.ensures c.requires.gone c.index.ensures c.set.ensures c.in_ok-excluded.ensures c.negated.ensures c.in_ok-exclude.ensures.kept c.in_ok-joined.ensures
