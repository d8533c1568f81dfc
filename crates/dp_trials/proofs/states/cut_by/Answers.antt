-- A cut of a state within the initial one is within it.
use Rattle.dp_domain.proofs.StateLaws.{IsWithin-trans}
use Rattle.dp_trials.proofs.states.cut_by.Goals as goal

pub loop-atom-preserved : goal.loop-atom-preserved
loop-atom-preserved c = IsWithin-trans c.args.initial.now _ c.cut.new.state c.in_ok-cut.ensures c.loop-atom.invariant
