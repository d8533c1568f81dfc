-- One is near exactly where one of all reaches it.
use Rattle.dp_domain.proofs.ReachSteps.{reach_is}
use Rattle.dp_domain.proofs.intervals.reach.Goals as goal

pub returns : goal.returns
returns c = reach_is c.args.intervals.now _ c.args.interval _ c.near.ensures c.is_empty.ensures
