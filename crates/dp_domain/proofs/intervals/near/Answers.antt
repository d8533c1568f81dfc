-- Those that do not end before it, and of these those that do not begin after it.
use Rattle.std.proofs.Common.{arith}
use Rattle.std.proofs.lemmas.Int.{ints}
use Rattle.dp_domain.proofs.ReachSteps.{apart_from, near_is}
use Rattle.dp_domain.proofs.intervals.near.Goals as goal

pub up_to-requires : goal.up_to-requires
up_to-requires c = apart_from c.args.intervals.now _ _ c.from.ensures c.requires

pub returns : goal.returns
returns c = near_is c.args.intervals.now _ _ c.args.interval _ _ (omega (arith, ints)) (omega (arith, ints)) c.from.ensures c.up_to.ensures
