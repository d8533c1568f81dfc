-- One interval more.
use Rattle.std.proofs.Common.{pos}
use Rattle.dp_rule_alldiff.specs.Tight.{value_in}
use Rattle.dp_rule_alldiff.proofs.FirstSteps.{least_all, least_step, small_hole}
use Rattle.dp_rule_alldiff.proofs.turn.hole_in.Goals as goal

pub loop-interval-preserved : goal.loop-interval-preserved
loop-interval-preserved c =
    least_step (value_in c.args.set.now _) c.args.from.now c.loop-interval.interval-index (pos 0, pos 0) c.loop-interval.least _ c.value_in.result c.loop-interval-test.true c.loop-interval.invariant
    c.value_in.ensures
    c.lesser-least.ensures

pub returns-clause-small : goal.returns-clause-small
returns-clause-small c = small_hole c.args.from.now c.args.set.now _ c.loop-interval.least c.requires (least_all (value_in c.args.set.now _) c.args.from.now c.loop-interval.interval-index c.loop-interval.least c.loop-interval-test.false c.loop-interval.invariant)
