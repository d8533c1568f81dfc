-- One interval more.
use Rattle.std.proofs.Common.{pos}
use Rattle.std.proofs.lemmas.Int.{to_z-of_z}
use mir.Syntax.{w64}
use Rattle.dp_rule_alldiff.specs.Tight.{start_over}
use Rattle.dp_rule_alldiff.proofs.BlockLaws.{over_bounds}
use Rattle.dp_rule_alldiff.proofs.FirstSteps.{least_all, least_step, over_same}
use Rattle.dp_rule_alldiff.proofs.turn.first_over.Goals as goal

pub loop-interval-preserved : goal.loop-interval-preserved
loop-interval-preserved c =
    least_step (start_over _ _) c.args.intervals.now c.loop-interval.interval-index (pos 0, pos 0) c.loop-interval.least _ c.start_over.result c.loop-interval-test.true c.loop-interval.invariant c.start_over.ensures c.lesser-least.ensures

pub returns-clause-within : goal.returns-clause-within
returns-clause-within c =
    over_bounds c.args.intervals.now c.args.lower c.args.upper c.loop-interval.least
    (over_same c.args.intervals.now c.args.lower c.args.upper _ _ c.loop-interval.least (to_z-of_z w64 c.args.lower c.ranges.lower) (to_z-of_z w64 c.args.upper c.ranges.upper)
    (least_all (start_over _ _) c.args.intervals.now c.loop-interval.interval-index c.loop-interval.least c.loop-interval-test.false c.loop-interval.invariant))
