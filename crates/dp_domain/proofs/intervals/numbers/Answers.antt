use Rattle.std.proofs.Common.{pos}
use Rattle.dp_domain.proofs.RunSteps.{expand_more, expand_none}
use Rattle.dp_domain.proofs.intervals.numbers.Goals as goal

pub loop-interval-init : goal.loop-interval-init
loop-interval-init c = expand_none _ c.new-numbers.ensures.items

pub loop-interval-preserved : goal.loop-interval-preserved
loop-interval-preserved c = expand_more c.args.intervals.now c.loop-interval.interval-index (pos 0, pos 0) _ _ c.loop-interval-test.true c.loop-interval.invariant c.in_ok-push_numbers.ensures
