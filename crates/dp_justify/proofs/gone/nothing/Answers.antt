-- One more set without a value.
use Rattle.std.proofs.Common.{arith}
use Rattle.dp_justify.proofs.GoneLaws.{more_empty}
use Rattle.dp_justify.proofs.gone.nothing.Goals as goal

pub loop-preserved : goal.loop-preserved
loop-preserved c = (grind (arith, c.in_ok-push.ensures.items), more_empty c.loop.gone.items c.push.new.self.items c.in_ok-of.field-0 c.loop.invariant.1 c.in_ok-of.ensures.numbers c.in_ok-push.ensures.items)
