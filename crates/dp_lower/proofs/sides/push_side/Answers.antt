-- The parts are added in order.
use Rattle.std.proofs.Common.{arith}
use Rattle.std.proofs.lemmas.Int.{ints}
use Rattle.dp_lower.proofs.SideSteps.{above_read, equal_read}
use Rattle.dp_lower.proofs.sides.push_side.Goals as goal

pub returns-in_ok-push-in-Above : goal.returns-in_ok-push-in-Above
returns-in_ok-push-in-Above c =
    let k = c.requires.bounded in let p = k.0 in let q = k.1 in
    above_read c.args.parts.now.items c.push-in-Above.new.self.items c.in_ok-opposite_at_most-in-Above.field-0 c.args.relation c.args.sum.now c.args.number _ c.args.condition c.in-Above.is c.in_ok-push-in-Above.ensures.items
    c.in_ok-opposite_at_most-in-Above.ensures (omega (arith, ints))

pub returns-in_ok-push-in-Equal-2 : goal.returns-in_ok-push-in-Equal-2
returns-in_ok-push-in-Equal-2 c =
    let k = c.requires.bounded in let p = k.0 in let q = k.1 in
    equal_read c.args.parts.now.items c.push-in-Equal.new.self.items c.push-in-Equal-2.new.self.items c.in_ok-at_most-in-Equal.field-0 c.in_ok-opposite_at_most-in-Equal.field-0 c.args.relation c.args.sum.now c.args.number _ _ c.args.condition
    c.in-Equal.is c.in_ok-push-in-Equal.ensures.items c.in_ok-at_most-in-Equal.ensures (omega (arith, ints)) c.in_ok-push-in-Equal-2.ensures.items c.in_ok-opposite_at_most-in-Equal.ensures (omega (arith, ints))
