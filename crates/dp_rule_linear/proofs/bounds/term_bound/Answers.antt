-- The room that a term leaves its variable is the quotient.
use Rattle.std.proofs.Common.{◌<ℤ◌, ◌-ℤ◌, pos, neg_ℤ, arith, refl}
use mir.Syntax.{w128}
use mir.Val.{of_z, to_z}
use Rattle.std.proofs.lemmas.Int.{ints}
use Rattle.dp_domain.specs.Sets.{greatest, least}
use Rattle.dp_domain.specs.States.{values}
use Rattle.dp_rule_linear.proofs.BoundSteps.{quotient_bounded, quotient_read, term-above, term-below}
use Rattle.dp_rule_linear.proofs.bounds.term_bound.Goals as goal

pub bound_below-requires-clause-bounded : goal.bound_below-requires-clause-bounded
bound_below-requires-clause-bounded c =
    let a = c.args.coefficient in
    quotient_bounded c.args.slack (neg_ℤ a) (to_z w128 (of_z w128 c.args.slack)) (to_z w128 (of_z w128 (pos 0 -ℤ to_z w128 (of_z w128 c.from-coefficient.result)))) (omega (arith, ints, c.requires.slack_bounded.0, c.requires.slack_bounded.1))
    (omega (arith, ints, c.from-coefficient.ensures, c.requires.bounded.0, c.requires.bounded.1)) c.requires.slack c.requires.slack_bounded
    (omega (arith, ints, c.from-coefficient.ensures, c.requires.bounded.0, c.requires.bounded.1, c.if-coefficient-gt0.false, c.requires.not_zero))

pub returns-then-coefficient-gt0 : goal.returns-then-coefficient-gt0
returns-then-coefficient-gt0 c =
    let a = c.args.coefficient in
    let sign : pos 0 <ℤ a = omega (arith, ints, c.from-coefficient.ensures, c.requires.bounded.0, c.requires.bounded.1, c.if-coefficient-gt0.true) in
    term-above c.args.slack a _ c.args.state.now c.args.var (least (values c.args.state.now c.args.var)) c.bound_above.result sign c.requires.slack
    (quotient_read c.args.slack a (to_z w128 (of_z w128 c.args.slack)) (to_z w128 (of_z w128 c.from-coefficient.result)) (omega (arith, ints, c.requires.slack_bounded.0, c.requires.slack_bounded.1))
    (omega (arith, ints, c.from-coefficient.ensures, c.requires.bounded.0, c.requires.bounded.1)) c.requires.slack c.requires.slack_bounded sign)
    refl c.bound_above.ensures

pub returns-else-coefficient-gt0 : goal.returns-else-coefficient-gt0
returns-else-coefficient-gt0 c =
    let a = c.args.coefficient in
    let sign : a <ℤ pos 0 = omega (arith, ints, c.from-coefficient.ensures, c.requires.bounded.0, c.requires.bounded.1, c.if-coefficient-gt0.false, c.requires.not_zero) in
    let turned : pos 0 <ℤ neg_ℤ a = omega (arith, ints) in
    term-below c.args.slack a _ c.args.state.now c.args.var (greatest (values c.args.state.now c.args.var)) c.bound_below.result sign c.requires.slack
    (quotient_read c.args.slack (neg_ℤ a) (to_z w128 (of_z w128 c.args.slack)) (to_z w128 (of_z w128 (pos 0 -ℤ to_z w128 (of_z w128 c.from-coefficient.result)))) (omega (arith, ints, c.requires.slack_bounded.0, c.requires.slack_bounded.1))
    (omega (arith, ints, c.from-coefficient.ensures, c.requires.bounded.0, c.requires.bounded.1)) c.requires.slack c.requires.slack_bounded turned)
    refl c.bound_below.ensures
