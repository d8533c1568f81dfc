-- The least value that there is room for, where it is above the least.
use Rattle.std.proofs.Common.{arith, refl}
use Rattle.std.proofs.lemmas.Int.{ints}
use Rattle.dp_domain.specs.States.{values}
use Rattle.dp_domain.proofs.ExplanationSteps.{small_greatest, small_least}
use Rattle.dp_rule_linear.proofs.BoundSteps.{below-found, below-some, below-whole}
use Rattle.dp_rule_linear.proofs.bounds.bound_below.Goals as goal

pub returns-then-limit-from : goal.returns-then-limit-from
returns-then-limit-from c =
    let low = small_least _ _ c.lower.ensures.domain c.lower.ensures.least _ c.in_ok-lower.was in
    let high = small_greatest _ _ c.lower.ensures.domain c.upper.ensures.greatest _ c.in_ok-upper.was in
    below-whole (values c.args.state.now c.args.var) c.args.var c.args.room c.in_ok-lower.lower c.in_ok-upper.upper c.in_ok-lower.ensures.least c.in_ok-upper.ensures.greatest
    (omega (arith, ints, low.0, low.1, high.0, high.1, c.from.ensures, c.from-2.ensures, c.requires.room, c.requires.bounded.1, c.if-limit-from.true))

pub returns-in_err-first : goal.returns-in_err-first
returns-in_err-first c =
    let low = small_least _ _ c.lower.ensures.domain c.lower.ensures.least _ c.in_ok-lower.was in
    let high = small_greatest _ _ c.lower.ensures.domain c.upper.ensures.greatest _ c.in_ok-upper.was in
    absurd (below-some (values c.args.state.now c.args.var) c.set.result.now c.in_ok-upper.upper _ c.in_ok-upper.ensures.greatest c.set.ensures
    (omega (arith, ints, low.0, low.1, high.0, high.1, c.from.ensures, c.from-2.ensures, c.requires.room, c.requires.bounded.1, c.if-limit-from.false)) c.in_err-first.ensures)

pub returns : goal.returns
returns c =
    let low = small_least _ _ c.lower.ensures.domain c.lower.ensures.least _ c.in_ok-lower.was in
    let high = small_greatest _ _ c.lower.ensures.domain c.upper.ensures.greatest _ c.in_ok-upper.was in
    below-found (values c.args.state.now c.args.var) c.set.result.now c.args.var c.args.room c.in_ok-lower.lower c.in_ok-upper.upper _ c.in_ok-first.first _ c.new.result c.lower.ensures.domain
    c.in_ok-lower.ensures.least c.in_ok-upper.ensures.greatest c.set.ensures
    (omega (arith, ints, low.0, low.1, high.0, high.1, c.from.ensures, c.from-2.ensures, c.requires.room, c.requires.bounded.1, c.if-limit-from.false))
    (omega (arith, ints, low.0, low.1, high.0, high.1, c.from.ensures, c.from-2.ensures, c.requires.room, c.requires.bounded.1, c.if-limit-from.false))
    c.in_ok-first.ensures refl c.new.ensures.nameable c.new.ensures.atom
