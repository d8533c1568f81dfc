-- The bound is found between the two numbers.
use Rattle.std.proofs.Common.{ℤ, ◌+◌, ◌-◌, ◌∙◌, refl, sym, arith}
use Rattle.std.specs.Prelude.{◌/◌}
use mir.Syntax.{w64}
use mir.Val.{of_z, to_z}
use Rattle.dp_domain.specs.States.{values}
use Rattle.dp_domain.proofs.BisectSteps.{bounds-order, bounds-small, bounds_passed, lower_at, lower_begun, lower_less, lower_not, lower_small, middle_between, passed_small, small_passed}
use Rattle.dp_domain.proofs.turn.lower_between.Goals as goal

pub distance-high-requires-clause-first : goal.distance-high-requires-clause-first
distance-high-requires-clause-first g c = (bounds-small (values c.args.state.now c.args.var) _ _ (bounds_passed (values c.args.state.now c.args.var) c.args.first c.args.last c.requires.bounds)).0

pub distance-high-requires-clause-last : goal.distance-high-requires-clause-last
distance-high-requires-clause-last g c = (bounds-small (values c.args.state.now c.args.var) _ _ (bounds_passed (values c.args.state.now c.args.var) c.args.first c.args.last c.requires.bounds)).1

pub distance-high-requires-clause-order : goal.distance-high-requires-clause-order
distance-high-requires-clause-order g c = bounds-order (values c.args.state.now c.args.var) _ _ (bounds_passed (values c.args.state.now c.args.var) c.args.first c.args.last c.requires.bounds)

pub loop-low-init : goal.loop-low-init
loop-low-init g c = record {
  bracket = lower_begun (g.R.Test.face c.args.rule.now) c.args.state.now c.args.var _ _ c.distance-high.result 0 (c.distance-high.result + 1) (bounds_passed (values c.args.state.now c.args.var) c.args.first c.args.last c.requires.bounds) c.distance-high.ensures.sum refl refl;
  same = c.requires.same;
}

pub above-requires-clause-first : goal.above-requires-clause-first
above-requires-clause-first g c = (bounds-small (values c.args.state.now c.args.var) _ _ (bounds_passed (values c.args.state.now c.args.var) c.args.first c.args.last c.requires.bounds)).0

pub above-requires-clause-sum : goal.above-requires-clause-sum
above-requires-clause-sum g c =
    lower_small (g.R.Test.face c.args.rule.now) c.args.state.now c.args.var _ _ c.loop-low.low c.loop-low.high (c.loop-low.low + (c.loop-low.high - c.loop-low.low) / 2) (bounds_passed (values c.args.state.now c.args.var) c.args.first c.args.last c.requires.bounds) c.loop-low.invariant.bracket
    (middle_between c.loop-low.low c.loop-low.high c.loop-low-test.true).1

pub small-atom-requires : goal.small-atom-requires
small-atom-requires g c = small_passed c.above.result c.above.ensures.small

pub loop-low-preserved : goal.loop-low-preserved
loop-low-preserved g c =
    let between = middle_between c.loop-low.low c.loop-low.high c.loop-low-test.true in
    record {
      bracket = lower_less (g.R.Test.face c.args.rule.now) c.args.state.now c.args.var _ _ c.loop-low.low c.loop-low.high (c.loop-low.low + (c.loop-low.high - c.loop-low.low) / 2) _ _ (g.met.R.Test.lawful c.args.rule.now) c.requires.covers
          (bounds_passed (values c.args.state.now c.args.var) c.args.first c.args.last c.requires.bounds) c.loop-low.invariant.bracket between.0 between.1 c.small-atom.ensures (passed_small c.above.result c.above.ensures.small ∙ c.above.ensures.sum)
          (sym c.in_ok-given.ensures.answer ∙ c.if-given.false);
      same = c.in_ok-given.ensures.same;
    }

pub returns-then-low-eq0-clause-lower : goal.returns-then-low-eq0-clause-lower
returns-then-low-eq0-clause-lower g c =
    let test = c.if-low-eq0.true in
    let end = c.loop-low-test.false in
    lower_not (g.R.Test.face c.args.rule.now) c.args.state.now c.args.var _ _ c.loop-low.low c.loop-low.high (bounds_passed (values c.args.state.now c.args.var) c.args.first c.args.last c.requires.bounds) c.loop-low.invariant.bracket (omega arith) (omega arith)

pub above-requires-2-clause-first : goal.above-requires-2-clause-first
above-requires-2-clause-first g c = (bounds-small (values c.args.state.now c.args.var) _ _ (bounds_passed (values c.args.state.now c.args.var) c.args.first c.args.last c.requires.bounds)).0

pub above-requires-2-clause-sum : goal.above-requires-2-clause-sum
above-requires-2-clause-sum g c =
    lower_small (g.R.Test.face c.args.rule.now) c.args.state.now c.args.var _ _ c.loop-low.low c.loop-low.high c.loop-low.low (bounds_passed (values c.args.state.now c.args.var) c.args.first c.args.last c.requires.bounds) c.loop-low.invariant.bracket c.loop-low.invariant.bracket.order

pub small-requires : goal.small-requires
small-requires g c = small_passed c.above-2.result c.above-2.ensures.small

pub returns-clause-lower : goal.returns-clause-lower
returns-clause-lower g c =
    let test = c.if-low-eq0.false in
    let end = c.loop-low-test.false in
    lower_at (g.R.Test.face c.args.rule.now) c.args.state.now c.args.var _ _ c.loop-low.low c.loop-low.high _ _ c.requires.quiet c.loop-low.invariant.bracket (omega arith) (omega arith) c.small.ensures (passed_small c.above-2.result c.above-2.ensures.small ∙ c.above-2.ensures.sum)
