-- The bound is found between the two numbers.
use Rattle.std.proofs.Common.{ℤ, ◌+◌, ◌-◌, ◌∙◌, refl, sym, arith}
use Rattle.std.specs.Prelude.{◌/◌}
use mir.Syntax.{w64}
use mir.Val.{of_z, to_z}
use Rattle.dp_domain.specs.States.{values}
use Rattle.dp_domain.proofs.BisectSteps.{bounds-order, bounds-small, bounds_passed, upper_at, upper_begun, upper_more, upper_not, upper_small, middle_between, passed_small, small_passed}
use Rattle.dp_domain.proofs.turn.upper_between.Goals as goal

pub distance-high-requires-clause-first : goal.distance-high-requires-clause-first
distance-high-requires-clause-first g c = (bounds-small (values c.args.state.now c.args.var) _ _ (bounds_passed (values c.args.state.now c.args.var) c.args.first c.args.last c.requires.bounds)).0

pub distance-high-requires-clause-last : goal.distance-high-requires-clause-last
distance-high-requires-clause-last g c = (bounds-small (values c.args.state.now c.args.var) _ _ (bounds_passed (values c.args.state.now c.args.var) c.args.first c.args.last c.requires.bounds)).1

pub distance-high-requires-clause-order : goal.distance-high-requires-clause-order
distance-high-requires-clause-order g c = bounds-order (values c.args.state.now c.args.var) _ _ (bounds_passed (values c.args.state.now c.args.var) c.args.first c.args.last c.requires.bounds)

pub loop-low-init : goal.loop-low-init
loop-low-init g c = record {
  bracket = upper_begun (g.R.Test.face c.args.rule.now) c.args.state.now c.args.var _ _ c.distance-high.result 0 (c.distance-high.result + 1) (bounds_passed (values c.args.state.now c.args.var) c.args.first c.args.last c.requires.bounds) c.distance-high.ensures.sum refl refl;
  same = c.requires.same;
}

pub below-requires-clause-last : goal.below-requires-clause-last
below-requires-clause-last g c = (bounds-small (values c.args.state.now c.args.var) _ _ (bounds_passed (values c.args.state.now c.args.var) c.args.first c.args.last c.requires.bounds)).1

pub below-requires-clause-difference : goal.below-requires-clause-difference
below-requires-clause-difference g c =
    upper_small (g.R.Test.face c.args.rule.now) c.args.state.now c.args.var _ _ c.loop-low.low c.loop-low.high (c.loop-low.low + (c.loop-low.high - c.loop-low.low) / 2) (bounds_passed (values c.args.state.now c.args.var) c.args.first c.args.last c.requires.bounds) c.loop-low.invariant.bracket
    (middle_between c.loop-low.low c.loop-low.high c.loop-low-test.true).1

pub small-atom-requires : goal.small-atom-requires
small-atom-requires g c = small_passed c.below.result c.below.ensures.small

pub loop-low-preserved : goal.loop-low-preserved
loop-low-preserved g c =
    let between = middle_between c.loop-low.low c.loop-low.high c.loop-low-test.true in
    record {
      bracket = upper_more (g.R.Test.face c.args.rule.now) c.args.state.now c.args.var _ _ c.loop-low.low c.loop-low.high (c.loop-low.low + (c.loop-low.high - c.loop-low.low) / 2) _ _ (g.met.R.Test.lawful c.args.rule.now) c.requires.covers
          (bounds_passed (values c.args.state.now c.args.var) c.args.first c.args.last c.requires.bounds) c.loop-low.invariant.bracket between.0 between.1 c.small-atom.ensures (passed_small c.below.result c.below.ensures.small ∙ c.below.ensures.difference)
          (sym c.in_ok-given.ensures.answer ∙ c.if-given.false);
      same = c.in_ok-given.ensures.same;
    }

pub returns-then-low-eq0-clause-upper : goal.returns-then-low-eq0-clause-upper
returns-then-low-eq0-clause-upper g c =
    let test = c.if-low-eq0.true in
    let end = c.loop-low-test.false in
    upper_not (g.R.Test.face c.args.rule.now) c.args.state.now c.args.var _ _ c.loop-low.low c.loop-low.high (bounds_passed (values c.args.state.now c.args.var) c.args.first c.args.last c.requires.bounds) c.loop-low.invariant.bracket (omega arith) (omega arith)

pub below-requires-2-clause-last : goal.below-requires-2-clause-last
below-requires-2-clause-last g c = (bounds-small (values c.args.state.now c.args.var) _ _ (bounds_passed (values c.args.state.now c.args.var) c.args.first c.args.last c.requires.bounds)).1

pub below-requires-2-clause-difference : goal.below-requires-2-clause-difference
below-requires-2-clause-difference g c =
    upper_small (g.R.Test.face c.args.rule.now) c.args.state.now c.args.var _ _ c.loop-low.low c.loop-low.high c.loop-low.low (bounds_passed (values c.args.state.now c.args.var) c.args.first c.args.last c.requires.bounds) c.loop-low.invariant.bracket c.loop-low.invariant.bracket.order

pub small-requires : goal.small-requires
small-requires g c = small_passed c.below-2.result c.below-2.ensures.small

pub returns-clause-upper : goal.returns-clause-upper
returns-clause-upper g c =
    let test = c.if-low-eq0.false in
    let end = c.loop-low-test.false in
    upper_at (g.R.Test.face c.args.rule.now) c.args.state.now c.args.var _ _ c.loop-low.low c.loop-low.high _ _ c.requires.quiet c.loop-low.invariant.bracket (omega arith) (omega arith) c.small.ensures (passed_small c.below-2.result c.below-2.ensures.small ∙ c.below-2.ensures.difference)
