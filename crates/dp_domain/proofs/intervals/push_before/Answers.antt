use mir.Syntax.{w64}
use mir.Val.{of_z, to_z}
use Rattle.std.proofs.Common.{◌≡◌, ◌++◌, ◌∙◌, ap, pos, ◌-ℤ◌, arith}
use Rattle.std.specs.Int.{int_min}
use Rattle.std.proofs.lemmas.Int.{clamps, ints}
use Rattle.std.proofs.lemmas.Result.{IfOk-weaker}
use Rattle.dp_domain.specs.Intervals.{before, interval}
use Rattle.dp_domain.proofs.IntervalSteps.{same_interval}
use Rattle.dp_domain.proofs.intervals.push_before.Goals as goal

pub returns : goal.returns
returns c =
    let first = to_z w64 (of_z w64 c.args.interval.0) in
    let last = to_z w64 (of_z w64 c.min.result) in
    let old = c.args.kept.now.items in
    let now = c.push_interval.new.intervals.items in
    let lesser = c.min.ensures.value in
    IfOk-weaker c.push_interval.result (λ _. now ≡ old ++ interval first last) (λ _. now ≡ old ++ before c.args.value c.args.interval)
    (λ u e. e ∙ ap (λ ys. old ++ ys) (same_interval first last c.args.interval.0 (int_min c.args.interval.1 (c.args.value -ℤ pos 1)) (omega (arith, ints)) (omega (arith, ints, clamps))))
    c.push_interval.ensures
