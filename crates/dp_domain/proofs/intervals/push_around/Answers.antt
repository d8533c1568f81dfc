-- The part before the value, and then the part after it.
use mir.Syntax.{w64}
use mir.Val.{of_z, to_z}
use Rattle.std.proofs.Common.{◌≡◌, ◌++◌}
use Rattle.std.proofs.lemmas.Int.{to_z-of_z}
use Rattle.std.proofs.lemmas.Result.{IfOk-weaker}
use Rattle.dp_domain.specs.Intervals.{after, before}
use Rattle.dp_domain.proofs.IntervalSteps.{around_step}
use Rattle.dp_domain.proofs.intervals.push_around.Goals as goal

pub returns : goal.returns
returns c =
    let value = to_z w64 (of_z w64 c.args.value) in
    let old = c.args.kept.now.items in
    let mid = c.push_before.new.kept.items in
    let now = c.push_after.new.kept.items in
    IfOk-weaker c.push_after.result (λ _. now ≡ mid ++ after value c.args.interval) (λ _. now ≡ old ++ (before c.args.value c.args.interval ++ after c.args.value c.args.interval))
    (λ u e. around_step c.args.value value c.args.interval old mid now (to_z-of_z w64 c.args.value c.ranges.value) c.in_ok-push_before.ensures e)
    c.push_after.ensures
