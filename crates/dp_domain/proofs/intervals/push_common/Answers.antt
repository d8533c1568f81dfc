-- What is not near has nothing in common with the interval.
use Rattle.std.proofs.Common.{◌≡◌, ◌++◌, ◌∙◌, ap}
use Rattle.std.specs.List.{flat_map}
use Rattle.std.proofs.lemmas.Result.{IfOk-weaker}
use Rattle.dp_domain.specs.Intervals.{overlap}
use Rattle.dp_domain.proofs.ReachSteps.{near_all}
use Rattle.dp_domain.proofs.intervals.push_common.Goals as goal

pub returns : goal.returns
returns c =
    IfOk-weaker c.push_overlaps.result
    (λ _. c.push_overlaps.new.kept.items ≡ c.args.kept.now.items ++ flat_map (overlap c.args.interval) c.near.result.now)
    (λ _. c.push_overlaps.new.kept.items ≡ c.args.kept.now.items ++ flat_map (overlap c.args.interval) c.args.others.now)
    (λ u e. e ∙ ap (λ ys. c.args.kept.now.items ++ ys) (near_all c.args.interval c.args.others.now c.near.result.now c.near.ensures))
    c.push_overlaps.ensures
