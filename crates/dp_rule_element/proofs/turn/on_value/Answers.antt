-- What the values give that are offered.
use Rattle.std.proofs.Common.{◌≡◌}
use Rattle.std.specs.List.{filter}
use Rattle.std.proofs.lemmas.Result.{IfOk-weaker}
use Rattle.dp_base.specs.Lists.{Among}
use Rattle.dp_domain.specs.Sets.{is_among}
use Rattle.dp_domain.specs.Supports.{bound_by}
use Rattle.dp_rule_element.specs.Choices.{IsGivenBy, IsOffered}
use Rattle.dp_rule_element.proofs.NumberSteps.{common_collected, common_domain}
use Rattle.dp_rule_element.proofs.turn.on_value.Goals as goal

pub returns : goal.returns
returns c =
    IfOk-weaker c.bound_within.result (λ o. o ≡ bound_by c.args.set.now (filter (λ v. is_among v c.in_ok-numbers.numbers) c.args.set.now) c.args.var)
    (IsGivenBy (λ good. bound_by c.args.set.now good c.args.var) (λ v. Among v c.args.set.now × IsOffered c.args.state.now c.args.index.now c.args.array.now v))
    (λ o e. (
      filter (λ v. is_among v c.in_ok-numbers.numbers) c.args.set.now,
      common_domain c.args.set.now c.in_ok-numbers.numbers c.requires.small,
      common_collected c.args.set.now c.in_ok-numbers.numbers (IsOffered c.args.state.now c.args.index.now c.args.array.now) c.requires.small c.in_ok-numbers.ensures.numbers,
      e,
    ))
    c.bound_within.ensures
