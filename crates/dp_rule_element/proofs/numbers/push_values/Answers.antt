-- The intervals of the values.
use Rattle.std.proofs.lemmas.Result.{on_ok_weaker}
use Rattle.dp_domain.specs.States.{values}
use Rattle.dp_rule_element.proofs.NumberSteps.{values_gained}
use Rattle.dp_rule_element.proofs.numbers.push_values.Goals as goal

pub returns : goal.returns
returns c =
    on_ok_weaker c.push_all.result
    (λ e. values_gained (values c.args.state.now c.args.var) _ _ _ _ _ c.set_of.ensures.values c.set_of.ensures.domain c.in_ok-intervals.ensures.numbers c.in_ok-intervals.ensures.apart c.as_slice.ensures.value e)
    c.push_all.ensures
