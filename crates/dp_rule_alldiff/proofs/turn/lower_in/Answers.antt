-- The value after the intervals.
use Rattle.dp_rule_alldiff.proofs.FirstSteps.{lower_found, passed_after, passed_opposite, small_least}
use Rattle.dp_rule_alldiff.proofs.turn.lower_in.Goals as goal

pub returns-clause-value : goal.returns-clause-value
returns-clause-value c =
    let upper = passed_opposite c.args.upper c.opposite.result c.requires.upper c.opposite.ensures in
    let lower = passed_opposite c.args.lower c.opposite-2.result c.requires.lower c.opposite-2.ensures in
    lower_found c.args.to.now c.args.set.now c.args.lower c.args.upper _ _ c.in_ok-first.first _ c.least_from.result upper lower c.in_ok-first.ensures.least
    (passed_after c.args.lower c.args.upper c.in_ok-first.first c.opposite-3.result _ _ c.requires.lower c.requires.upper upper lower c.in_ok-first.ensures.within c.opposite-3.ensures) c.least_from.ensures

pub returns-clause-small : goal.returns-clause-small
returns-clause-small c = small_least _ c.args.set.now c.least_from.result c.requires.domain c.least_from.ensures
