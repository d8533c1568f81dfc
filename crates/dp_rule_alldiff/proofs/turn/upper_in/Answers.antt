-- The value before the intervals.
use Rattle.dp_rule_alldiff.proofs.FirstSteps.{passed_before, passed_small, small_greatest, upper_found}
use Rattle.dp_rule_alldiff.proofs.turn.upper_in.Goals as goal

pub returns-clause-value : goal.returns-clause-value
returns-clause-value c =
    let lower = passed_small c.args.lower c.requires.lower in
    let upper = passed_small c.args.upper c.requires.upper in
    upper_found c.args.from.now c.args.set.now c.args.lower c.args.upper _ _ c.in_ok-first.first _ c.greatest_to.result lower upper c.in_ok-first.ensures.least
    (passed_before c.args.lower c.args.upper c.in_ok-first.first _ _ c.requires.lower c.requires.upper lower upper c.in_ok-first.ensures.within) c.greatest_to.ensures

pub returns-clause-small : goal.returns-clause-small
returns-clause-small c = small_greatest _ c.args.set.now c.greatest_to.result c.requires.domain c.greatest_to.ensures
