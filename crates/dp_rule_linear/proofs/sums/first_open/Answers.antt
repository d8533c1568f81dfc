-- The variables of the terms are of the state.
use Rattle.std.proofs.Common.{get_or}
use Rattle.std.proofs.lemmas.List.{get_or_default}
use Rattle.dp_rule_linear.proofs.SumSteps.{covered_at}
use Rattle.dp_rule_linear.proofs.sums.first_open.Goals as goal

pub is_single-requires : goal.is_single-requires
is_single-requires c =
    covered_at _ c.args.terms.now c.loop-place.place (get_or c.args.terms.now c.loop-place.place c.index-terms-place.result) c.requires c.loop-place-test.true
    (get_or_default c.args.terms.now c.loop-place.place c.index-terms-place.result (get_or c.args.terms.now c.loop-place.place c.index-terms-place.result) c.loop-place-test.true)
