-- The ends of a domain are small.
use Rattle.std.proofs.Common.{subst, sym}
use Rattle.dp_domain.specs.Sets.{IsSmall}
use Rattle.dp_rule_alldiff.proofs.FirstSteps.{passed_small, small_first, small_last}
use Rattle.dp_rule_alldiff.proofs.turn.given_on.Goals as goal

pub lower_in-requires-clause-lower : goal.lower_in-requires-clause-lower
lower_in-requires-clause-lower c = let small = small_first c.args.set.now c.in_ok-lower.lower c.lower.ensures.domain c.in_ok-lower.ensures.least in subst IsSmall (sym (passed_small c.in_ok-lower.lower small)) small

pub lower_in-requires-clause-upper : goal.lower_in-requires-clause-upper
lower_in-requires-clause-upper c = let small = small_last c.args.set.now c.in_ok-upper.upper c.upper.ensures.domain c.in_ok-upper.ensures.greatest in subst IsSmall (sym (passed_small c.in_ok-upper.upper small)) small

pub upper_in-requires-clause-lower : goal.upper_in-requires-clause-lower
upper_in-requires-clause-lower c = let small = small_first c.args.set.now c.in_ok-lower.lower c.lower.ensures.domain c.in_ok-lower.ensures.least in subst IsSmall (sym (passed_small c.in_ok-lower.lower small)) small

pub upper_in-requires-clause-upper : goal.upper_in-requires-clause-upper
upper_in-requires-clause-upper c = let small = small_last c.args.set.now c.in_ok-upper.upper c.upper.ensures.domain c.in_ok-upper.ensures.greatest in subst IsSmall (sym (passed_small c.in_ok-upper.upper small)) small
