-- The union of the intervals.
use Rattle.std.proofs.Common.{subst, sym}
use Rattle.dp_base.specs.Lists.{Each}
use Rattle.dp_domain.specs.Sets.{HasSmallEnds}
use Rattle.dp_domain.proofs.ExpandLaws.{expand-domain}
use Rattle.dp_domain.proofs.UnionSteps.{union_collects}
use Rattle.dp_domain.proofs.dom.Dom.of.Goals as goal

pub merged-requires : goal.merged-requires
merged-requires c = subst (Each HasSmallEnds) (sym c.in_ok-given.ensures.ok) c.requires

pub invariant_of-result : goal.invariant_of-result
invariant_of-result c = c.in_ok-intervals.ensures.maximal

pub returns-clause-domain : goal.returns-clause-domain
returns-clause-domain c = expand-domain _ c.in_ok-intervals.ensures.maximal

pub returns-clause-numbers : goal.returns-clause-numbers
returns-clause-numbers c = union_collects c.args.intervals.now _ _ c.in_ok-given.ensures.ok c.in_ok-intervals.ensures.same
