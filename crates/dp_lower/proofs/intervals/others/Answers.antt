-- The gaps between the intervals of a domain.
use Rattle.std.proofs.Common.{◌∙◌, ap, subst, sym}
use Rattle.dp_base.specs.Lists.{Among, Each}
use Rattle.dp_domain.specs.Sets.{Collects, IsDomain, IsSmall, LiesInOne}
use Rattle.dp_lower.proofs.SetsLaws.{HasSmallEnds, all_gaps, gaps_collect, ok_both, small_gaps, small_intervals}
use Rattle.dp_lower.proofs.intervals.others.Goals as goal

pub gaps-requires : goal.gaps-requires
gaps-requires c = subst (Each HasSmallEnds) (sym c.deref.ensures.value) (small_intervals c.args.set.now _ c.requires c.in_ok-intervals.ensures.numbers c.in_ok-intervals.ensures.apart)

pub of-requires : goal.of-requires
of-requires c =
    subst (Each HasSmallEnds) (sym (c.deref-2.ensures.value ∙ c.in_ok-gaps.ensures ∙ ap all_gaps c.deref.ensures.value))
    (small_gaps _ (small_intervals c.args.set.now _ c.requires c.in_ok-intervals.ensures.numbers c.in_ok-intervals.ensures.apart))

pub returns-clause-numbers : goal.returns-clause-numbers
returns-clause-numbers c =
    ok_both c.of.result IsDomain (λ d. Collects d (LiesInOne c.deref-2.result.now)) (λ d. Collects d (λ v. IsSmall v × (¬ (Among v c.args.set.now)))) c.of.ensures.domain c.of.ensures.numbers
    (λ d domain numbers. gaps_collect c.args.set.now d _ c.deref-2.result.now c.requires c.in_ok-intervals.ensures.numbers c.in_ok-intervals.ensures.apart
    (c.deref-2.ensures.value ∙ c.in_ok-gaps.ensures ∙ ap all_gaps c.deref.ensures.value) numbers)
