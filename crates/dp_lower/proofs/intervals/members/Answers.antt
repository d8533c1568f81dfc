-- The domain of the intervals of a set.
use Rattle.std.proofs.Common.{◌≡◌, ◌∙◌, filter, subst, sym}
use Rattle.dp_base.specs.Lists.{Each}
use Rattle.dp_domain.specs.Sets.{Collects, IsDomain, LiesInOne}
use Rattle.fz_sat.specs.Args.{is_in_set}
use Rattle.dp_lower.specs.Small.{small_numbers}
use Rattle.dp_lower.proofs.SetsLaws.{HasSmallEnds, members_are, ok_both, small_set}
use Rattle.dp_lower.proofs.intervals.members.Goals as goal

pub of-requires : goal.of-requires
of-requires c = subst (Each HasSmallEnds) (sym (c.deref.ensures.value ∙ c.in_ok-intervals.ensures)) (small_set c.args.set.now)

pub returns-clause-members : goal.returns-clause-members
returns-clause-members c =
    ok_both c.of.result IsDomain (λ d. Collects d (LiesInOne c.deref.result.now)) (λ d. d ≡ filter (is_in_set c.args.set.now) small_numbers) c.of.ensures.domain c.of.ensures.numbers
    (λ d domain numbers. members_are c.args.set.now c.deref.result.now d (c.deref.ensures.value ∙ c.in_ok-intervals.ensures) domain numbers)
