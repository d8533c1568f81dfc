-- The numbers of both are those in the intervals of both.
use Rattle.std.proofs.Common.{ℤ, ◌≡◌, ◌++◌, List, ◌∙◌, ap, subst}
use Rattle.std.proofs.lemmas.Result.{IfOk-weaker}
use Rattle.dp_domain.specs.Sets.{Collects, LiesInOne}
use Rattle.dp_justify.proofs.GoneLaws.{has_both, small_both}
use Rattle.dp_justify.proofs.gone.union.Goals as goal

pub of-requires : goal.of-requires
of-requires c = small_both c.args.first.now c.args.second.now c.in_ok-intervals.intervals.items c.in_ok-others.others.items c.as_slice.result.now c.as_slice-2.result.now c.lower.ensures.domain c.lower-2.ensures.domain
    c.in_ok-intervals.ensures.numbers c.in_ok-others.ensures.numbers c.in_ok-intervals.ensures.apart c.in_ok-others.ensures.apart (c.as_slice-2.ensures.value ∙ c.in_ok-extend_from_slice.ensures.items) c.as_slice.ensures.value

pub returns : goal.returns
returns c =
    let is : List (ℤ × ℤ) = c.in_ok-intervals.intervals.items in
    let js : List (ℤ × ℤ) = c.in_ok-others.others.items in
    let e : c.as_slice-2.result.now ≡ is ++ js = c.as_slice-2.ensures.value ∙ c.in_ok-extend_from_slice.ensures.items ∙ ap (λ (ks : List (ℤ × ℤ)). is ++ ks) c.as_slice.ensures.value in
    IfOk-weaker c.of.result _ _
    (λ both k. has_both both c.args.first.now c.args.second.now is js (subst (λ (ks : List (ℤ × ℤ)). Collects both (LiesInOne ks)) e k) c.in_ok-intervals.ensures.numbers c.in_ok-others.ensures.numbers)
    c.of.ensures.numbers
