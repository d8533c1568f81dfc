-- Sorted, each interval joins the union of those before it.
use Rattle.std.proofs.Common.{◌≡◌, ◌∙◌, IsPermutation, List, ℤ, ap, length, pos, subst, sym}
use Rattle.smallvec.proofs.SmallVecLemmas.{items-with_items}
use Rattle.dp_base.proofs.Lists.{Each-get_or}
use Rattle.dp_domain.specs.Sets.{HasSmallEnds}
use Rattle.dp_domain.proofs.UnionSteps.{Begin, Unites-all, Unites-more, Unites-none, begin_from_sorted, next_begun, small_sorted}
use Rattle.dp_domain.proofs.intervals.united.Goals as goal

pub loop-interval-init : goal.loop-interval-init
loop-interval-init c = Unites-none _ _ c.new-merged.ensures.items

pub join-requires-clause-begun : goal.join-requires-clause-begun
join-requires-clause-begun c = next_begun c.as_slice-ordered.result.now c.loop-interval.interval-index c.loop-interval.merged.items c.loop-interval-test.true c.loop-interval.invariant

pub join-requires-clause-small : goal.join-requires-clause-small
join-requires-clause-small c =
    let same : c.as_slice-ordered.result.now ≡ c.sort_unstable.new.self = c.as_slice-ordered.ensures ∙ items-with_items c.args.intervals c.sort_unstable.new.self (c.sort_unstable.ensures.len ∙ ap length c.deref_mut.ensures.value) in
    let from_given = subst (λ (zs : List (ℤ × ℤ)). IsPermutation zs c.sort_unstable.new.self) c.deref_mut.ensures.value c.sort_unstable.ensures.permutation in
    let moved = subst (λ (zs : List (ℤ × ℤ)). IsPermutation c.args.intervals.items zs) (sym same) from_given in
    Each-get_or HasSmallEnds c.as_slice-ordered.result.now c.loop-interval.interval-index (pos 0, pos 0) c.loop-interval-test.true
    (small_sorted c.args.intervals.items c.as_slice-ordered.result.now moved c.requires)

pub loop-interval-preserved : goal.loop-interval-preserved
loop-interval-preserved c =
    let same : c.as_slice-ordered.result.now ≡ c.sort_unstable.new.self = c.as_slice-ordered.ensures ∙ items-with_items c.args.intervals c.sort_unstable.new.self (c.sort_unstable.ensures.len ∙ ap length c.deref_mut.ensures.value) in
    let begin = subst Begin (sym same) (begin_from_sorted c.sort_unstable.new.self c.sort_unstable.ensures.sorted) in
    Unites-more c.as_slice-ordered.result.now c.loop-interval.merged.items c.join.new.merged.items c.loop-interval.interval-index c.loop-interval-test.true begin c.in_ok-join.ensures c.loop-interval.invariant

pub returns-clause-maximal : goal.returns-clause-maximal
returns-clause-maximal c = c.loop-interval.invariant.maximal

pub returns-clause-same : goal.returns-clause-same
returns-clause-same c =
    let same : c.as_slice-ordered.result.now ≡ c.sort_unstable.new.self = c.as_slice-ordered.ensures ∙ items-with_items c.args.intervals c.sort_unstable.new.self (c.sort_unstable.ensures.len ∙ ap length c.deref_mut.ensures.value) in
    let from_given = subst (λ (zs : List (ℤ × ℤ)). IsPermutation zs c.sort_unstable.new.self) c.deref_mut.ensures.value c.sort_unstable.ensures.permutation in
    let moved = subst (λ (zs : List (ℤ × ℤ)). IsPermutation c.args.intervals.items zs) (sym same) from_given in
    Unites-all c.args.intervals.items c.as_slice-ordered.result.now c.loop-interval.merged.items c.loop-interval.interval-index moved c.loop-interval-test.false c.loop-interval.invariant
