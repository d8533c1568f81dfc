-- One more gap.
use mir.Syntax.{w64}
use mir.Val.{SFits, of_z, to_z}
use Rattle.std.proofs.Common.{ℤ, ◌+ℤ◌, ◌∙◌, ap, get_or, pos, rules, subst, sym}
use Rattle.std.proofs.lemmas.Int.{to_z-of_z}
use Rattle.dp_base.proofs.Lists.{Each-get_or}
use Rattle.dp_domain.specs.Intervals.{gaps_from}
use Rattle.dp_domain.specs.Sets.{HasSmallEnds, IsSmall}
use Rattle.dp_domain.proofs.GapLaws.{gaps_done, gaps_next}
use Rattle.dp_domain.proofs.intervals.gaps_from.Goals as goal

pub push_gap-requires : goal.push_gap-requires
push_gap-requires c =
    let j = get_or c.args.intervals.now c.loop-first.first-index (pos 0, pos 0) in
    let small : HasSmallEnds j = Each-get_or HasSmallEnds c.args.intervals.now c.loop-first.first-index (pos 0, pos 0) c.loop-first-test.true c.requires in
    let fits : SFits w64 j.0 = search rules in
    subst IsSmall (sym (to_z-of_z w64 j.0 fits)) small.0

pub overflow_add-next : goal.overflow_add-next
overflow_add-next c =
    let j = get_or c.args.intervals.now c.loop-first.first-index (pos 0, pos 0) in
    let small : HasSmallEnds j = Each-get_or HasSmallEnds c.args.intervals.now c.loop-first.first-index (pos 0, pos 0) c.loop-first-test.true c.requires in
    let fits : SFits w64 j.1 = search rules in
    let low = small.1.0 in
    let high = small.1.1 in
    let after_fits : SFits w64 (j.1 +ℤ pos 1) = search rules in
    subst (λ (x : ℤ). SFits w64 (x +ℤ pos 1)) (sym (to_z-of_z w64 j.1 fits)) after_fits

pub loop-first-preserved : goal.loop-first-preserved
loop-first-preserved c =
    let j = get_or c.args.intervals.now c.loop-first.first-index (pos 0, pos 0) in
    let small : HasSmallEnds j = Each-get_or HasSmallEnds c.args.intervals.now c.loop-first.first-index (pos 0, pos 0) c.loop-first-test.true c.requires in
    let first_fits : SFits w64 j.0 = search rules in
    let last_fits : SFits w64 j.1 = search rules in
    let same = to_z-of_z w64 j.1 last_fits in
    let low = small.1.0 in
    let high = small.1.1 in
    let after_fits : SFits w64 (j.1 +ℤ pos 1) = search rules in
    gaps_next c.args.intervals.now c.loop-first.first-index _ _ _ c.loop-first.gaps.items c.push_gap.new.gaps.items _ c.loop-first-test.true
    (to_z-of_z w64 j.0 first_fits) (ap (λ (x : ℤ). to_z w64 (of_z w64 (x +ℤ pos 1))) same ∙ to_z-of_z w64 (j.1 +ℤ pos 1) after_fits) c.in_ok-push_gap.ensures c.loop-first.invariant

pub returns : goal.returns
returns c =
    gaps_done c.args.intervals.now c.loop-first.first-index _ _ _ c.loop-first-test.false c.loop-first.invariant
    ∙ ap (λ (x : ℤ). gaps_from x c.args.intervals.now) (to_z-of_z w64 c.args.start c.ranges.start)
