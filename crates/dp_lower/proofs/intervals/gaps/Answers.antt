-- One more gap.
use mir.Syntax.{w64}
use mir.Val.{SFits, of_z, to_z}
use Rattle.std.proofs.Common.{ℤ, ◌+ℤ◌, ◌∙◌, ap, get_or, pos, rules}
use Rattle.std.proofs.lemmas.Int.{to_z-of_z}
use Rattle.dp_base.proofs.Lists.{Each-get_or}
use Rattle.dp_lower.proofs.SetsLaws.{HasSmallEnds, gaps_next}
use Rattle.dp_lower.proofs.intervals.gaps.Goals as goal

pub loop-first-preserved : goal.loop-first-preserved
loop-first-preserved c =
    let j = get_or c.args.intervals.now c.loop-first.first-index (pos 0, pos 0) in
    let small : HasSmallEnds j = Each-get_or HasSmallEnds c.args.intervals.now c.loop-first.first-index (pos 0, pos 0) c.loop-first-test.true c.requires in
    let first_fits : SFits w64 j.0 = search rules in
    let last_fits : SFits w64 j.1 = search rules in
    let same = to_z-of_z w64 j.1 last_fits in
    let low = small.1.0 in let high = small.1.1 in
    let after_fits : SFits w64 (j.1 +ℤ pos 1) = search rules in
    gaps_next c.args.intervals.now c.loop-first.first-index _ _ _ c.loop-first.gaps.items c.push_gap.new.intervals.items _ c.loop-first-test.true
    (to_z-of_z w64 j.0 first_fits) (ap (λ (x : ℤ). to_z w64 (of_z w64 (x +ℤ pos 1))) same ∙ to_z-of_z w64 (j.1 +ℤ pos 1) after_fits) c.in_ok-push_gap.ensures c.loop-first.invariant
