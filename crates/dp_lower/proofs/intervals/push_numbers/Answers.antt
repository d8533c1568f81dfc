-- One more number.
use mir.Syntax.{w64}
use mir.Val.{SFits}
use Rattle.std.proofs.Common.{get_or, pos, rules}
use Rattle.std.proofs.lemmas.Int.{to_z-of_z}
use Rattle.dp_lower.proofs.SetsLaws.{numbers_next}
use Rattle.dp_lower.proofs.intervals.push_numbers.Goals as goal

pub loop-number-preserved : goal.loop-number-preserved
loop-number-preserved c =
    let fits : SFits w64 (get_or c.args.numbers.now c.loop-number.number-index (pos 0)) = search rules in
    let same = to_z-of_z w64 (get_or c.args.numbers.now c.loop-number.number-index (pos 0)) fits in
    numbers_next c.args.numbers.now c.loop-number.number-index _ _ c.loop-number.intervals.items c.push_clipped.new.intervals.items _ c.loop-number-test.true same same c.in_ok-push_clipped.ensures c.loop-number.invariant
