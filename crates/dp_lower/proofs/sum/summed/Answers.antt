-- The sum so far, with what is left, is the whole.
use mir.Syntax.{w64}
use mir.Val.{SFits}
use Rattle.std.proofs.Common.{arith, rules}
use Rattle.std.proofs.lemmas.Int.{to_z-of_z}
use Rattle.dp_lower.proofs.MergeLaws.{merged_fewer, summed_all, summed_next}
use Rattle.dp_lower.proofs.sum.summed.Goals as goal

pub add-requires-clause-merged : goal.add-requires-clause-merged
add-requires-clause-merged c = merged_fewer c.loop-coefficient.coefficient-index 2000000 _ (omega arith) c.loop-coefficient.invariant.merged

pub loop-coefficient-preserved : goal.loop-coefficient-preserved
loop-coefficient-preserved c =
    let narrow : SFits w64 c.loop-coefficient-item.result.0 = search rules in
    summed_next c.args.terms.now c.loop-coefficient.coefficient-index c.loop-coefficient-item.result c.loop-coefficient.coefficients.entries c.add.new.coefficients.entries _ c.add.new.constant _
    c.loop-coefficient-test.true c.requires.few c.loop-coefficient-item.is c.requires.small c.in_ok-add.ensures.word (to_z-of_z w64 c.loop-coefficient-item.result.0 narrow) c.in_ok-add.ensures.sum c.loop-coefficient.invariant

pub returns-clause-merged : goal.returns-clause-merged
returns-clause-merged c = summed_all c.args.terms.now c.loop-coefficient.coefficient-index _ c.loop-coefficient-test.false c.loop-coefficient.auto.coefficient-index-end c.requires.few c.loop-coefficient.invariant
