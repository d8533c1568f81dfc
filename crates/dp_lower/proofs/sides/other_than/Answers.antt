-- The form of a sum in its normal form is never refused.
use Rattle.std.proofs.Common.{arith}
use Rattle.std.proofs.lemmas.Int.{ints}
use Rattle.dp_lower.proofs.ProperLaws.{made_of}
use Rattle.dp_lower.proofs.sides.other_than.Goals as goal

pub unwrap-rule-requires : goal.unwrap-rule-requires
unwrap-rule-requires c =
    let k = c.requires.bounded in let p = k.0 in let q = k.1 in
    let m = c.requires.merged.constant in let r = m.0 in let s = m.1 in
    made_of c.new.result c.args.sum.now c.args.condition c.in_ok-terms.terms.items c.args.number _ c.new.ensures.refused c.requires.merged c.requires.bounded c.requires.apart c.in_ok-terms.ensures (omega (arith, ints))
