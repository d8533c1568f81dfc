-- A number is added to the constant.
use mir.Syntax.{w64}
use mir.Val.{SFits}
use Rattle.std.proofs.Common.{arith, rules}
use Rattle.std.proofs.lemmas.Int.{ints, to_z-of_z}
use Rattle.dp_lower.proofs.MergeLaws.{const_read}
use Rattle.dp_lower.proofs.sum.add.Goals as goal

pub returns-in-Const-clause-sum : goal.returns-in-Const-clause-sum
returns-in-Const-clause-sum c =
    let fits : SFits w64 c.in-Const.value = search rules in
    let k = c.requires.merged.constant in
    let a = k.0 in let b = k.1 in
    let p = c.product.ensures.bounded in
    let x = p.0 in let y = p.1 in
    const_read c.args.coefficients.now.entries c.args.constant.now _ c.args.coefficient c.in-Const.value c.product.result c.args.term c.in-Const.is (omega (arith, ints))
    (rw (to_z-of_z w64 c.args.coefficient c.ranges.coefficient, to_z-of_z w64 c.in-Const.value fits) at c.product.ensures.product)
