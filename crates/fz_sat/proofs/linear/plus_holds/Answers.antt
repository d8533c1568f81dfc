-- The sum of two numbers fits.
use Rattle.std.proofs.Common.{◌+ℤ◌, ◌∙◌, ap, arith}
use Rattle.std.proofs.lemmas.Int.{ints}
use Rattle.std.specs.Ordering.{int_eq}
use Rattle.fz_sat.specs.Meaning.{given}
use Rattle.fz_sat.specs.Satisfies.{valuation}
use Rattle.fz_sat.proofs.Wides.{plus_read}
use Rattle.fz_sat.proofs.linear.plus_holds.Goals as goal

pub returns : goal.returns
returns c =
    let g = given c.args.row.now.items.now c.args.row.now.args.now (valuation c.args.row.now.values.now) in
    let a = c.number.result in
    let b = c.number-2.result in
    let d = c.number-3.result in
    plus_read a b d c.from.result c.from-2.result c.from-3.result
    (omega (arith, ints, c.number.type_inv), omega (arith, ints, c.number.type_inv))
    (omega (arith, ints, c.number-2.type_inv), omega (arith, ints, c.number-2.type_inv))
    (omega (arith, ints, c.number-3.type_inv), omega (arith, ints, c.number-3.type_inv))
    (omega (arith, ints, c.from.ensures, c.number.type_inv)) (omega (arith, ints, c.from-2.ensures, c.number-2.type_inv)) (omega (arith, ints, c.from-3.ensures, c.number-3.type_inv))
    ∙ ap (λ x. int_eq (x +ℤ b) d) c.number.ensures ∙ ap (λ y. int_eq (g.number 0 +ℤ y) d) c.number-2.ensures ∙ ap (int_eq (g.number 0 +ℤ g.number 1)) c.number-3.ensures
