-- The clamped sum equals a number of 64 bits where the sum does.
use Rattle.std.proofs.Common.{◌∙◌, ap, arith, rules}
use Rattle.std.proofs.lemmas.Int.{ints}
use Rattle.std.specs.Ordering.{int_eq}
use Rattle.fz_sat.proofs.Wides.{equal_read}
use Rattle.fz_sat.proofs.linear.sum_is.Goals as goal

pub returns : goal.returns
returns c =
    equal_read c.sum.result _ c.number.result c.from.result (omega (arith, ints, c.number.type_inv), omega (arith, ints, c.number.type_inv)) (omega (arith, ints, c.from.ensures, c.number.type_inv)) (search rules) c.sum.ensures ∙ ap (int_eq _) c.number.ensures
