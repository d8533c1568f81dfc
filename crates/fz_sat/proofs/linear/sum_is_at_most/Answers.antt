-- The clamped sum is at most a number of 64 bits where the sum is.
use Rattle.std.proofs.Common.{◌∙◌, ap, arith, rules}
use Rattle.std.proofs.lemmas.Int.{ints}
use Rattle.std.specs.Prelude.{int_le}
use Rattle.fz_sat.proofs.Wides.{order_read}
use Rattle.fz_sat.proofs.linear.sum_is_at_most.Goals as goal

pub returns : goal.returns
returns c =
    order_read c.sum.result _ c.number.result c.from.result (omega (arith, ints, c.number.type_inv), omega (arith, ints, c.number.type_inv)) (omega (arith, ints, c.from.ensures, c.number.type_inv)) (search rules) c.sum.ensures ∙ ap (int_le _) c.number.ensures
