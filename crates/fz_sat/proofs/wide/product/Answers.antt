-- A product of bounded numbers is bounded.
use Rattle.std.proofs.Common.{arith}
use Rattle.std.proofs.lemmas.Int.{ints}
use Rattle.fz_sat.proofs.Products.{product_read}
use Rattle.fz_sat.proofs.wide.product.Goals as goal

pub returns-clause-bounded : goal.returns-clause-bounded
returns-clause-bounded c =
    product_read c.args.left c.args.right c.from.result c.from-2.result (omega (arith, ints)) (omega (arith, ints)) (omega (arith, ints), omega (arith, ints)) (omega (arith, ints), omega (arith, ints))
