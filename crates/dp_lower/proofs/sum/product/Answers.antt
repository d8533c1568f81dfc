-- A product of bounded numbers is bounded.
use Rattle.std.proofs.Common.{arith}
use Rattle.std.proofs.lemmas.Int.{ints}
use Rattle.dp_lower.proofs.MergeLaws.{product_read}
use Rattle.dp_lower.proofs.sum.product.Goals as goal

pub returns-clause-bounded : goal.returns-clause-bounded
returns-clause-bounded c = product_read c.args.coefficient c.args.value c.from.result c.from-2.result (omega (arith, ints)) (omega (arith, ints)) c.requires (omega (arith, ints), omega (arith, ints))
