-- The coefficient is put in with what was there.
use Rattle.std.proofs.Common.{arith}
use Rattle.std.proofs.lemmas.Int.{ints}
use Rattle.dp_lower.proofs.MergeLaws.{added_read}
use Rattle.dp_lower.proofs.sum.add_variable.Goals as goal

pub returns : goal.returns
returns c =
    let small = c.requires.small in
    let a = small.0 in let b = small.1 in
    let before = c.coefficient_of-before.ensures.bounded in
    let p = before.0 in let q = before.1 in
    added_read c.args.coefficients.now.entries c.insert.new.self.entries c.args.var _ c.coefficient_of-before.result c.args.coefficient c.requires.climbing c.in_ok-insert.ensures.entries
    (omega (arith, ints)) c.coefficient_of-before.ensures.coefficient
