-- A search for the number is the test whether it is in the set.
use Rattle.std.proofs.Common.{arith}
use Rattle.std.proofs.lemmas.Int.{ints}
use Rattle.dp_domain.proofs.ShareLaws.{is_among-by}
use Rattle.dp_rule_clause.proofs.turns.is_among.Goals as goal

pub returns : goal.returns
returns c = is_among-by c.args.number _ c.args.set.now c.has.result (omega (arith, ints)) c.has.ensures
