-- A number is shared exactly where it is in the set.
use Rattle.std.proofs.Common.{refl, arith}
use Rattle.std.proofs.lemmas.Int.{ints}
use Rattle.dp_domain.proofs.ShareLaws.{share_one-by}
use Rattle.dp_domain.proofs.term.Term.shares_with.Goals as goal

pub returns-in-Const : goal.returns-in-Const
returns-in-Const c = share_one-by c.in-Const.value _ c.args.set.now _ c.has.result (omega (arith, ints)) (rw c.in-Const.is refl) c.has.ensures
