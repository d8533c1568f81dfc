-- A number is shared exactly where the other term may be it.
use Rattle.std.proofs.Common.{refl, arith}
use Rattle.std.proofs.lemmas.Int.{ints}
use Rattle.dp_domain.specs.Terms.{term_values}
use Rattle.dp_domain.proofs.ShareLaws.{one_shares-by}
use Rattle.dp_domain.proofs.term.Term.shares.Goals as goal

pub returns-in-Const : goal.returns-in-Const
returns-in-Const c = one_shares-by c.in-Const.value _ (term_values c.args.state.now c.args.other) _ c.has.result (omega (arith, ints)) (rw c.in-Const.is refl) c.has.ensures
