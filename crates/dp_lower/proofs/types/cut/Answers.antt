use Rattle.std.proofs.Common.{sym}
use Rattle.dp_lower.proofs.TypeLaws.{filter_true}
use Rattle.dp_lower.proofs.types.cut.Goals as goal

pub returns-in-Int : goal.returns-in-Int
returns-in-Int c = rw c.in-Int.is (sym (filter_true c.args.set.now))
