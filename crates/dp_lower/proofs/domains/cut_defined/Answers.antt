use Rattle.std.proofs.Common.{sym}
use Rattle.dp_lower.proofs.TypeLaws.{filter_true}
use Rattle.dp_lower.proofs.domains.cut_defined.Goals as goal

pub returns-in-None : goal.returns-in-None
returns-in-None c = rw c.in-None.is (sym (filter_true c.args.set.now))
