use Rattle.dp_domain.proofs.WorkingLaws.{meets-no_target}
use Rattle.dp_domain.proofs.explanation.missing.Goals as goal

pub returns-in-None : goal.returns-in-None
returns-in-None c = meets-no_target c.args.var c.args.target.now c.args.set c.in-None.is
