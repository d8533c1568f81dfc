use Rattle.dp_lower.proofs.CutLaws.{fitting_var}
use Rattle.dp_lower.proofs.domains.cut_fitting.Goals as goal

pub returns-in-Var : goal.returns-in-Var
returns-in-Var c = fitting_var c.args.term _ c.args.set.now c.in-Var.is
