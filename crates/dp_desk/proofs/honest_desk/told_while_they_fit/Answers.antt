use Rattle.std.proofs.Common.{[], arith}
use Rattle.dp_desk.proofs.Told.{told_from}
use Rattle.dp_desk.proofs.honest_desk.told_while_they_fit.Goals as goal

pub returns : goal.returns
returns c = λ room texts. told_from room [] texts (omega arith)
