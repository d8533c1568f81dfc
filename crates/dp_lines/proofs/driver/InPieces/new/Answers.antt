-- Nothing has come, and so all that has come was taken.
use Rattle.dp_lines.proofs.DrivingLaws.{begins}
use Rattle.dp_lines.proofs.driver.InPieces.new.Goals as goal

pub returns-clause-behind : goal.returns-clause-behind
returns-clause-behind g c = begins (g.T.LineTaker.took c.args.taker) c.new.result c.new.ensures.fresh c.requires
