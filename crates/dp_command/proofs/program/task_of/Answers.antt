-- What a command leaves as it was.
use Rattle.dp_command.specs.Asked.{asked}
use Rattle.dp_command.proofs.Touches.{leaves_of}
use Rattle.dp_command.proofs.program.task_of.Goals as goal

pub returns-in-Some-clause-unasked : goal.returns-in-Some-clause-unasked
returns-in-Some-clause-unasked g c =
    leaves_of (asked c.in-Some.command) _ (g.D.Desk.sight c.args.desk.now) (g.D.Desk.sight c.obey.new.desk) c.in-Some.ensures c.obey.ensures.unasked
