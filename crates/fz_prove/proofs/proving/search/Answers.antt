-- What the solver wrote is what a search found.
use Rattle.std.proofs.Common.{rules}
use Rattle.dp_desk.specs.Channel.{Starts}
use Rattle.dp_desk.specs.InMemory.{told}
use Rattle.fz_prove.proofs.Proven.{searched_of}
use Rattle.fz_prove.proofs.proving.search.Goals as goal

pub returns-in-Ok : goal.returns-in-Ok
returns-in-Ok c =
    let started : Starts (told c.open_out.new.self).first = search rules in
    searched_of c.args.problem.now c.args.conflicts (told c.open_out.new.self).first (told c.solve.new.desk).first c.in-Ok.outcome started c.in-Ok.ensures.solved
