-- A read takes the first bytes that are left.
use Rattle.std.proofs.Common.{take, sym, subst}
use Rattle.dp_desk.specs.Channel.{IsOpen, Takes}
use Rattle.dp_desk.specs.Honest.{Honest, honest_sight, every_name}
use Rattle.dp_desk.specs.Places.{stored_of}
use Rattle.dp_desk.specs.Sight.{input}
use Rattle.dp_desk.specs.Stored.{sight_of}
use Rattle.dp_desk.proofs.Stores.{read_takes}
use Rattle.dp_desk.proofs.honest_desk.HonestDeskDesk.read.Goals as goal

pub returns-clause-took : goal.returns-clause-took
returns-clause-took c =
    subst (λ (d : Honest). Takes (input c.args.which (honest_sight d)) (input c.args.which (sight_of every_name (stored_of c.read.new.self))) (take c.read.result c.read.new.into)) c.self.view_is
    (read_takes c.args.which every_name c.read.result _ _ (stored_of c.self.inside.store) (stored_of c.read.new.self) _ c.read.new.into
    (subst (λ (d : Honest). IsOpen (input c.args.which (honest_sight d))) (sym c.self.view_is) c.requires)
    c.read.ensures.moved c.read.ensures.bytes c.read.ensures.after)
