-- What the call gave.
use Rattle.dp_pool.proofs.RunLaws.{call-gives}
use Rattle.dp_pool.proofs.mapping.map_one.Goals as goal

pub returns : goal.returns
returns g c = call-gives g.F.Fn c.args.f.now c.args.item c.f-result.result c.f-result.ensures
