use mir.Syntax.{w64}
use Rattle.std.proofs.lemmas.Int.{to_z-of_z}
use Rattle.dp_lower.proofs.TypeLaws.{has_made}
use Rattle.dp_lower.proofs.types.has.Goals as goal

pub returns : goal.returns
returns c = has_made c.has.result c.args.number _ c.args.set.now (to_z-of_z w64 c.args.number c.ranges.number) c.has.ensures
