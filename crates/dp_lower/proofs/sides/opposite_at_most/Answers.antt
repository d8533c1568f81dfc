use Rattle.dp_lower.proofs.ProperLaws.{apart_opposite}
use Rattle.dp_lower.proofs.sides.opposite_at_most.Goals as goal

pub at_most-requires-clause-apart : goal.at_most-requires-clause-apart
at_most-requires-clause-apart c = rw c.in_ok-opposite.ensures.sum (apart_opposite c.args.condition c.args.sum.now c.requires.apart)
