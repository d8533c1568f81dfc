use Rattle.std.proofs.Common.{arith}
use Rattle.dp_domain.proofs.ExplanationLaws.{describes_end}
use Rattle.dp_domain.proofs.description.describe.Goals as goal

pub returns-clause-meaning : goal.returns-clause-meaning
returns-clause-meaning c =
    describes_end c.args.initial.now c.args.now.now c.args.scope.now c.loop-var.var-index _ (omega arith) c.loop-var.invariant.atoms c.loop-var.invariant.sets
    c.requires.covers c.requires.alive c.requires.within
