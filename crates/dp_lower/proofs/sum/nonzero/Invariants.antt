-- What was kept so far, with what is left, is the whole.
use Rattle.std.proofs.Common.{◌≡◌, ◌++◌, drop}
use Rattle.dp_lower.specs.Sums.{nonzero}
use Rattle.dp_lower.proofs.sum.nonzero.Given as goal

abbrev pub invariant-loop-coefficient : goal.invariant-loop-coefficient
invariant-loop-coefficient l = l.kept.items ++ nonzero (drop l.coefficient-index l.terms.items) ≡ nonzero l.terms.items
