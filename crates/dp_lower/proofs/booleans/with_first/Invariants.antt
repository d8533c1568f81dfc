-- What was added so far, with what is left, is the whole.
use Rattle.std.proofs.Common.{◌≡◌, ◌++◌, ◌∷◌, drop}
use Rattle.dp_lower.proofs.booleans.with_first.Given as goal

abbrev pub invariant-loop-literal : goal.invariant-loop-literal
invariant-loop-literal l = l.row.items ++ drop l.literal-index l.rest ≡ l.first ∷ l.rest
