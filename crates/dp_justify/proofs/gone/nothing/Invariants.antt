use Rattle.std.proofs.Common.{◌≡◌, [], length}
use Rattle.dp_base.specs.Lists.{Each}
use Rattle.dp_justify.proofs.gone.nothing.Given as goal

abbrev pub invariant-loop : goal.invariant-loop
invariant-loop l = (length l.gone.items ≡ l.counter) × Each (λ ys. ys ≡ []) l.gone.items
