use Rattle.std.proofs.Common.{◌≡◌, drop}
use Rattle.dp_checker.specs.Known.{first_unknown}
use Rattle.dp_checker.proofs.literals.first_unknown.Given as goal

abbrev pub invariant-loop-hint : goal.invariant-loop-hint
invariant-loop-hint l =
    first_unknown l.steps (drop l.hint-index l.hints) ≡ first_unknown l.steps l.hints
