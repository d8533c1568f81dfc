use Rattle.std.proofs.Common.{◌≡◌, drop}
use Rattle.dp_checker.specs.Known.{first_undefined}
use Rattle.dp_checker.proofs.literals.first_undefined.Given as goal

abbrev pub invariant-loop-literal : goal.invariant-loop-literal
invariant-loop-literal l =
    first_undefined l.atoms.entries (drop l.literal-index l.literals) ≡ first_undefined l.atoms.entries l.literals
