use Rattle.std.proofs.Common.{◌≡◌, drop}
use Rattle.dp_show.specs.Named.{first_undefined}
use Rattle.dp_show.proofs.named.first_undefined.Given as goal

abbrev pub invariant-loop-literal : goal.invariant-loop-literal
invariant-loop-literal l =
    first_undefined l.atoms.entries (drop l.literal-index l.literals) ≡ first_undefined l.atoms.entries l.literals
