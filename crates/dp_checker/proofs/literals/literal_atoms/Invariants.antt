use Rattle.std.proofs.Common.{◌≡◌, ◌++◌, drop}
use Rattle.dp_checker.specs.Known.{literal_atoms}
use Rattle.dp_checker.proofs.literals.literal_atoms.Given as goal

abbrev pub invariant-loop-literal : goal.invariant-loop-literal
invariant-loop-literal l =
    l.denial.items ++ literal_atoms l.atoms.entries (drop l.literal-index l.literals) ≡ literal_atoms l.atoms.entries l.literals
