use Rattle.std.proofs.Common.{◌≡◌, ◌++◌, drop}
use Rattle.fz_print.specs.Printed.{constraints_text}
use Rattle.fz_print.proofs.models.push_constraints.Given as goal

abbrev pub invariant-loop-constraint : goal.invariant-loop-constraint
invariant-loop-constraint l =
    l.text.items ++ constraints_text l.items (drop l.constraint-index l.constraints)
    ≡ l.fn.text.items ++ constraints_text l.items l.constraints
