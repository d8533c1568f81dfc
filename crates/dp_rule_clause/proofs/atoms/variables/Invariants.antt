-- The variables of the atoms so far, and room for the others.
use Rattle.std.proofs.Common.{◌≡◌, ◌≤◌, length, take}
use Rattle.dp_rule_clause.specs.Nogoods.{variables}
use Rattle.dp_rule_clause.proofs.atoms.variables.Given as goal

abbrev pub invariant-loop-atom : goal.invariant-loop-atom
invariant-loop-atom l = (l.variables.items ≡ variables (take l.atom-index l.atoms)) × (length l.atoms ≤ l.variables.capacity)
