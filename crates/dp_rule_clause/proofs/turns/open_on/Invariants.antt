-- The atoms so far are on the variable or entailed.
use Rattle.std.proofs.Common.{◌≡◌, drop}
use Rattle.dp_rule_clause.specs.Clauses.{open_on}
use Rattle.dp_rule_clause.proofs.turns.open_on.Given as goal

abbrev pub invariant-loop-atom : goal.invariant-loop-atom
invariant-loop-atom l = open_on l.state l.var l.atoms ≡ open_on l.state l.var (drop l.atom-index l.atoms)
