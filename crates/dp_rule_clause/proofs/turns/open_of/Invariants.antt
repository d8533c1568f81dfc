-- The atoms so far are entailed.
use Rattle.std.proofs.Common.{◌≡◌, drop}
use Rattle.dp_rule_clause.specs.Clauses.{open_of}
use Rattle.dp_rule_clause.proofs.turns.open_of.Given as goal

abbrev pub invariant-loop-place : goal.invariant-loop-place
invariant-loop-place l = open_of l.state l.atoms ≡ open_of l.state (drop l.place l.atoms)
