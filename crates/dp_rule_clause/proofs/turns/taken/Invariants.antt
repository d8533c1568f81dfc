-- None of the atoms so far takes out a value.
use Rattle.std.proofs.Common.{◌≡◌, drop}
use Rattle.dp_rule_clause.specs.Clauses.{taken}
use Rattle.dp_rule_clause.proofs.turns.taken.Given as goal

abbrev pub invariant-loop-atom : goal.invariant-loop-atom
invariant-loop-atom l = taken l.var l.set l.good l.atoms ≡ taken l.var l.set l.good (drop l.atom-index l.atoms)
