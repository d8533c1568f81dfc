-- The atoms so far that one of the numbers fails.
use Rattle.std.proofs.Common.{◌≡◌, ◌++◌, take}
use Rattle.dp_rule_clause.specs.Clauses.{failed_by}
use Rattle.dp_rule_clause.proofs.reasons.push_failed.Given as goal

abbrev pub invariant-loop-atom : goal.invariant-loop-atom
invariant-loop-atom l = l.why.items ≡ l.initial.why.items ++ failed_by l.numbers (take l.atom-index l.atom-items)
