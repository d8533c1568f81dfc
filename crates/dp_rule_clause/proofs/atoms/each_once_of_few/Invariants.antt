-- The atoms so far, each once, without an allocation.
use Rattle.std.proofs.Common.{◌≡◌, take}
use Rattle.dp_rule_clause.specs.Nogoods.{each_once}
use Rattle.dp_rule_clause.proofs.atoms.each_once_of_few.Given as goal

abbrev pub invariant-loop-atom : goal.invariant-loop-atom
invariant-loop-atom l = (l.kept.items ≡ each_once (take l.atom-index l.atoms)) × (l.kept.capacity ≡ 4)
