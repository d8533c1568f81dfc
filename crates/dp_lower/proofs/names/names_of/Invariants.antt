-- What was named so far, with what is left, is the whole.
use Rattle.dp_lower.proofs.NameLaws.{AreNamed}
use Rattle.dp_lower.proofs.names.names_of.Given as goal

abbrev pub invariant-loop-item : goal.invariant-loop-item
invariant-loop-item l = AreNamed l.items l.item-index l.names.entries l.own.items
