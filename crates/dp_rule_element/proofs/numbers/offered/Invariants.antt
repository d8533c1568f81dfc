-- The numbers of those of the entries so far that the index may select.
use Rattle.std.proofs.Common.{take}
use Rattle.dp_rule_element.specs.Choices.{AreNumbers, HasOne, IsValueOf}
use Rattle.dp_rule_element.specs.Selections.{numbered}
use Rattle.dp_rule_element.proofs.numbers.offered.Given as goal

abbrev pub invariant-loop-place : goal.invariant-loop-place
invariant-loop-place l = AreNumbers l.numbers.items (HasOne (IsValueOf l.state l.index) (take l.place (numbered l.array)))
