-- The numbers of those of the entries so far that can be selected.
use Rattle.std.proofs.Common.{take}
use Rattle.dp_rule_element.specs.Choices.{AreNumbers, HasOne, IsNumberOf}
use Rattle.dp_rule_element.specs.Selections.{numbered}
use Rattle.dp_rule_element.proofs.numbers.selectable.Given as goal

abbrev pub invariant-loop-place : goal.invariant-loop-place
invariant-loop-place l = AreNumbers l.numbers.items (HasOne (IsNumberOf l.state l.index l.value) (take l.place (numbered l.array)))
