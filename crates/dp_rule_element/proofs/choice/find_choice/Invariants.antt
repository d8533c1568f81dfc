-- What the entries so far are that can be selected.
use Rattle.std.proofs.Common.{take}
use Rattle.dp_rule_element.specs.Choices.{IsChoiceOf}
use Rattle.dp_rule_element.specs.Selections.{is_selectable, numbered}
use Rattle.dp_rule_element.proofs.choice.find_choice.Given as goal

abbrev pub invariant-loop-place : goal.invariant-loop-place
invariant-loop-place l = IsChoiceOf (is_selectable l.state l.index l.value) (take l.place (numbered l.array)) l.found
