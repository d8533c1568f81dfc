-- Some entry can be selected if one of those that are left can.
use Rattle.std.proofs.Common.{◌≡◌, drop}
use Rattle.std.specs.List.{list_any}
use Rattle.dp_rule_element.specs.Selections.{is_selectable, numbered}
use Rattle.dp_rule_element.proofs.entries.any_selectable.Given as goal

abbrev pub invariant-loop-place : goal.invariant-loop-place
invariant-loop-place l = list_any (is_selectable l.state l.index l.value) (numbered l.array) ≡ list_any (is_selectable l.state l.index l.value) (drop l.place (numbered l.array))
