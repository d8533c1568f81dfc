-- An entry can be selected, or none of those so far.
use Rattle.std.proofs.Common.{sym, ◌∙◌}
use Rattle.dp_rule_element.specs.Selections.{is_selectable}
use Rattle.dp_rule_element.proofs.EntrySteps.{any_here, any_later, none_left}
use Rattle.dp_rule_element.proofs.entries.any_selectable.Goals as goal

pub returns-then-is_selectable : goal.returns-then-is_selectable
returns-then-is_selectable c =
    any_here (is_selectable c.args.state.now c.args.index.now c.args.value.now) c.args.array.now c.loop-place.place c.index-array-place.result c.loop-place-test.true c.index-array-place.is c.loop-place.invariant (sym c.is_selectable.ensures ∙ c.if-is_selectable.true)

pub loop-place-preserved : goal.loop-place-preserved
loop-place-preserved c =
    any_later (is_selectable c.args.state.now c.args.index.now c.args.value.now) c.args.array.now c.loop-place.place c.index-array-place.result c.loop-place-test.true c.index-array-place.is c.loop-place.invariant (sym c.is_selectable.ensures ∙ c.if-is_selectable.false)

pub returns : goal.returns
returns c =
    none_left (is_selectable c.args.state.now c.args.index.now c.args.value.now) c.args.array.now c.loop-place.place c.loop-place-test.false c.loop-place.invariant
