-- One entry more.
use Rattle.dp_rule_element.specs.Selections.{is_selectable}
use Rattle.dp_rule_element.proofs.ChoiceSteps.{choice_all, choice_next}
use Rattle.dp_rule_element.proofs.choice.find_choice.Goals as goal

pub loop-place-init : goal.loop-place-init
loop-place-init c = tt

pub loop-place-preserved : goal.loop-place-preserved
loop-place-preserved c =
    choice_next (is_selectable c.args.state.now c.args.index.now c.args.value.now) c.args.array.now c.loop-place.place c.index-array-place.result c.loop-place.found c.with_entry-found.result c.loop-place-test.true c.index-array-place.is c.loop-place.invariant c.with_entry-found.ensures

pub returns : goal.returns
returns c =
    choice_all (is_selectable c.args.state.now c.args.index.now c.args.value.now) c.args.array.now c.loop-place.place c.loop-place.found c.loop-place-test.false c.loop-place.invariant
