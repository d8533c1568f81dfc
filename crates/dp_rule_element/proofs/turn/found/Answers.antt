-- The turn is a clash where nothing can be selected, else what is given.
use Rattle.std.proofs.Common.{sym, ◌∙◌}
use Rattle.dp_rule_element.specs.Choices.{selection}
use Rattle.dp_rule_element.specs.Selections.{is_selectable, numbered}
use Rattle.dp_rule_element.proofs.ChoiceSteps.{some_selectable}
use Rattle.dp_rule_element.proofs.GivenLaws.{clash_found, turn_found}
use Rattle.dp_rule_element.proofs.turn.found.Goals as goal

pub returns-then-is_nothing : goal.returns-then-is_nothing
returns-then-is_nothing c =
    clash_found (selection c.args.index.now c.args.array.now c.args.value.now) c.args.state.now c.find_choice-choice.result c.find_choice-choice.ensures (sym c.is_nothing.ensures ∙ c.if-is_nothing.true)

pub given-requires-clause-some : goal.given-requires-clause-some
given-requires-clause-some c =
    some_selectable (is_selectable c.args.state.now c.args.index.now c.args.value.now) (numbered c.args.array.now) c.find_choice-choice.result c.find_choice-choice.ensures (sym c.is_nothing.ensures ∙ c.if-is_nothing.false)

pub returns : goal.returns
returns c =
    c.as_turn.ensures
    ∙ turn_found (selection c.args.index.now c.args.array.now c.args.value.now) c.args.state.now c.args.scope.now c.in_ok-atom.atom c.requires.scope c.requires.alive
    (some_selectable (is_selectable c.args.state.now c.args.index.now c.args.value.now) (numbered c.args.array.now) c.find_choice-choice.result c.find_choice-choice.ensures (sym c.is_nothing.ensures ∙ c.if-is_nothing.false)) c.in_ok-atom.ensures
