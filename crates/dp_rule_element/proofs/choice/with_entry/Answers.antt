-- The entry joins where it can be selected.
use Rattle.std.proofs.Common.{◌+◌, sym, ◌∙◌}
use Rattle.std.proofs.lemmas.Bool.{cond-false, cond-true}
use Rattle.dp_rule_element.specs.Selections.{is_selectable}
use Rattle.dp_rule_element.proofs.ChoiceSteps.{free_stays}
use Rattle.dp_rule_element.proofs.choice.with_entry.Goals as goal

pub returns-then-is_free : goal.returns-then-is_free
returns-then-is_free c =
    free_stays (is_selectable c.args.state.now c.args.index.now c.args.value.now (c.args.place + 1, c.args.entry.now)) c.args.found.now c.args.entry.now (sym c.is_free.ensures ∙ c.if-is_free.true)

pub returns-then-is_selectable : goal.returns-then-is_selectable
returns-then-is_selectable c =
    c.joined.ensures
    ∙ sym (cond-true (is_selectable c.args.state.now c.args.index.now c.args.value.now (c.args.place + 1, c.args.entry.now)) _ _ (sym c.is_selectable.ensures ∙ c.if-is_selectable.true))

pub returns-else-is_selectable : goal.returns-else-is_selectable
returns-else-is_selectable c =
    sym (cond-false (is_selectable c.args.state.now c.args.index.now c.args.value.now (c.args.place + 1, c.args.entry.now)) _ _ (sym c.is_selectable.ensures ∙ c.if-is_selectable.false))
