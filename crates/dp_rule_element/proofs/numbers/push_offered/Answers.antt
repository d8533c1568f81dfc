-- The numbers of the entry, where the index may select it.
use Rattle.std.proofs.Common.{◌+◌, refl, sym, ◌∙◌}
use Rattle.std.proofs.lemmas.Result.{on_ok_weaker}
use Rattle.dp_rule_element.proofs.NumberSteps.{no_offer, offer_gained}
use Rattle.dp_rule_element.proofs.numbers.push_offered.Goals as goal

pub returns-then-may_be_at : goal.returns-then-may_be_at
returns-then-may_be_at c =
    on_ok_weaker c.push_numbers.result (λ g. offer_gained c.args.state.now c.args.index.now (c.args.place + 1, c.args.entry.now) _ _ (sym c.may_be_at.ensures ∙ c.if-may_be_at.true) g) c.push_numbers.ensures

pub returns-else-may_be_at : goal.returns-else-may_be_at
returns-else-may_be_at c = no_offer c.args.state.now c.args.index.now (c.args.place + 1, c.args.entry.now) _ _ (sym c.may_be_at.ensures ∙ c.if-may_be_at.false) refl
