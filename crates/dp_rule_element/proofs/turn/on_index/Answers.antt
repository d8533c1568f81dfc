-- What the numbers of the entries give that can be selected.
use Rattle.std.proofs.Common.{◌≡◌}
use Rattle.std.proofs.lemmas.Result.{IfOk-weaker}
use Rattle.dp_rule_element.specs.Choices.{IsGivenBy, IsSelectable, atom_by, selection}
use Rattle.dp_rule_element.proofs.turn.on_index.Goals as goal

pub returns : goal.returns
returns c =
    IfOk-weaker c.bound_or_hole.result (λ o. o ≡ atom_by c.args.set.now c.in_ok-good.good c.args.var)
    (IsGivenBy (λ good. atom_by c.args.set.now good c.args.var) (IsSelectable (selection c.args.index.now c.args.array.now c.args.value.now) c.args.state.now))
    (λ o e. (c.in_ok-good.good, c.in_ok-good.ensures.domain, c.in_ok-good.ensures.numbers, e))
    c.bound_or_hole.ensures
