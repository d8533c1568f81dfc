-- The number of the entry, where that can be selected.
use Rattle.std.proofs.Common.{◌≡◌, ◌+◌, ℤ, pos, refl, sym, ◌∙◌, arith}
use Rattle.std.proofs.lemmas.Int.{ints}
use Rattle.std.proofs.lemmas.Result.{on_ok_weaker}
use mir.Syntax.{w64}
use mir.Val.{of_z, to_z}
use Rattle.dp_rule_element.proofs.NumberSteps.{no_number, number_gained}
use Rattle.dp_rule_element.proofs.numbers.push_number.Goals as goal

pub returns-then-is_selectable : goal.returns-then-is_selectable
returns-then-is_selectable c =
    let n : ℤ = to_z w64 (of_z w64 c.number_of.result) in
    let is : n ≡ pos (c.args.place + 1) = omega (arith, ints, c.number_of.ensures, c.requires.few) in
    on_ok_weaker c.push_one.result
    (λ e. number_gained c.args.state.now c.args.index.now c.args.value.now (c.args.place + 1, c.args.entry.now) n _ _ is c.requires.small (sym c.is_selectable.ensures ∙ c.if-is_selectable.true) e)
    c.push_one.ensures

pub returns-else-is_selectable : goal.returns-else-is_selectable
returns-else-is_selectable c = no_number c.args.state.now c.args.index.now c.args.value.now (c.args.place + 1, c.args.entry.now) _ _ (sym c.is_selectable.ensures ∙ c.if-is_selectable.false) refl
