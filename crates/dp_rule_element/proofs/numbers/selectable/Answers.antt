-- One entry more, and the numbers of all as a set.
use Rattle.std.proofs.Common.{sym, subst, []}
use Rattle.std.proofs.lemmas.Result.{IfOk-weaker}
use Rattle.dp_domain.specs.Sets.{Collects, LiesInOne}
use Rattle.dp_rule_element.specs.Choices.{AreNumbers, HasOne, IsNumberOf, IsSelectable, selection}
use Rattle.dp_rule_element.specs.Selections.{numbered}
use Rattle.dp_rule_element.proofs.NumberSteps.{gains_all, gains_next, gains_none, selectable_collected, small_ends}
use Rattle.dp_rule_element.proofs.numbers.selectable.Goals as goal

pub loop-place-init : goal.loop-place-init
loop-place-init c = subst (λ ns. AreNumbers ns (HasOne (IsNumberOf c.args.state.now c.args.index.now c.args.value.now) [])) (sym c.new-numbers.ensures.items) (gains_none (IsNumberOf c.args.state.now c.args.index.now c.args.value.now))

pub loop-place-preserved : goal.loop-place-preserved
loop-place-preserved c =
    gains_next (IsNumberOf c.args.state.now c.args.index.now c.args.value.now) c.args.array.now c.loop-place.place c.index-array-place.result c.loop-place.numbers.items _ c.loop-place-test.true c.index-array-place.is c.loop-place.invariant c.in_ok-push_number.ensures

pub of-requires : goal.of-requires
of-requires c =
    small_ends (HasOne (IsNumberOf c.args.state.now c.args.index.now c.args.value.now) (numbered c.args.array.now)) c.loop-place.numbers.items _ c.as_slice.ensures.value
    (gains_all (IsNumberOf c.args.state.now c.args.index.now c.args.value.now) c.args.array.now c.loop-place.place c.loop-place.numbers.items c.loop-place-test.false c.loop-place.invariant)

pub returns-clause-numbers : goal.returns-clause-numbers
returns-clause-numbers c =
    IfOk-weaker c.of.result (λ s. Collects s (LiesInOne c.as_slice.result.now)) (λ s. Collects s (IsSelectable (selection c.args.index.now c.args.array.now c.args.value.now) c.args.state.now))
    (λ s k. selectable_collected c.args.state.now c.args.index.now c.args.value.now c.args.array.now c.loop-place.numbers.items c.as_slice.result.now s c.as_slice.ensures.value c.requires.small
    (gains_all (IsNumberOf c.args.state.now c.args.index.now c.args.value.now) c.args.array.now c.loop-place.place c.loop-place.numbers.items c.loop-place-test.false c.loop-place.invariant) k)
    c.of.ensures.numbers
