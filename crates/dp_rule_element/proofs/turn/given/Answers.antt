-- One variable more.
use Rattle.std.proofs.Common.{◌∙◌, sym}
use Rattle.dp_rule_element.specs.Choices.{selection}
use Rattle.dp_rule_element.specs.Selections.{face_element}
use Rattle.dp_rule_element.proofs.GivenLaws.{given_found, given_more}
use Rattle.dp_rule_element.proofs.turn.given.Goals as goal

pub returns-then-is_some : goal.returns-then-is_some
returns-then-is_some c =
    given_found (face_element (selection c.args.index.now c.args.array.now c.args.value.now)) c.args.state.now c.args.scope.now c.loop-var.var-index c.var-item.result _ c.loop-var.invariant c.loop-var-test.true c.var-item.is c.in_ok-atom.ensures (sym c.is_some.ensures ∙ c.if-is_some.true)

pub loop-var-preserved : goal.loop-var-preserved
loop-var-preserved c =
    given_more (face_element (selection c.args.index.now c.args.array.now c.args.value.now)) c.args.state.now c.args.scope.now c.loop-var.var-index c.var-item.result _ c.loop-var.invariant c.loop-var-test.true c.var-item.is c.in_ok-atom.ensures (sym c.is_some.ensures ∙ c.if-is_some.false)
