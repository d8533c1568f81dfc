-- What the variables that are left give is what all give.
use Rattle.std.proofs.Common.{◌≡◌, drop}
use Rattle.dp_domain.specs.Turns.{given}
use Rattle.dp_rule_element.specs.Choices.{selection}
use Rattle.dp_rule_element.specs.Selections.{face_element}
use Rattle.dp_rule_element.proofs.turn.given.Given as goal

abbrev pub invariant-loop-var : goal.invariant-loop-var
invariant-loop-var l = given (face_element (selection l.index l.array l.value)) l.state (drop l.var-index l.scope) ≡ given (face_element (selection l.index l.array l.value)) l.state l.scope
