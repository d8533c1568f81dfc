-- The numbers of a variable, or of a number.
use Rattle.std.proofs.Common.{arith}
use Rattle.std.proofs.lemmas.Int.{ints}
use Rattle.std.proofs.lemmas.Result.{on_ok_weaker}
use Rattle.dp_rule_element.proofs.NumberSteps.{constant_gained, variable_gained}
use Rattle.dp_rule_element.proofs.numbers.push_numbers.Goals as goal

pub returns-in-Var : goal.returns-in-Var
returns-in-Var c = on_ok_weaker c.push_values.result (λ g. variable_gained c.args.state.now c.args.term.now c.in-Var.var _ _ c.in-Var.is g) c.push_values.ensures

pub returns-in-Const : goal.returns-in-Const
returns-in-Const c = on_ok_weaker c.push_small.result (λ g. constant_gained c.args.state.now c.args.term.now c.in-Const.value _ _ _ c.in-Const.is (omega (arith, ints)) g) c.push_small.ensures
