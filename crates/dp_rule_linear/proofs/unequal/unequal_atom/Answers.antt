-- The values at which the term is another number are those other than the quotient.
use Rattle.dp_rule_linear.proofs.UnequalSteps.{quotient_found, quotient_none}
use Rattle.dp_rule_linear.proofs.unequal.unequal_atom.Goals as goal

pub returns-in-Some : goal.returns-in-Some
returns-in-Some c =
    quotient_found c.args.coefficient c.args.number c.in-Some.value c.args.state.now c.args.var c.other_atom.result c.requires.not_zero c.requires.bounded c.requires.number c.in-Some.ensures c.other_atom.ensures

pub returns-in-None : goal.returns-in-None
returns-in-None c =
    quotient_none c.args.coefficient c.args.number c.args.state.now c.args.var c.requires.bounded c.requires.number c.requires.domain c.in-None.ensures
