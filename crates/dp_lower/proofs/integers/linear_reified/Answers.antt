-- A condition on a Boolean is apart from a sum of integers.
use Rattle.dp_rule_linear.specs.Forms.{variables}
use Rattle.fz_sat.specs.Args.{arg_term}
use Rattle.dp_lower.proofs.WeightLaws.{apart_boolean}
use Rattle.dp_lower.proofs.integers.linear_reified.Goals as goal

pub relate_reified-requires-clause-apart : goal.relate_reified-requires-clause-apart
relate_reified-requires-clause-apart c = rw c.arg_term.ensures (apart_boolean c.args.items.now (arg_term c.args.items.now c.args.args.now 3) (variables c.in_ok-sum.sum.terms) c.requires.1.1.1.0 c.in_ok-sum.ensures.integers)
