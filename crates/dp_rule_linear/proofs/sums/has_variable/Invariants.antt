-- The variable is one of those that are left, if it is one of all.
use Rattle.std.proofs.Common.{drop}
use Rattle.dp_base.specs.Lists.{Among}
use Rattle.dp_rule_linear.specs.Forms.{variables}
use Rattle.dp_rule_linear.proofs.sums.has_variable.Given as goal

abbrev pub invariant-loop-other : goal.invariant-loop-other
invariant-loop-other l = Among l.var (variables l.terms) → Among l.var (variables (drop l.other-index l.terms))
