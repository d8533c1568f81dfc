-- The variables so far have one value each.
use Rattle.std.proofs.Common.{◌≡◌, drop}
use Rattle.dp_rule_linear.specs.Differs.{are_single}
use Rattle.dp_rule_linear.proofs.sums.are_single.Given as goal

abbrev pub invariant-loop-var : goal.invariant-loop-var
invariant-loop-var l = are_single l.state l.terms ≡ are_single l.state (drop l.var-index l.terms)
