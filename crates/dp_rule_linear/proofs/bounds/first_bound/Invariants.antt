-- What the terms so far give is nothing.
use Rattle.std.proofs.Common.{◌≡◌, drop}
use Rattle.dp_rule_linear.specs.Bounds.{first_bound}
use Rattle.dp_rule_linear.proofs.bounds.first_bound.Given as goal

abbrev pub invariant-loop-coefficient : goal.invariant-loop-coefficient
invariant-loop-coefficient l = first_bound l.fn.slack l.state (drop l.coefficient-index l.terms) ≡ first_bound l.fn.slack l.state l.terms
