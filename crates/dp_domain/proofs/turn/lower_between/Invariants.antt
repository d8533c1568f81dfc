use Rattle.std.proofs.Common.{◌≡◌, ◌-◌}
use Rattle.dp_domain.proofs.BisectSteps.{IsLowerBracket}
use Rattle.dp_domain.proofs.turn.lower_between.Given as goal

-- the bound is between the two, and the working copy is the state
abbrev pub invariant-loop-low : goal.invariant-loop-low
invariant-loop-low g l = record {
  bracket : IsLowerBracket (g.R.Test.face l.rule) l.state l.var l.first l.last l.low l.high;
  same : l.work ≡ l.state;
}

abbrev pub decreases-loop-low : goal.decreases-loop-low
decreases-loop-low g l = l.high - l.low
