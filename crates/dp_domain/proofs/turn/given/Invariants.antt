use Rattle.std.proofs.Common.{◌≡◌, drop}
use Rattle.dp_domain.specs.Turns.{given}
use Rattle.dp_domain.proofs.turn.given.Given as goal

-- what the variables that are left give is what all give, and the working copy is the state
abbrev pub invariant-loop-place : goal.invariant-loop-place
invariant-loop-place g l = record {
  left : given (g.R.Test.face l.rule) l.state (drop l.place (g.R.Test.face l.rule).scope) ≡ given (g.R.Test.face l.rule) l.state (g.R.Test.face l.rule).scope;
  same : l.work ≡ l.state;
}
