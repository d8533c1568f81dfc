use Rattle.std.proofs.Common.{◌≡◌, take}
use Rattle.dp_domain.proofs.explanation.scope_of.Given as goal

-- the variables so far
abbrev pub invariant-loop-place : goal.invariant-loop-place
invariant-loop-place g l = l.scope.items ≡ take l.place (g.R.Test.face l.rule).scope
