-- The state has a set for each variable so far.
use Rattle.std.proofs.Common.{ℕ, ◌<◌, length, get_or}
use Rattle.dp_trials.proofs.calls.covers_scope.Given as goal

abbrev pub invariant-loop-place : goal.invariant-loop-place
invariant-loop-place g l = (k : ℕ) → k < l.place → get_or (g.R.Test.face l.rule).scope k 0 < length l.state
