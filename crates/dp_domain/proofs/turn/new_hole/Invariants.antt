use Rattle.std.proofs.Common.{◌≡◌, ℕ, ◌<◌, false, get_or, pos}
use Rattle.dp_domain.proofs.TurnSteps.{takes}
use Rattle.dp_domain.proofs.turn.new_hole.Given as goal

-- no value so far is taken out, and the working copy is the state
abbrev pub invariant-loop-place : goal.invariant-loop-place
invariant-loop-place g l = record {
  none : (k : ℕ) → k < l.place → takes (g.R.Test.face l.rule) l.state l.var (get_or l.values k (pos 0)) ≡ false;
  same : l.work ≡ l.state;
}
