-- One set for each pair of ends so far.
use Rattle.std.proofs.Common.{◌≡◌, length}
use Rattle.dp_trials.proofs.states.state_of.Given as goal

abbrev pub invariant-loop-pair : goal.invariant-loop-pair
invariant-loop-pair l = length l.sets.items ≡ l.pair-index
