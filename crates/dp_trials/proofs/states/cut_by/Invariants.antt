-- The state so far is within the initial one.
use Rattle.dp_domain.specs.States.{IsWithin}
use Rattle.dp_trials.proofs.states.cut_by.Given as goal

abbrev pub invariant-loop-atom : goal.invariant-loop-atom
invariant-loop-atom l = IsWithin l.now l.fn.initial
