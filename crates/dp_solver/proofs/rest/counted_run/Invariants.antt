use Rattle.dp_domain.specs.States.{total}
use Rattle.dp_engine.specs.Engines.{Extends, KeepsParts, parts_of}
use Rattle.dp_solver.proofs.RunSteps.{GoesOn}
use Rattle.dp_solver.proofs.rest.counted_run.Given as goal

abbrev pub invariant-loop-steps : goal.invariant-loop-steps
invariant-loop-steps g l = record {
  parts : KeepsParts l.initial.engine l.engine;
  states : Extends l.initial.engine l.engine;
  run : GoesOn (parts_of l.initial.engine) l.initial.engine.present l.engine.present;
}

abbrev pub decreases-loop-steps : goal.decreases-loop-steps
decreases-loop-steps g l = total l.engine.present
