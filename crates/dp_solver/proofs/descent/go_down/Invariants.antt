use Rattle.dp_domain.specs.States.{IsWithin, total}
use Rattle.dp_engine.specs.Engines.{Extends, KeepsParts}
use Rattle.dp_parts.specs.Problems.{Csp}
use Rattle.dp_solver.specs.Descents.{IsDescending}
use Rattle.dp_solver.proofs.descent.go_down.Given as goal

abbrev pub invariant-loop-atoms : goal.invariant-loop-atoms
invariant-loop-atoms l = record {
  parts : KeepsParts l.initial.engine l.engine;
  states : Extends l.initial.engine l.engine;
  way : (p : Csp) → IsDescending p l.initial.atoms.items l.initial.engine → IsDescending p l.atoms.items l.engine × IsWithin l.engine.present l.initial.engine.present;
}

abbrev pub decreases-loop-atoms : goal.decreases-loop-atoms
decreases-loop-atoms l = total l.engine.present
