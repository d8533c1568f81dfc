use Rattle.std.proofs.Common.{map}
use Rattle.dp_domain.specs.States.{total}
use Rattle.dp_engine.specs.Engines.{KeepsParts, parts_of, states}
use Rattle.dp_justify.specs.Taking.{IsTrail, seen_among}
use Rattle.dp_justify.proofs.RunSteps.{IsAlong}
use Rattle.dp_justify.proofs.turns.counted_turns.Given as goal

abbrev pub invariant-loop-turns : goal.invariant-loop-turns
invariant-loop-turns g l = record {
  parts : KeepsParts l.initial.engine l.engine;
  along : IsAlong (parts_of l.initial.engine) l.initial.engine.present (map (seen_among (states l.engine)) l.turns.items) l.engine.present;
  trail : IsTrail (states l.engine) l.turns.items;
}

abbrev pub decreases-loop-turns : goal.decreases-loop-turns
decreases-loop-turns g l = total l.engine.present
