use Rattle.std.proofs.Common.{length}
use Rattle.dp_parts.specs.Problems.{posed}
use Rattle.dp_process.proofs.TakeLaws.{IsTaking}
use Rattle.dp_process.proofs.waves.justify_wave.Given as goal

abbrev pub invariant-loop-place : goal.invariant-loop-place
invariant-loop-place g l = IsTaking (posed l.index.problem) l.index.nogoods l.initial.found l.found l.initial.places.items l.places.items l.answers.items

abbrev pub decreases-loop-place : goal.decreases-loop-place
decreases-loop-place g l = length l.places.items
