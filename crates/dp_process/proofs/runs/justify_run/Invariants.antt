use Rattle.std.proofs.Common.{◌≡◌, map, take}
use Rattle.dp_engine.specs.Indexes.{IsOver}
use Rattle.dp_justify.specs.Pieces.{justification}
use Rattle.dp_parts.specs.Problems.{posed}
use Rattle.dp_process.proofs.runs.justify_run.Given as goal

abbrev pub invariant-loop-place : goal.invariant-loop-place
invariant-loop-place l = record {
  over : IsOver l.index l.engine;
  answers : l.answers.items ≡ map (justification (posed l.index.problem) l.index.nogoods) (take l.place-index l.places);
}
