use Rattle.std.proofs.Common.{◌≡◌, length}
use Rattle.dp_engine.specs.Indexes.{IsOver}
use Rattle.dp_parts.specs.Problems.{posed}
use Rattle.dp_process.specs.Waves.{IsFound, left, wave}
use Rattle.dp_process.proofs.waves.go_on.Given as goal

abbrev pub invariant-waves : goal.invariant-waves
invariant-waves g l = record {
  over : IsOver l.index l.engine;
  found : IsFound (posed l.index.problem) l.index.nogoods l.found;
  places : l.places.items ≡ wave l.found (length l.index.nogoods);
}

abbrev pub decreases-waves : goal.decreases-waves
decreases-waves g l = left l.found
