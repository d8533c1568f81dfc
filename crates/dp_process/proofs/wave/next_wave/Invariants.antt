use Rattle.std.proofs.Common.{◌≡◌}
use Rattle.dp_process.specs.Waves.{wave}
use Rattle.dp_process.proofs.wave.next_wave.Given as goal

abbrev pub invariant-loop-place : goal.invariant-loop-place
invariant-loop-place l = l.places.items ≡ wave l.found l.place
