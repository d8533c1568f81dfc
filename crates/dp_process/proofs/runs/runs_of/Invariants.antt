use Rattle.std.proofs.Common.{◌≡◌, ◌++◌, length}
use Rattle.std.specs.List.{flat_map}
use Rattle.dp_process.proofs.runs.runs_of.Given as goal

abbrev pub invariant-cuts : goal.invariant-cuts
invariant-cuts l = flat_map (λ run. run.now) l.runs.items ++ l.rest ≡ l.places

abbrev pub decreases-cuts : goal.decreases-cuts
decreases-cuts l = length l.rest
