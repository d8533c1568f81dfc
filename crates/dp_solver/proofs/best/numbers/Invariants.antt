use Rattle.std.proofs.Common.{◌≡◌, map, take}
use Rattle.dp_solver.specs.Descents.{lowest}
use Rattle.dp_solver.proofs.best.numbers.Given as goal

abbrev pub invariant-loop-place : goal.invariant-loop-place
invariant-loop-place l = l.numbers.items ≡ map lowest (take l.place l.state)
