use Rattle.std.proofs.Common.{take}
use Rattle.std.specs.List.{AllZip}
use Rattle.dp_pool.specs.Calls.{Gives}
use Rattle.dp_pool.proofs.mapping.map_run.Given as goal

abbrev pub invariant-loop-place : goal.invariant-loop-place
invariant-loop-place g l = AllZip (Gives g.F.Fn l.f) (take l.place l.items) l.results.items
