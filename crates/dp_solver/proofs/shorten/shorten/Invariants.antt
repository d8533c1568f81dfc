use Rattle.std.proofs.Common.{◌≡◌, ◌≤◌, ◌-◌, length}
use Rattle.dp_solver.specs.Descents.{IsLearnable}
use Rattle.dp_solver.specs.Marks.{IsOn, asked}
use Rattle.dp_solver.proofs.shorten.shorten.Given as goal

abbrev pub invariant-loop-place : goal.invariant-loop-place
invariant-loop-place l = record {
  engine : IsOn (asked l.task) l.root l.engine;
  nogoods : l.engine.nogoods ≡ l.initial.engine.nogoods;
  atoms : IsLearnable (asked l.task) l.engine.nogoods l.atoms.items;
  place : l.place ≤ length l.atoms.items;
}

abbrev pub decreases-loop-place : goal.decreases-loop-place
decreases-loop-place l = length l.atoms.items - l.place
