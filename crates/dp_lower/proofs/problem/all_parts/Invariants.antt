-- The parts so far, with those of the constraints that are left, are all.
use Rattle.std.proofs.Common.{◌≡◌, ◌++◌, drop, map}
use Rattle.dp_lower.specs.Problem.{parts_of}
use Rattle.dp_lower.proofs.problem.all_parts.Given as goal

abbrev pub invariant-loop-constraint : goal.invariant-loop-constraint
invariant-loop-constraint l = l.parts.items ++ map (parts_of l.items) (drop l.constraint-index l.constraints) ≡ map (parts_of l.items) l.constraints
