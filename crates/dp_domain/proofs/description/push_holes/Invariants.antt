use Rattle.std.proofs.Common.{◌≡◌, ◌++◌, map, take}
use Rattle.dp_domain.specs.Turns.{other_than}
use Rattle.dp_domain.proofs.description.push_holes.Given as goal

-- the numbers so far
abbrev pub invariant-loop-value : goal.invariant-loop-value
invariant-loop-value l = l.atoms.items ≡ l.initial.atoms.items ++ map (other_than l.var) (take l.value-index l.value-items)
