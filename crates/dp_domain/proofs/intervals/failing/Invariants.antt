-- What was added so far fails one of the atoms so far.
use Rattle.std.proofs.Common.{◌≡◌, take}
use Rattle.std.specs.List.{flat_map}
use Rattle.dp_domain.specs.Intervals.{failing_on}
use Rattle.dp_domain.proofs.intervals.failing.Given as goal

abbrev pub invariant-loop-atom : goal.invariant-loop-atom
invariant-loop-atom l = l.kept.items ≡ flat_map (failing_on l.var l.intervals) (take l.atom-index l.atoms)
