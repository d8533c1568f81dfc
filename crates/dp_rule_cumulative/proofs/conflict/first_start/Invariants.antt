-- The least of the first times so far.
use Rattle.std.proofs.Common.{◌≡◌, take}
use Rattle.dp_domain.specs.Sets.{least}
use Rattle.dp_rule_cumulative.specs.Profiles.{starts_in}
use Rattle.dp_rule_cumulative.proofs.conflict.first_start.Given as goal

abbrev pub invariant-loop-edge : goal.invariant-loop-edge
invariant-loop-edge l = l.found ≡ least (starts_in l.demand (take l.edge-index l.edges))
