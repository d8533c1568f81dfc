-- The greatest of the last times so far.
use Rattle.std.proofs.Common.{◌≡◌, take}
use Rattle.dp_domain.specs.Sets.{greatest}
use Rattle.dp_rule_cumulative.specs.Profiles.{ends_in}
use Rattle.dp_rule_cumulative.proofs.conflict.last_end.Given as goal

abbrev pub invariant-loop-edge : goal.invariant-loop-edge
invariant-loop-edge l = l.found ≡ greatest (ends_in l.demand (take l.edge-index l.edges))
