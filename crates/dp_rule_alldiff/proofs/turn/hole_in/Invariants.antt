-- The least of the intervals so far.
use Rattle.std.proofs.Common.{◌≡◌, take}
use Rattle.std.specs.List.{filter_map}
use Rattle.dp_domain.specs.Sets.{least}
use Rattle.dp_rule_alldiff.specs.Tight.{value_in}
use Rattle.dp_rule_alldiff.proofs.turn.hole_in.Given as goal

abbrev pub invariant-loop-interval : goal.invariant-loop-interval
invariant-loop-interval l = l.least ≡ least (filter_map (value_in l.set l.lower) (take l.interval-index l.from))
