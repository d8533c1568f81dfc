-- The least of the intervals so far.
use Rattle.std.proofs.Common.{◌≡◌, take}
use Rattle.std.specs.List.{filter_map}
use Rattle.dp_domain.specs.Sets.{least}
use Rattle.dp_rule_alldiff.specs.Tight.{start_over}
use Rattle.dp_rule_alldiff.proofs.turn.first_over.Given as goal

abbrev pub invariant-loop-interval : goal.invariant-loop-interval
invariant-loop-interval l = l.least ≡ least (filter_map (start_over l.lower l.upper) (take l.interval-index l.intervals))
