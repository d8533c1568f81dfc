-- The edges of the parts so far.
use Rattle.std.proofs.Common.{◌≡◌, map, take}
use Rattle.dp_rule_cumulative.specs.Profiles.{edges_of}
use Rattle.dp_rule_cumulative.proofs.profile.edges_of.Given as goal

abbrev pub invariant-loop-part : goal.invariant-loop-part
invariant-loop-part l = l.edges.items ≡ map (edges_of l.parts.items) (take l.part-index l.parts.items)
