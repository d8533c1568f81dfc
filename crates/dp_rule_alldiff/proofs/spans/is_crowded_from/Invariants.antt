-- What is left of the pass decides, and no more are counted than were seen.
use Rattle.std.proofs.Common.{◌≡◌, ◌≤◌, drop}
use Rattle.dp_rule_alldiff.proofs.CrowdSteps.{overfills}
use Rattle.dp_rule_alldiff.proofs.spans.is_crowded_from.Given as goal

abbrev pub invariant-loop-span : goal.invariant-loop-span
invariant-loop-span l = (overfills l.first 0 l.spans ≡ overfills l.first l.count (drop l.span-index l.spans)) × (l.count ≤ l.span-index)
