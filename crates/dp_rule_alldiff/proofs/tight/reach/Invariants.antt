-- What is left of the pass decides, else what it found so far; no more are counted than were seen.
use Rattle.std.proofs.Common.{◌≡◌, ◌≤◌, drop}
use Rattle.dp_domain.specs.Turns.{or_else}
use Rattle.dp_rule_alldiff.proofs.TightLaws.{reaches}
use Rattle.dp_rule_alldiff.proofs.tight.reach.Given as goal

abbrev pub invariant-loop-span : goal.invariant-loop-span
invariant-loop-span l = (or_else (reaches l.first l.count (drop l.span-index l.spans)) l.last ≡ reaches l.first 0 l.spans) × (l.count ≤ l.span-index)
