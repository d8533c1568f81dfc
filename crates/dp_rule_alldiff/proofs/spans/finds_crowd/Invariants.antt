-- The spans that are left decide.
use Rattle.std.proofs.Common.{◌≡◌, drop, ℤ}
use Rattle.std.specs.List.{list_any}
use Rattle.dp_rule_alldiff.specs.Spans.{has_crowd, is_crowded_from}
use Rattle.dp_rule_alldiff.proofs.spans.finds_crowd.Given as goal

abbrev pub invariant-loop-first : goal.invariant-loop-first
invariant-loop-first l = has_crowd l.spans ≡ list_any (λ (s : ℤ × ℤ). is_crowded_from l.spans s.0) (drop l.first-index l.spans)
