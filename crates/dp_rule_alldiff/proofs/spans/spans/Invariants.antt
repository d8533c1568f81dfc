-- The spans of the positions so far.
use Rattle.std.proofs.Common.{◌≡◌, take}
use Rattle.dp_rule_alldiff.specs.Spans.{spans_of}
use Rattle.dp_rule_alldiff.proofs.spans.spans.Given as goal

abbrev pub invariant-loop-term : goal.invariant-loop-term
invariant-loop-term l = l.spans.items ≡ spans_of l.state (take l.term-index l.terms)
