-- Sorted by the last numbers, the spans are in order.
use Rattle.std.proofs.Common.{ℤ, rules}
use Rattle.std.proofs.lemmas.List.Sorted.{answers_always}
use Rattle.dp_rule_alldiff.proofs.SpanSteps.{sorted_in_order}
use Rattle.dp_rule_alldiff.proofs.spans.in_order.Goals as goal

pub returns-clause-order : goal.returns-clause-order
returns-clause-order c = sorted_in_order c.sort_unstable_by_key.new.self.items (c.sort_unstable_by_key.ensures.sorted (λ (s : ℤ × ℤ). s.1) (answers_always _ _ _ (λ f a r g h. search rules)))
