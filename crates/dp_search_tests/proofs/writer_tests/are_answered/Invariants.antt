use Rattle.std.proofs.Common.{◌≤◌, drop}
use Rattle.dp_base.specs.Lists.{Each}
use Rattle.dp_search_tests.proofs.writer_tests.are_answered.Given as goal

abbrev pub invariant-loop-hint : goal.invariant-loop-hint
invariant-loop-hint l = Each (λ h. (1 ≤ h) × (h ≤ l.count)) (drop l.hint-index l.hints) → Each (λ h. (1 ≤ h) × (h ≤ l.count)) l.hints
