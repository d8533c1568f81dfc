-- What was negated so far, with what is left, is the whole.
use Rattle.std.proofs.Common.{◌≡◌, ◌++◌, map, drop, neg_ℤ}
use Rattle.dp_lower.proofs.sum.negated.Given as goal

abbrev pub invariant-loop-coefficient : goal.invariant-loop-coefficient
invariant-loop-coefficient l =
    l.negated.items ++ map (λ t. (neg_ℤ t.0, t.1)) (drop l.coefficient-index l.terms.items) ≡ map (λ t. (neg_ℤ t.0, t.1)) l.terms.items
