-- The sum so far is that of the parts so far, and it has not grown too large.
use Rattle.dp_rule_cumulative.specs.Profiles.{holds_at}
use Rattle.dp_rule_cumulative.proofs.UsageSteps.{IsSumSoFar}
use Rattle.dp_rule_cumulative.proofs.profile.used_at.Given as goal

abbrev pub invariant-loop-part : goal.invariant-loop-part
invariant-loop-part l = IsSumSoFar (λ p. p.usage) (holds_at l.time) l.parts l.part-index l.used
