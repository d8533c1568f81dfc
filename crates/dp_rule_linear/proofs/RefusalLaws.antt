-- A refusal is given for a cause.
use Rattle.std.proofs.Common.{◌≤◌, length, arith}
use Rattle.dp_rule_linear.specs.Forms.{Linear, IsProper}
use Rattle.dp_rule_linear.specs.Refusals.{IsRefused}
use Rattle.dp_rule_linear.specs.declared.refusal.LinRefusal.{LinRefusal}
use Rattle.dp_rule_linear.specs.declared.refusal.LinRefusal.TheVariants.{TooMany, BadTerm, BadRhs, BadCondition}

-- what is proper is not refused
pub never_refused : (refusal : LinRefusal) (q : Linear) → IsProper q → IsRefused refusal q → ⊥
never_refused TooMany q proper h = let few : length q.terms ≤ 2000000 = proper.few in omega arith
never_refused (BadTerm k) q proper h = h.1.bad (proper.good k h.1.place)
never_refused BadRhs q proper h = h.2 proper.bounded
never_refused BadCondition q proper h = h.3 proper.apart
