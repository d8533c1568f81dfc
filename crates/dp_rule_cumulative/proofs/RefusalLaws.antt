-- A refusal is given for a cause.
use Rattle.std.proofs.Common.{◌≡◌, ◌≤◌, arith, length, refl}
use Rattle.dp_base.specs.declared.memory.Memory.{Memory as Wanting}
use Rattle.dp_rule_cumulative.specs.Refusals.{IsProper, IsRefused}
use Rattle.dp_rule_cumulative.specs.Schedules.{Given}
use Rattle.dp_rule_cumulative.specs.declared.refusal.TaskRefusal.{TaskRefusal}
use Rattle.dp_rule_cumulative.specs.declared.refusal.TaskRefusal.TheVariants.{BadLength, TooMany, BadTask, BadCapacity, Memory}

-- what is proper is refused for want of memory alone
pub only_memory : (refusal : TaskRefusal) (g : Given) → IsProper g → IsRefused refusal g → (m : Wanting) × (refusal ≡ Memory m)
only_memory BadLength g proper h = absurd (h proper.even)
only_memory TooMany g proper h = let few : length g.starts ≤ 2000000 = proper.few in absurd (omega (arith, h.1, few))
only_memory (BadTask k) g proper h = absurd (h.2.bad (proper.good k h.2.place))
only_memory BadCapacity g proper h = absurd (h.3 proper.capacity)
only_memory (Memory m) g proper h = (m, refl)
