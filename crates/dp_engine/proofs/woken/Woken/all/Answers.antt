use Rattle.std.proofs.Common.{arith}
use Rattle.dp_engine.proofs.MarkLaws.{marked-all}
use Rattle.dp_engine.proofs.woken.Woken.all.Goals as goal

pub invariant_of-result : goal.invariant_of-result
invariant_of-result c = (
  marked-all c.in_ok-all_true-2.field-0.items c.in_ok-all_true.field-0.items c.args.count c.in_ok-all_true.ensures.count c.in_ok-all_true-2.ensures.count c.in_ok-all_true-2.ensures.all,
  λ k h. absurd (omega arith),
)
