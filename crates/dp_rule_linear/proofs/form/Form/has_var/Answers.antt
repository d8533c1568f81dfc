-- The variable is found where it stands, and nowhere else.
use Rattle.std.proofs.Common.{arith}
use Rattle.dp_rule_linear.specs.Forms.{scope_of}
use Rattle.dp_rule_linear.proofs.Places.{has_here, has_not_more, has_nowhere}
use Rattle.dp_rule_linear.proofs.SumSteps.{eq_true, eq_false}
use Rattle.dp_rule_linear.proofs.form.Form.has_var.Goals as goal

pub returns-then-eq : goal.returns-then-eq
returns-then-eq c = has_here (scope_of c.args.self.now) c.args.var c.loop-place.place _ c.scope_at.ensures (eq_true _ _ _ c.eq.ensures c.if-eq.true)

pub loop-place-preserved : goal.loop-place-preserved
loop-place-preserved c = has_not_more (scope_of c.args.self.now) c.args.var c.loop-place.place _ c.scope_at.ensures (eq_false _ _ _ c.eq.ensures c.if-eq.false) c.loop-place.invariant

pub returns : goal.returns
returns c = has_nowhere (scope_of c.args.self.now) c.args.var (λ k h. c.loop-place.invariant k (omega arith))
