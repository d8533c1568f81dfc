use Rattle.dp_domain.proofs.ExplanationSteps.{scope_more}
use Rattle.dp_domain.proofs.explanation.scope_of.Goals as goal

pub loop-place-preserved : goal.loop-place-preserved
loop-place-preserved g c = scope_more (g.R.Test.face c.args.rule.now).scope c.loop-place.place _ _ _ c.scope_at.ensures c.loop-place.invariant c.in_ok-push.ensures.items
