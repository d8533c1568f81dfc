use Rattle.std.proofs.Common.{◌∙◌, sym}
use Rattle.dp_domain.proofs.TurnSteps.{given_found, given_more}
use Rattle.dp_domain.proofs.turn.given.Goals as goal

pub returns-then-is_some : goal.returns-then-is_some
returns-then-is_some g c = given_found (g.R.Test.face c.args.rule.now) c.args.state.now (g.R.Test.face c.args.rule.now).scope c.loop-place.place _ _ c.loop-place.invariant.left c.scope_at.ensures c.in_ok-atom.ensures.given (sym c.is_some.ensures ∙ c.if-is_some.true)

pub loop-place-preserved : goal.loop-place-preserved
loop-place-preserved g c = record {
  left = given_more (g.R.Test.face c.args.rule.now) c.args.state.now (g.R.Test.face c.args.rule.now).scope c.loop-place.place _ _ c.loop-place.invariant.left c.scope_at.ensures c.in_ok-atom.ensures.given (sym c.is_some.ensures ∙ c.if-is_some.false);
  same = c.in_ok-atom.ensures.same;
}
