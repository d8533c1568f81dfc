use Rattle.std.proofs.Common.{◌∙◌, sym, arith, subst}
use Rattle.dp_domain.specs.Sets.{IsDomain}
use Rattle.dp_domain.specs.Turns.{HoldsHoles}
use Rattle.dp_domain.proofs.TurnSteps.{passed, hole_found, hole_none}
use Rattle.dp_domain.proofs.turn.new_hole.Goals as goal

pub returns-then-takes-clause-hole : goal.returns-then-takes-clause-hole
returns-then-takes-clause-hole g c =
    hole_found (g.R.Test.face c.args.rule.now) c.args.state.now c.args.var c.loop-place.place c.as_slice-values.result.now _ _
    (subst (HoldsHoles (g.R.Test.face c.args.rule.now) c.args.state.now c.args.var) (sym (c.as_slice-values.ensures.value ∙ c.in_ok-numbers.ensures.values)) c.in_ok-candidates.ensures)
    (subst IsDomain (sym c.as_slice-values.ensures.value) c.in_ok-numbers.ensures.domain) (omega arith) c.small-atom.ensures (passed c.as_slice-values.result.now c.loop-place.place (subst IsDomain (sym c.as_slice-values.ensures.value) c.in_ok-numbers.ensures.domain) (omega arith))
    c.loop-place.invariant.none (sym c.in_ok-takes.ensures.takes ∙ c.if-takes.true)

pub returns-clause-hole : goal.returns-clause-hole
returns-clause-hole g c =
    hole_none (g.R.Test.face c.args.rule.now) c.args.state.now c.args.var c.as_slice-values.result.now
    (subst (HoldsHoles (g.R.Test.face c.args.rule.now) c.args.state.now c.args.var) (sym (c.as_slice-values.ensures.value ∙ c.in_ok-numbers.ensures.values)) c.in_ok-candidates.ensures) (λ k h. c.loop-place.invariant.none k (omega arith))
