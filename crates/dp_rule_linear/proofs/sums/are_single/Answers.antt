-- The test of all is the test of what is left.
use Rattle.std.proofs.Common.{◌&&◌, ◌+◌, drop, sym, ◌∙◌, ap}
use Rattle.std.specs.List.{list_all}
use Rattle.std.proofs.lemmas.List.{drop_all}
use Rattle.dp_domain.specs.States.{values}
use Rattle.dp_rule_linear.specs.Differs.{are_single, is_single}
use Rattle.dp_rule_linear.proofs.SumSteps.{all_more, covered_at}
use Rattle.dp_rule_linear.proofs.sums.are_single.Goals as goal

pub is_single-requires : goal.is_single-requires
is_single-requires c = covered_at _ c.args.terms.now c.loop-var.var-index c.loop-var-item.result c.requires c.loop-var-test.true c.loop-var-item.is

pub returns-then-not-is_single : goal.returns-then-not-is_single
returns-then-not-is_single c =
    let e = all_more (λ t. is_single (values c.args.state.now t.1)) c.args.terms.now c.loop-var.var-index c.loop-var-item.result c.loop-var-test.true c.loop-var-item.is in
    sym (c.loop-var.invariant ∙ e ∙ ap (λ b. b && list_all (λ t. is_single (values c.args.state.now t.1)) (drop (c.loop-var.var-index + 1) c.args.terms.now)) (sym c.is_single.ensures.single ∙ c.if-not-is_single.true))

pub loop-var-preserved : goal.loop-var-preserved
loop-var-preserved c =
    let e = all_more (λ t. is_single (values c.args.state.now t.1)) c.args.terms.now c.loop-var.var-index c.loop-var-item.result c.loop-var-test.true c.loop-var-item.is in
    c.loop-var.invariant ∙ e ∙ ap (λ b. b && list_all (λ t. is_single (values c.args.state.now t.1)) (drop (c.loop-var.var-index + 1) c.args.terms.now)) (sym c.is_single.ensures.single ∙ c.if-not-is_single.false)

pub returns : goal.returns
returns c = sym (c.loop-var.invariant ∙ ap (are_single c.args.state.now) (drop_all c.loop-var.var-index c.args.terms.now c.loop-var-test.false))
