-- The variable stands at the place where it is found, and nowhere where nothing is left.
use Rattle.std.proofs.Common.{refl, subst}
use Rattle.std.proofs.lemmas.Bool.{false≢true}
use Rattle.std.proofs.lemmas.List.{drop_all}
use Rattle.dp_base.specs.Lists.{Among}
use Rattle.dp_rule_linear.specs.Forms.{variables}
use Rattle.dp_rule_linear.proofs.SumSteps.{among_here, among_more, eq_true, eq_false}
use Rattle.dp_rule_linear.proofs.sums.has_variable.Goals as goal

pub loop-other-init : goal.loop-other-init
loop-other-init c = λ here. here

pub returns-then-eq : goal.returns-then-eq
returns-then-eq c =
    (λ _. among_here c.args.var c.args.terms.now c.loop-other.other-index c.loop-other-item.result c.loop-other-test.true c.loop-other-item.is (eq_true _ _ _ c.eq.ensures c.if-eq.true), λ _. refl)

pub loop-other-preserved : goal.loop-other-preserved
loop-other-preserved c = λ here.
    among_more c.args.var c.args.terms.now c.loop-other.other-index c.loop-other-item.result c.loop-other-test.true c.loop-other-item.is (eq_false _ _ _ c.eq.ensures c.if-eq.false) (c.loop-other.invariant here)

pub returns : goal.returns
returns c =
    (λ t. absurd (false≢true t), λ here. absurd (subst (λ us. Among c.args.var (variables us)) (drop_all c.loop-other.other-index c.args.terms.now c.loop-other-test.false) (c.loop-other.invariant here)))
