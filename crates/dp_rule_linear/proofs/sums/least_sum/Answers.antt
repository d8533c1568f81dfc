-- Each term adds its least value, and 2,000,000 of them fit.
use Rattle.std.proofs.Common.{◌+◌, ◌∙◌, ap, arith, rules, subst, sym}
use Rattle.std.proofs.lemmas.Int.{ints, to_z-of_z}
use Rattle.std.specs.Prelude.{FitsSigned}
use mir.Syntax.{w64}
use Rattle.dp_rule_linear.specs.Forms.{least_product}
use Rattle.dp_rule_linear.proofs.SumSteps.{IsSumSoFar, covered_at, have_domains, sum_all, sum_more, sum_none, sum_read}
use Rattle.dp_rule_linear.proofs.sums.least_sum.Goals as goal

pub loop-coefficient-init : goal.loop-coefficient-init
loop-coefficient-init c = sum_none c.args.state.now c.args.terms.now

pub least_product-sum-requires-clause-covered : goal.least_product-sum-requires-clause-covered
least_product-sum-requires-clause-covered c =
    covered_at _ c.args.terms.now c.loop-coefficient.coefficient-index c.loop-coefficient-item.result c.requires.covered c.loop-coefficient-test.true c.loop-coefficient-item.is

pub overflow_add-sum : goal.overflow_add-sum
overflow_add-sum c =
    let s = c.loop-coefficient.invariant.bounded in
    let p = c.least_product-sum.ensures.bounded in
    omega (arith, ints, s.0, s.1, p.0, p.1)

pub loop-coefficient-preserved : goal.loop-coefficient-preserved
loop-coefficient-preserved c =
    let i = c.loop-coefficient.coefficient-index in
    let t = c.loop-coefficient-item.result in
    let p = c.least_product-sum.result in
    let fits : FitsSigned w64 c.loop-coefficient-item.result.0 = search rules in
    subst (IsSumSoFar c.args.state.now c.args.terms.now (c.loop-coefficient.coefficient-index + 1))
    (sym (sum_read i _ p (omega arith) c.loop-coefficient.invariant.bounded c.least_product-sum.ensures.bounded))
    (sum_more c.args.state.now c.args.terms.now i t _ p c.loop-coefficient-test.true c.loop-coefficient-item.is
    (c.least_product-sum.ensures.least ∙ ap (λ a. least_product c.args.state.now (a, c.loop-coefficient-item.result.1)) (to_z-of_z w64 c.loop-coefficient-item.result.0 fits))
    c.least_product-sum.ensures.bounded c.least_product-sum.ensures.domain c.loop-coefficient.invariant)

pub returns-clause-sum : goal.returns-clause-sum
returns-clause-sum c = sum_all c.args.state.now c.args.terms.now c.loop-coefficient.coefficient-index _ c.loop-coefficient-test.false c.loop-coefficient.invariant

pub returns-clause-bounded : goal.returns-clause-bounded
returns-clause-bounded c =
    let b = c.loop-coefficient.invariant.bounded in
    (omega (arith, ints, b.0, b.1, c.requires.few), omega (arith, ints, b.0, b.1, c.requires.few))

pub returns-clause-domains : goal.returns-clause-domains
returns-clause-domains c = have_domains c.args.state.now c.args.terms.now (λ k h. c.loop-coefficient.invariant.domains k (omega arith))
