-- The first term that gives a bound gives the bound.
use Rattle.std.proofs.Common.{◌≡◌, ◌+◌, FitsSigned, ℤ, ap, arith, drop, rules, subst, sym, ◌∙◌}
use mir.Syntax.{w64, w128}
use mir.Val.{of_z, to_z}
use Rattle.std.proofs.lemmas.Int.{ints, to_z-of_z}
use Rattle.dp_domain.specs.States.{values}
use Rattle.dp_domain.specs.Supports.{bound_by}
use Rattle.dp_rule_linear.specs.Bounds.{first_bound, fitting}
use Rattle.dp_rule_linear.proofs.BoundSteps.{bound_found, bound_more}
use Rattle.dp_rule_linear.proofs.SumSteps.{covered_at}
use Rattle.dp_rule_linear.proofs.bounds.first_bound.Goals as goal

pub term_bound-bound-requires-clause-covered : goal.term_bound-bound-requires-clause-covered
term_bound-bound-requires-clause-covered c =
    covered_at _ c.args.terms.now c.loop-coefficient.coefficient-index c.loop-coefficient-item.result c.requires.covered c.loop-coefficient-test.true c.loop-coefficient-item.is

pub returns-then-is_some : goal.returns-then-is_some
returns-then-is_some c =
    let t = c.loop-coefficient-item.result in
    let fits : FitsSigned w64 c.loop-coefficient-item.result.0 = search rules in
    let same : to_z w128 (of_z w128 c.args.slack) ≡ c.args.slack = omega (arith, ints, c.requires.bounded.0, c.requires.bounded.1) in
    let so_far = subst (λ (z : ℤ). first_bound z c.args.state.now (drop c.loop-coefficient.coefficient-index c.args.terms.now) ≡ first_bound z c.args.state.now c.args.terms.now) same c.loop-coefficient.invariant in
    bound_found c.args.slack c.args.state.now c.args.terms.now c.loop-coefficient.coefficient-index t c.term_bound-bound.result so_far c.loop-coefficient-test.true c.loop-coefficient-item.is
    (c.term_bound-bound.ensures
    ∙ ap (λ z. bound_by (values c.args.state.now t.1) (fitting z c.args.state.now (to_z w64 (of_z w64 c.loop-coefficient-item.result.0), t.1)) t.1) same
    ∙ ap (λ a. bound_by (values c.args.state.now t.1) (fitting c.args.slack c.args.state.now (a, t.1)) t.1) (to_z-of_z w64 c.loop-coefficient-item.result.0 fits))
    (sym c.is_some.ensures ∙ c.if-is_some.true)

pub loop-coefficient-preserved : goal.loop-coefficient-preserved
loop-coefficient-preserved c =
    let t = c.loop-coefficient-item.result in
    let fits : FitsSigned w64 c.loop-coefficient-item.result.0 = search rules in
    let same : to_z w128 (of_z w128 c.args.slack) ≡ c.args.slack = omega (arith, ints, c.requires.bounded.0, c.requires.bounded.1) in
    let so_far = subst (λ (z : ℤ). first_bound z c.args.state.now (drop c.loop-coefficient.coefficient-index c.args.terms.now) ≡ first_bound z c.args.state.now c.args.terms.now) same c.loop-coefficient.invariant in
    subst (λ (z : ℤ). first_bound z c.args.state.now (drop (c.loop-coefficient.coefficient-index + 1) c.args.terms.now) ≡ first_bound z c.args.state.now c.args.terms.now) (sym same)
    (bound_more c.args.slack c.args.state.now c.args.terms.now c.loop-coefficient.coefficient-index t c.term_bound-bound.result so_far c.loop-coefficient-test.true c.loop-coefficient-item.is
    (c.term_bound-bound.ensures
    ∙ ap (λ z. bound_by (values c.args.state.now t.1) (fitting z c.args.state.now (to_z w64 (of_z w64 c.loop-coefficient-item.result.0), t.1)) t.1) same
    ∙ ap (λ a. bound_by (values c.args.state.now t.1) (fitting c.args.slack c.args.state.now (a, t.1)) t.1) (to_z-of_z w64 c.loop-coefficient-item.result.0 fits))
    (sym c.is_some.ensures ∙ c.if-is_some.false))
