-- Each pair adds its product.
use Rattle.std.proofs.Common.{◌≡◌, ◌≤◌, ◌<◌, of_z, to_z, ◌∙◌, subst, arith}
use Rattle.std.proofs.lemmas.Int.{ints}
use mir.Syntax.{w64, w128}
use Rattle.fz_model.specs.declared.model.Basic.TheVariants as basic
use Rattle.std.specs.Prelude.{false}
use Rattle.fz_sat.specs.Satisfies.{valuation}
use Rattle.fz_sat.proofs.Products.{times_same}
use Rattle.fz_sat.proofs.Sums.{sum_all, sum_more}
use Rattle.fz_sat.proofs.linear.sum_of_products.Goals as goal

pub loop-place-preserved : goal.loop-place-preserved
loop-place-preserved c =
    let v = c.value.result in
    let w = c.value-in-loop-place.result in
    let p = c.product.result in
    let read : to_z w128 (of_z w128 p) ≡ p = omega (arith, ints, c.product.ensures.bounded.0, c.product.ensures.bounded.1) in
    let left : to_z w64 (of_z w64 v) ≡ v = omega (arith, ints, c.value.type_inv) in
    let right : to_z w64 (of_z w64 w) ≡ w = omega (arith, ints, c.value-in-loop-place.type_inv) in
    let times = times_same (to_z w128 (of_z w128 p)) (to_z w64 (of_z w64 v)) (to_z w64 (of_z w64 w)) _ _ (read ∙ c.product.ensures.product) (left ∙ c.value.ensures) (right ∙ c.value-in-loop-place.ensures) in
    sum_more c.args.row.now.items.now (valuation c.args.row.now.values.now) c.args.first.now c.args.second.now c.loop-place.place (basic.Bool false) (to_z w128 (of_z w128 p)) c.loop-place.sum c.plus-sum.result
    (subst (λ n. c.loop-place.place < n) c.min-place-end.ensures c.loop-place-test.true) times c.plus-sum.ensures.value c.plus-sum.ensures.reduced c.plus-sum.ensures.near c.loop-place.invariant

pub returns-clause-sum : goal.returns-clause-sum
returns-clause-sum c =
    sum_all c.args.row.now.items.now (valuation c.args.row.now.values.now) c.args.first.now c.args.second.now c.loop-place.place c.loop-place.sum
    (subst (λ n. n ≤ c.loop-place.place) c.min-place-end.ensures c.loop-place-test.false) c.loop-place.invariant
