-- All differ where those that are left do.
use Rattle.std.proofs.Common.{◌≡◌, ◌+◌, ◌-◌, not, ◌&&◌, length, drop, of_z, to_z, map, refl, sym, ◌∙◌, ap, arith}
use Rattle.std.proofs.lemmas.Int.{ints}
use mir.Syntax.{w64}
use Rattle.std.specs.Prelude.{false}
use Rattle.fz_model.specs.declared.model.Basic.TheVariants as basic
use Rattle.fz_sat.specs.Globals.{are_distinct}
use Rattle.fz_sat.specs.Satisfies.{valuation, value_of}
use Rattle.fz_sat.proofs.Distinct.{distinct_none, distinct_step}
use Rattle.fz_sat.proofs.global.values_differ.Goals as goal

pub returns-then-has_value : goal.returns-then-has_value
returns-then-has_value c =
    let xs = c.args.elements.now in
    let f = value_of c.args.items.now (valuation c.args.values.now) in
    let i = c.loop-place.place in
    let v = to_z w64 (of_z w64 c.value_of.result) in
    let read : v ≡ c.value_of.result = omega (arith, ints, c.value_of.type_inv) in
    let step = distinct_step f xs i (length xs - (i + 1)) (basic.Bool false) v c.has_value.result c.loop-place-test.true refl (read ∙ c.value_of.ensures) c.has_value.ensures in
    sym (sym c.loop-place.invariant ∙ step ∙ ap (λ b. not b && are_distinct (map f (drop (i + 1) xs))) c.if-has_value.true)

pub loop-place-preserved : goal.loop-place-preserved
loop-place-preserved c =
    let xs = c.args.elements.now in
    let f = value_of c.args.items.now (valuation c.args.values.now) in
    let i = c.loop-place.place in
    let v = to_z w64 (of_z w64 c.value_of.result) in
    let read : v ≡ c.value_of.result = omega (arith, ints, c.value_of.type_inv) in
    let step = distinct_step f xs i (length xs - (i + 1)) (basic.Bool false) v c.has_value.result c.loop-place-test.true refl (read ∙ c.value_of.ensures) c.has_value.ensures in
    sym (sym c.loop-place.invariant ∙ step ∙ ap (λ b. not b && are_distinct (map f (drop (i + 1) xs))) c.if-has_value.false)

pub returns : goal.returns
returns c =
    let xs = c.args.elements.now in
    let f = value_of c.args.items.now (valuation c.args.values.now) in
    sym (sym c.loop-place.invariant ∙ distinct_none f xs c.loop-place.place c.loop-place-test.false)
