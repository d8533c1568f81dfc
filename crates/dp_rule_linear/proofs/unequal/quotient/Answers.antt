-- A product has no remainder, and its other factor is the quotient.
use Rattle.std.proofs.Common.{◌≡◌, ◌*ℤ◌, ap, arith, int_div, ◌∙◌}
use mir.Syntax.{w64, w128}
use mir.Val.{of_z, to_z}
use Rattle.std.proofs.lemmas.Int.{ints}
use Rattle.dp_rule_linear.proofs.FactorLaws.{factor_of, no_remainder, quotient_bits, quotient_of, remainder_bits}
use Rattle.dp_rule_linear.proofs.unequal.quotient.Goals as goal
use Rattle.dp_rule_linear.proofs.unequal.quotient.Goals.{then-number-coefficient-ne0-via-then-number-coefficient-ne0, then-number-coefficient-ne0-via-else-number-coefficient-ne0+then-value, then-number-coefficient-ne0-via-else-number-coefficient-ne0+else-value+then-value-gt-LARGEST_VALUE}

pub returns-then-number-coefficient-ne0 : goal.returns-then-number-coefficient-ne0
returns-then-number-coefficient-ne0 c = λ v small e.
    let a = c.args.coefficient in
    let n = c.args.number in
    let ea : to_z w128 (of_z w128 c.from-coefficient.result) ≡ c.args.coefficient = omega (arith, ints, c.from-coefficient.ensures, c.requires.bounded.0, c.requires.bounded.1) in
    let en : to_z w128 (of_z w128 c.args.number) ≡ c.args.number = omega (arith, ints, c.requires.number.0, c.requires.number.1) in
    let q : to_z w128 (of_z w128 (int_div (to_z w128 (of_z w128 c.args.number)) (to_z w128 (of_z w128 c.from-coefficient.result)))) ≡ v =
    quotient_bits a n _ _ ea en c.requires.number ∙ quotient_of a v n c.requires.not_zero e in
    elim c.then-number-coefficient-ne0.branch [
      | then-number-coefficient-ne0-via-then-number-coefficient-ne0 w ↦ w.if-number-coefficient-ne0.true (no_remainder a v n _ _ ea en c.requires.not_zero e)
      | then-number-coefficient-ne0-via-else-number-coefficient-ne0+then-value w ↦ omega (arith, ints, q, small.0, small.1, w.if-value.true)
      | then-number-coefficient-ne0-via-else-number-coefficient-ne0+else-value+then-value-gt-LARGEST_VALUE w ↦ omega (arith, ints, q, small.0, small.1, w.if-value-gt-LARGEST_VALUE.true)
    ]

pub returns : goal.returns
returns c =
    let a = c.args.coefficient in
    let n = c.args.number in
    let ea : to_z w128 (of_z w128 c.from-coefficient.result) ≡ c.args.coefficient = omega (arith, ints, c.from-coefficient.ensures, c.requires.bounded.0, c.requires.bounded.1) in
    let en : to_z w128 (of_z w128 c.args.number) ≡ c.args.number = omega (arith, ints, c.requires.number.0, c.requires.number.1) in
    let q : to_z w128 (of_z w128 (int_div (to_z w128 (of_z w128 c.args.number)) (to_z w128 (of_z w128 c.from-coefficient.result)))) ≡ int_div n a =
    quotient_bits a n _ _ ea en c.requires.number in
    let low = c.if-value.false in
    let high = c.if-value-gt-LARGEST_VALUE.false in
    let same : to_z w64 (of_z w64 (to_z w128 (of_z w128 (int_div (to_z w128 (of_z w128 c.args.number)) (to_z w128 (of_z w128 c.from-coefficient.result)))))) ≡ int_div n a = omega (arith, ints, q, low, high) in (
      (omega (arith, ints, low, high), omega (arith, ints, low, high)),
      ap (λ z. a *ℤ z) same ∙ factor_of a n (remainder_bits a n _ _ ea en c.requires.not_zero c.requires.bounded c.if-number-coefficient-ne0.false),
    )
