use Rattle.std.proofs.Common.{◌≡◌, ◌+◌, ◌*◌, take, arith}
use Rattle.std.proofs.lemmas.Int.Digits.{digits_value_more}
use Rattle.std.proofs.lemmas.Str.Parse.{digits_value-take-le}
use Rattle.std.specs.Str.Parse.{digits_value}
use Rattle.dp_lines.proofs.figures.magnitude.Goals as goal
use Rattle.dp_lines.proofs.figures.magnitude.Goals.{After-digit_value}

-- the value so far, with the next digit
with_digit : (c : After-digit_value) → c.loop-byte.value * 10 + c.digit_value.result ≡ digits_value 10 (take (c.loop-byte.byte-index + 1) c.args.digits.now)
with_digit c = let more = digits_value_more 10 c.args.digits.now c.loop-byte.byte-index c.loop-byte-test.true in cc

pub returns-then-value-gt-LARGEST : goal.returns-then-value-gt-LARGEST
returns-then-value-gt-LARGEST c =
    λ within. omega (arith, with_digit (goal.at.returns-then-value-gt-LARGEST c).After-digit_value, digits_value-take-le 10 c.args.digits.now (c.loop-byte.byte-index + 1) (omega arith))

pub loop-byte-preserved : goal.loop-byte-preserved
loop-byte-preserved c = (with_digit (goal.at.loop-byte-preserved c).After-digit_value, c.if-value-gt-LARGEST.false)
