use Rattle.std.proofs.Common.{◌≡◌, ◌+◌, ◌*◌, take, arith}
use Rattle.std.proofs.lemmas.Int.Digits.{digits_value_more}
use Rattle.std.specs.Str.Parse.{digits_value}
use Rattle.fz_token.proofs.Digits.{digits_value-take-le}
use Rattle.fz_token.proofs.number.magnitude.Goals as goal
use Rattle.fz_token.proofs.number.magnitude.Goals.{After-digit_value}

-- the value so far, with the next digit
with_digit : (c : After-digit_value) → c.loop-byte.value * c.args.radix + c.digit_value.result ≡ digits_value c.args.radix (take (c.loop-byte.byte-index + 1) c.args.digits.now)
with_digit c = let more = digits_value_more c.args.radix c.args.digits.now c.loop-byte.byte-index c.loop-byte-test.true in cc

pub returns-then-value-gt-LIMIT : goal.returns-then-value-gt-LIMIT
returns-then-value-gt-LIMIT c =
    λ within. omega (arith, with_digit (goal.at.returns-then-value-gt-LIMIT c).After-digit_value, digits_value-take-le c.args.radix c.args.digits.now (c.loop-byte.byte-index + 1) c.requires.0)

pub loop-byte-preserved : goal.loop-byte-preserved
loop-byte-preserved c = (with_digit (goal.at.loop-byte-preserved c).After-digit_value, c.if-value-gt-LIMIT.false)
