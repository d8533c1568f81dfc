-- Integers and floats.
use Rattle.std.specs.Prelude.{ℕ, ◌+◌, ◌^◌, Bool, true, false, ◌&&◌, ◌||◌, if◌then◌else◌, ◌==◌, nat_lt, List, take, drop, slice_index, ℤ, pos, neg_ℤ, Option, Some, None, Result, Ok, Err}
use Rattle.std.specs.Char.{is_digit}
use Rattle.std.specs.List.{prefix_len}
use Rattle.std.specs.Str.Parse.{digits_value}
use Rattle.fz_token.specs.declared.Token.{Token}
use Rattle.fz_token.specs.declared.TokenKind.TheVariants.{Integer, Float}
use Rattle.fz_token.specs.declared.TokenRefusal.{TokenRefusal}
use Rattle.fz_token.specs.declared.TokenRefusal.TheVariants.{BadByte, Number}

-- the largest magnitude of an integer
abbrev pub limit : ℕ
limit = 10 ^ 18

-- how many digits of this base stand in front
abbrev pub digits_len : ℕ → List ℕ → ℕ
digits_len radix s = prefix_len (λ b. is_digit b radix) s

-- ---- floats

-- the length with these digits at its end, or 0 where there are none
abbrev pub with_digits : ℕ → ℕ → ℕ
with_digits len digits = if digits == 0 then 0 else len + digits

-- a `.` and digits
abbrev pub fraction_len : List ℕ → ℕ
fraction_len s = if slice_index s 0 == 46 then with_digits 1 (digits_len 10 (drop 1 s)) else 0

-- `+` or `-`
abbrev pub sign_len : List ℕ → ℕ
sign_len s = if (slice_index s 0 == 43) || (slice_index s 0 == 45) then 1 else 0

-- an `e` or `E`, perhaps a sign, and digits
abbrev pub exponent_len : List ℕ → ℕ
exponent_len s =
    let sign = sign_len (drop 1 s) in
    if (slice_index s 0 == 101) || (slice_index s 0 == 69) then with_digits (1 + sign) (digits_len 10 (drop sign (drop 1 s))) else 0

-- what makes a float of digits: a fraction, an exponent, or the one and then the other
abbrev pub float_tail_len : List ℕ → ℕ
float_tail_len s = fraction_len s + exponent_len (drop (fraction_len s) s)

-- ---- integers

-- `0x` and `0o` name the base
abbrev pub radix_of : List ℕ → ℕ
radix_of s =
    if (slice_index s 0 == 48) && (slice_index s 1 == 120) then 16
    else (if (slice_index s 0 == 48) && (slice_index s 1 == 111) then 8 else 10)

-- how long the name of the base is
abbrev pub base_len : ℕ → ℕ
base_len radix = if radix == 10 then 0 else 2

abbrev pub signed : Bool → ℕ → ℤ
signed negative n = if negative then neg_ℤ (pos n) else pos n

-- an integer by its sign and the rest: its value, and how long it is without its sign
unfoldable pub integer : Bool → List ℕ → Option (ℤ × ℕ)
integer negative s =
    let radix = radix_of s in
    let base = base_len radix in
    let len = digits_len radix (drop base s) in
    let value = digits_value radix (take len (drop base s)) in
    if (len == 0) || nat_lt limit value then None else Some (signed negative value, base + len)

abbrev pub integer_token : ℕ → ℕ → Option (ℤ × ℕ) → Result Token TokenRefusal
integer_token start at None = Err (Number start)
integer_token start at (Some found) = Ok (record { kind = Integer found.0; start = start; end = at + found.1 })

-- the number that begins at `start` and whose digits begin at `at`, where these bytes stand
abbrev pub unsigned_at : Bool → ℕ → ℕ → List ℕ → Result Token TokenRefusal
unsigned_at negative start at s =
    let whole = digits_len 10 s in
    let tail = float_tail_len (drop whole s) in
    if whole == 0 then Err (BadByte start)
    else (if nat_lt 0 tail then Ok (record { kind = Float; start = start; end = at + whole + tail })
    else integer_token start at (integer negative s))

-- the longest number that begins at `at`, where these bytes stand
unfoldable pub number_at : ℕ → List ℕ → Result Token TokenRefusal
number_at at s = if slice_index s 0 == 45 then unsigned_at true at (at + 1) (drop 1 s) else unsigned_at false at at s
