-- The forms of tokens, a definition for each row of the table of forms, and which of them stands at a place.
use Rattle.std.specs.Prelude.{◌≡◌, ◌≢◌, ℕ, ◌+◌, ◌<◌, ◌≤◌, Bool, true, false, not, ◌&&◌, ◌⊎◌, if◌then◌else◌, ◌==◌, List, [], ◌∷◌, ◌++◌, length, take, drop, slice_index, codes, ℤ, nat_abs, Result, Ok, Err}
use Rattle.std.specs.Char.{is_digit}
use Rattle.std.specs.List.{AllPass}
use Rattle.std.specs.Str.Parse.{digits_value}
use Rattle.fz_token.specs.Number.{limit, signed}
use Rattle.fz_token.specs.Word.{begins_word, is_word_byte, spelling}
use Rattle.fz_token.specs.declared.Keyword.{Keyword}
use Rattle.fz_token.specs.declared.Mark.{Mark}
use Rattle.fz_token.specs.declared.Mark.TheVariants.{OpenRound, CloseRound, OpenSquare, CloseSquare, OpenCurly, CloseCurly, Comma, Semicolon, Colon, DoubleColon, Equals, DoubleDot}
use Rattle.fz_token.specs.declared.Token.{Token}
use Rattle.fz_token.specs.declared.TokenKind.{TokenKind}
use Rattle.fz_token.specs.declared.TokenKind.TheVariants as kind
use Rattle.fz_token.specs.declared.TokenRefusal.{TokenRefusal}
use Rattle.fz_token.specs.declared.TokenRefusal.TheVariants.{BadByte, Number, OpenString}

-- a letter or `_`, then letters, digits and `_`
pub record IsWord (w : List ℕ) : Type 0 where
  pub begins : begins_word (slice_index w 0) ≡ true
  pub goes_on : AllPass is_word_byte w

-- ---- numbers

-- digits of this base, at least one
pub record IsDigits (radix : ℕ) (w : List ℕ) : Type 0 where
  pub some : 0 < length w
  pub each : AllPass (λ b. is_digit b radix) w

abbrev pub is_negative : List ℕ → Bool
is_negative w = slice_index w 0 == 45

-- without a `-` in front
abbrev pub unsigned : List ℕ → List ℕ
unsigned w = if is_negative w then drop 1 w else w

-- the name of a base, and digits that spell n in it
pub record IsBased (name : List ℕ) (radix : ℕ) (w : List ℕ) (n : ℕ) : Type 0 where
  pub digits : List ℕ
  pub spelled : w ≡ name ++ digits
  pub are_digits : IsDigits radix digits
  pub value : n ≡ digits_value radix digits

-- decimal digits, or `0x` and hexadecimal digits, or `0o` and octal digits
abbrev pub IsNatural : List ℕ → ℕ → Type 0
IsNatural w n = IsBased [] 10 w n ⊎ (IsBased (codes "0x") 16 w n ⊎ IsBased (codes "0o") 8 w n)

-- an optional `-`, and such a number
pub record IsInteger (w : List ℕ) (value : ℤ) : Type 0 where
  pub magnitude : ℕ
  pub is_natural : IsNatural (unsigned w) magnitude
  pub is_signed : value ≡ signed (is_negative w) magnitude

-- `.` and digits
pub record IsFraction (w : List ℕ) : Type 0 where
  pub digits : List ℕ
  pub spelled : w ≡ 46 ∷ digits
  pub are_digits : IsDigits 10 digits

-- `e` or `E`, then an optional `+` or `-`, then digits
pub record IsExponent (w : List ℕ) : Type 0 where
  pub letter : ℕ
  pub sign : List ℕ
  pub digits : List ℕ
  pub spelled : w ≡ letter ∷ (sign ++ digits)
  pub is_letter : (letter ≡ 101) ⊎ (letter ≡ 69)
  pub is_sign : (sign ≡ []) ⊎ ((sign ≡ 43 ∷ []) ⊎ (sign ≡ 45 ∷ []))
  pub are_digits : IsDigits 10 digits

-- an optional `-`, digits, and a fraction with or without an exponent, or an exponent
pub record IsFloat (w : List ℕ) : Type 0 where
  pub whole : List ℕ
  pub fraction : List ℕ
  pub exponent : List ℕ
  pub spelled : unsigned w ≡ whole ++ (fraction ++ exponent)
  pub are_digits : IsDigits 10 whole
  pub is_tail : (IsFraction fraction × ((exponent ≡ []) ⊎ IsExponent exponent)) ⊎ ((fraction ≡ []) × IsExponent exponent)

-- ---- strings

-- Bytes between quotes, the first of which a backslash takes or not: none is LF, a quote is taken, and so is a byte after
-- each backslash that is not itself taken.
abbrev pub IsBody : Bool → List ℕ → Type 0
IsBody taken [] = taken ≡ false
IsBody taken (b ∷ rest) = (b ≢ 10) × (taken ≡ false → b ≢ 34) × IsBody ((b == 92) && not taken) rest

pub record IsString (w : List ℕ) : Type 0 where
  pub body : List ℕ
  pub spelled : w ≡ 34 ∷ (body ++ 34 ∷ [])
  pub is_body : IsBody false body

-- ---- marks

abbrev pub mark_spelling : Mark → List ℕ
mark_spelling OpenRound = codes "("
mark_spelling CloseRound = codes ")"
mark_spelling OpenSquare = codes "["
mark_spelling CloseSquare = codes "]"
mark_spelling OpenCurly = codes "{"
mark_spelling CloseCurly = codes "}"
mark_spelling Comma = codes ","
mark_spelling Semicolon = codes ";"
mark_spelling Colon = codes ":"
mark_spelling DoubleColon = codes "::"
mark_spelling Equals = codes "="
mark_spelling DoubleDot = codes ".."

-- ---- the table

-- these bytes have the form of this kind of token, an integer of any size
abbrev pub Spells : TokenKind → List ℕ → Type 0
Spells kind.Name w = IsWord w × ((keyword : Keyword) → w ≢ spelling keyword)
Spells (kind.Keyword keyword) w = w ≡ spelling keyword
Spells (kind.Integer value) w = IsInteger w value
Spells kind.Float w = IsFloat w
Spells kind.Quoted w = IsString w
Spells (kind.Mark mark) w = w ≡ mark_spelling mark

-- the longest front that has a form has this one
pub record Stands (s : List ℕ) (kind : TokenKind) (len : ℕ) : Type 0 where
  pub within : len ≤ length s
  pub spelled : Spells kind (take len s)
  pub longest : (n : ℕ) (other : TokenKind) → n ≤ length s → Spells other (take n s) → n ≤ len

-- no front has a form
abbrev pub NothingStands : List ℕ → Type 0
NothingStands s = (n : ℕ) (kind : TokenKind) → n ≤ length s → Spells kind (take n s) → ⊥

-- the name of a base, and no digit of it
pub record LacksBase (name : List ℕ) (radix : ℕ) (w : List ℕ) : Type 0 where
  pub rest : List ℕ
  pub spelled : w ≡ name ++ rest
  pub no_digit : is_digit (slice_index rest 0) radix ≡ false

-- `0x` or `0o`, after a `-` or not, without a digit
abbrev pub LacksDigits : List ℕ → Type 0
LacksDigits s = LacksBase (codes "0x") 16 (unsigned s) ⊎ LacksBase (codes "0o") 8 (unsigned s)

abbrev pub KeepsLimit : TokenKind → Type 0
KeepsLimit (kind.Integer value) = nat_abs value ≤ limit
KeepsLimit _ = Unit {0}

-- this token stands in front of the bytes that begin at `at`
pub record IsToken (at : ℕ) (s : List ℕ) (token : Token) : Type 0 where
  pub len : ℕ
  pub starts : token.start ≡ at
  pub ends : token.end ≡ at + len
  pub stands : Stands s token.kind len
  pub keeps_limit : KeepsLimit token.kind
  pub has_digits : LacksDigits s → ⊥

-- an integer beyond the limit stands in front
pub record IsTooLarge (s : List ℕ) : Type 0 where
  pub value : ℤ
  pub len : ℕ
  pub stands : Stands s (kind.Integer value) len
  pub beyond : limit < nat_abs value

-- what is to be answered of the bytes that begin at `at`
abbrev pub Says : ℕ → List ℕ → Result Token TokenRefusal → Type 0
Says at s (Ok token) = IsToken at s token
Says at s (Err (BadByte place)) = (place ≡ at) × (slice_index s 0 ≢ 34) × NothingStands s
Says at s (Err (Number place)) = (place ≡ at) × (LacksDigits s ⊎ IsTooLarge s)
Says at s (Err (OpenString place)) = (place ≡ at) × (slice_index s 0 ≡ 34) × NothingStands s
