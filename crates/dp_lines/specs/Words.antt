-- The words of a line: its fields, and within square brackets shorter tokens.
use Rattle.std.specs.Prelude.{ℕ, zero, suc, ◌+◌, ◌-◌, Bool, false, not, ◌&&◌, ◌||◌, ◌==◌, if◌then◌else◌, List, [], ◌∷◌, take, drop, length, slice_index}
use Rattle.std.specs.Char.{is_digit}
use Rattle.std.specs.List.{prefix_len}
use Rattle.dp_base.specs.Names.{is_first, is_later}

-- the bytes of a word, and its place in the line from 1
pub record Word : Type 0 where
  pub at : ℕ
  pub text : List ℕ

-- space and tab
abbrev pub is_blank : ℕ → Bool
is_blank b = (b == 32) || (b == 9)

abbrev pub is_decimal : ℕ → Bool
is_decimal b = is_digit b 10

-- `[` and `]`
abbrev pub opens : ℕ → Bool
opens b = b == 91

abbrev pub closes : ℕ → Bool
closes b = b == 93

-- whether the bytes begin with `>=`, `<=`, `==` or `!=`
abbrev pub begins_comparison : List ℕ → Bool
begins_comparison s =
    (slice_index s 1 == 61) && ((slice_index s 0 == 62) || ((slice_index s 0 == 60) || ((slice_index s 0 == 61) || (slice_index s 0 == 33))))

-- whether they begin with `-` and a digit
abbrev pub begins_negative : List ℕ → Bool
begins_negative s = (slice_index s 0 == 45) && is_decimal (slice_index s 1)

-- how long the token is at the front within brackets: a word, digits with or without `-`, a comparison, or one byte
abbrev pub token_len : List ℕ → ℕ
token_len s =
    if is_first (slice_index s 0) then prefix_len is_later s
    else (if is_decimal (slice_index s 0) then prefix_len is_decimal s
    else (if begins_negative s then 1 + prefix_len is_decimal (drop 1 s)
    else (if begins_comparison s then 2 else 1)))

-- how long the word is at the front outside brackets: `[`, or all up to a blank
abbrev pub field_len : List ℕ → ℕ
field_len s = if opens (slice_index s 0) then 1 else prefix_len (λ b. not (is_blank b)) s

abbrev pub word_len : Bool → List ℕ → ℕ
word_len inside s = if inside then token_len s else field_len s

-- whether the place behind a word that begins with this byte is within brackets
abbrev pub is_inside_behind : Bool → ℕ → Bool
is_inside_behind inside b = if inside then not (closes b) else opens b

-- The words of bytes that stand at `at`, within brackets or not. The first `taken` of the bytes belong to the word before.
unfoldable pub words_from : Bool → ℕ → ℕ → List ℕ → List Word
words_from inside at taken [] = []
words_from inside at (suc taken) (b ∷ rest) = words_from inside (at + 1) taken rest
words_from inside at zero (b ∷ rest) =
    if is_blank b then words_from inside (at + 1) 0 rest
    else record { at = at; text = take (word_len inside (b ∷ rest)) (b ∷ rest) }
    ∷ words_from (is_inside_behind inside b) (at + 1) (word_len inside (b ∷ rest) - 1) rest

-- the words of a line without its end
abbrev pub words : List ℕ → List Word
words line = words_from false 1 0 line

-- the place behind the line's last byte
abbrev pub end_of : List ℕ → ℕ
end_of line = length line + 1

-- the first word; where none is left, no bytes at the line's end
abbrev pub front_word : ℕ → List Word → Word
front_word end [] = record { at = end; text = [] }
front_word end (word ∷ words) = word

-- the words from a span on: its own, which is none at the line's end, and those behind it
abbrev pub words_at : ℕ → ℕ → Bool → List ℕ → List Word
words_at start end inside line =
    if start == length line then []
    else record { at = start + 1; text = take (end - start) (drop start line) } ∷ words_from inside (end + 1) 0 (drop end line)
