-- Strings.
use Rattle.std.specs.Prelude.{ℕ, ◌+◌, Bool, false, not, ◌&&◌, if◌then◌else◌, ◌==◌, List, [], ◌∷◌, drop, Option, Some, None, Result, Ok, Err}
use Rattle.fz_token.specs.declared.Token.{Token}
use Rattle.fz_token.specs.declared.TokenKind.TheVariants.{Quoted}
use Rattle.fz_token.specs.declared.TokenRefusal.{TokenRefusal}
use Rattle.fz_token.specs.declared.TokenRefusal.TheVariants.{OpenString}

-- The place after the closing quote, for bytes that stand at `at`, the first of which a backslash takes or not.
-- There is none where LF or the end comes first. A backslash that is not itself taken takes the byte after it.
abbrev pub closed_len : ℕ → Bool → List ℕ → Option ℕ
closed_len at taken [] = None
closed_len at taken (b ∷ rest) =
    if b == 10 then None
    else (if (b == 34) && not taken then Some (at + 1)
    else closed_len (at + 1) ((b == 92) && not taken) rest)

abbrev pub quoted_token : ℕ → Option ℕ → Result Token TokenRefusal
quoted_token at None = Err (OpenString at)
quoted_token at (Some len) = Ok (record { kind = Quoted; start = at; end = at + 1 + len })

-- the string whose opening quote stands at `at`, where these bytes stand
abbrev pub quoted_at : ℕ → List ℕ → Result Token TokenRefusal
quoted_at at s = quoted_token at (closed_len 0 false (drop 1 s))
