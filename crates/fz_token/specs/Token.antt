-- The token at a place.
use Rattle.std.specs.Prelude.{ℕ, ◌||◌, if◌then◌else◌, ◌==◌, List, slice_index, Result, Ok}
use Rattle.std.specs.Char.{is_ascii_digit}
use Rattle.fz_token.specs.Mark.{mark_at}
use Rattle.fz_token.specs.Number.{number_at}
use Rattle.fz_token.specs.Quoted.{quoted_at}
use Rattle.fz_token.specs.Word.{begins_word, word_at}
use Rattle.fz_token.specs.declared.Token.{Token}
use Rattle.fz_token.specs.declared.TokenRefusal.{TokenRefusal}

-- The token that begins at `at`, where these bytes stand. The first byte says of which kind it is.
unfoldable pub token_at : ℕ → List ℕ → Result Token TokenRefusal
token_at at s =
    let b = slice_index s 0 in
    if begins_word b then Ok (word_at at s)
    else (if is_ascii_digit b || (b == 45) then number_at at s
    else (if b == 34 then quoted_at at s
    else mark_at at s))
