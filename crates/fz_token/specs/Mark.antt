-- Marks.
use Rattle.std.specs.Prelude.{ℕ, ◌+◌, ◌&&◌, if◌then◌else◌, ◌==◌, List, slice_index, Option, Some, None, Result, Ok, Err}
use Rattle.fz_token.specs.declared.Mark.{Mark}
use Rattle.fz_token.specs.declared.Mark.TheVariants.{OpenRound, CloseRound, OpenSquare, CloseSquare, OpenCurly, CloseCurly, Comma, Semicolon, Colon, DoubleColon, Equals, DoubleDot}
use Rattle.fz_token.specs.declared.Token.{Token}
use Rattle.fz_token.specs.declared.TokenKind.TheVariants as kind
use Rattle.fz_token.specs.declared.TokenRefusal.{TokenRefusal}
use Rattle.fz_token.specs.declared.TokenRefusal.TheVariants.{BadByte}

-- the mark of one byte: one of ( ) [ ] { } , ; : =
abbrev pub single : ℕ → Option Mark
single b =
    if b == 40 then Some OpenRound else (if b == 41 then Some CloseRound
    else (if b == 91 then Some OpenSquare else (if b == 93 then Some CloseSquare
    else (if b == 123 then Some OpenCurly else (if b == 125 then Some CloseCurly
    else (if b == 44 then Some Comma else (if b == 59 then Some Semicolon
    else (if b == 58 then Some Colon else (if b == 61 then Some Equals else None)))))))))

-- the mark of two bytes: `::` or `..`
abbrev pub double : ℕ → ℕ → Option Mark
double b c = if (b == 58) && (c == 58) then Some DoubleColon else (if (b == 46) && (c == 46) then Some DoubleDot else None)

abbrev pub single_token : ℕ → Option Mark → Result Token TokenRefusal
single_token at None = Err (BadByte at)
single_token at (Some mark) = Ok (record { kind = kind.Mark mark; start = at; end = at + 1 })

-- the mark of two bytes is longer, so it stands before that of one
abbrev pub longer_token : ℕ → ℕ → Option Mark → Result Token TokenRefusal
longer_token at b None = single_token at (single b)
longer_token at b (Some mark) = Ok (record { kind = kind.Mark mark; start = at; end = at + 2 })

-- the mark that begins at `at`, where these bytes stand
abbrev pub mark_at : ℕ → List ℕ → Result Token TokenRefusal
mark_at at s = longer_token at (slice_index s 0) (double (slice_index s 0) (slice_index s 1))
