-- The tokens of a text.
use Rattle.std.specs.Prelude.{ℕ, ◌+◌, ◌-◌, Bool, true, false, nat_lt, nat_le, if◌then◌else◌, List, [], ◌∷◌, length, drop, ◌<◌, ◌≤◌, Option, Some, None, Result, Ok, Err}
use Rattle.fz_token.specs.Gap.{gap_end}
use Rattle.fz_token.specs.Reading.{Reading}
use Rattle.fz_token.specs.Token.{token_at}
use Rattle.fz_token.specs.declared.Token.{Token}
use Rattle.fz_token.specs.declared.TokenRefusal.{TokenRefusal}

-- where the blanks and comments end that stand at a place
abbrev pub start_after : List ℕ → ℕ → ℕ
start_after text at = gap_end at false (drop at text)

abbrev pub found : Result Token TokenRefusal → Result (Option Token) TokenRefusal
found (Ok token) = Ok (Some token)
found (Err refusal) = Err refusal

-- what comes next: a token, the end, or a refusal
abbrev pub next_of : Reading → Result (Option Token) TokenRefusal
next_of r =
    let start = start_after r.text r.at in
    if nat_le (length r.text) start then Ok None else found (token_at start (drop start r.text))

-- a token is passed over; else the place stays
abbrev pub place_after : Result (Option Token) TokenRefusal → ℕ → ℕ
place_after (Ok (Some token)) at = token.end
place_after (Ok None) at = at
place_after (Err refusal) at = at

-- ---- all tokens

-- the tokens of a text in order, and the refusal that ends them, if not the text's end does
pub record Stream : Type 0 where
  pub tokens : List Token
  pub refusal : Option TokenRefusal

abbrev pub nothing : Stream
nothing = record { tokens = []; refusal = None }

abbrev pub refused : TokenRefusal → Stream
refused refusal = record { tokens = []; refusal = Some refusal }

abbrev pub with_token : Token → Stream → Stream
with_token token stream = record { tokens = token ∷ stream.tokens; refusal = stream.refusal }

-- a token, and what follows its end; or a refusal, which nothing follows
abbrev pub led_by : Result Token TokenRefusal → (ℕ → Stream) → Stream
led_by (Ok token) after = with_token token (after token.end)
led_by (Err refusal) after = refused refusal

-- The stream of bytes that stand at `at`, before or at the next token's place. `after` is the stream of the bytes behind
-- the first, by the next token's place.
abbrev pub stream_step : Bool → ℕ → List ℕ → ℕ → (ℕ → Stream) → Stream
stream_step true at bytes place after = after place
stream_step false at bytes place after = led_by (token_at at bytes) (λ end. after (gap_end end false (drop (end - at) bytes)))

-- the stream of bytes that stand at `at`, whose first token begins at `place`
unfoldable pub stream_from : List ℕ → ℕ → ℕ → Stream
stream_from [] at place = nothing
stream_from (b ∷ rest) at place = stream_step (nat_lt at place) at (b ∷ rest) place (λ next. stream_from rest (at + 1) next)

-- the tokens of a text from a place on
abbrev pub stream_at : Reading → Stream
stream_at r = stream_from r.text 0 (start_after r.text r.at)

-- the tokens of a text
abbrev pub stream : List ℕ → Stream
stream text = stream_at (record { text = text; at = 0 })

-- a stream that begins with an answer, and goes on as another after a token
abbrev pub before : Result (Option Token) TokenRefusal → Stream → Stream
before (Ok (Some token)) rest = with_token token rest
before (Ok None) rest = nothing
before (Err refusal) rest = refused refusal

-- the tokens end by `size`, and each begins at `from`, or where the one before it ends, or later
abbrev pub IsInOrder : ℕ → ℕ → List Token → Type 0
IsInOrder from size [] = Unit {0}
IsInOrder from size (token ∷ tokens) =
    (from ≤ token.start) × (token.start < token.end) × (token.end ≤ size) × IsInOrder token.end size tokens
