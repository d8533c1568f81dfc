-- A text that is being read, word by word.
use Rattle.std.specs.Prelude.{◌≡◌, ℕ, ◌≤◌, List, [], ◌∷◌, ◌++◌, length, Option, Some, None, Result}
use Rattle.fz_token.specs.Reading.{Reading}
use Rattle.fz_token.specs.Stream.{Stream, stream, stream_at, before}
use Rattle.fz_token.specs.declared.Token.{Token}
use Rattle.fz_token.specs.declared.TokenKind.{TokenKind}
use Rattle.fz_token.specs.declared.TokenRefusal.{TokenRefusal}
use Rattle.fz_model.specs.Words.{Word}

-- a text, and the words that are left of it
pub record Standing : Type 0 where
  pub text : List ℕ
  pub left : List Word

-- what stands behind the first
abbrev pub behind : {T : Type 0} → List T → List T
behind [] = []
behind (t ∷ rest) = rest

-- the tokens and the refusal that are left: the present answer, the one ahead, and those of the text from a place on
abbrev pub left_of : Result (Option Token) TokenRefusal → Result (Option Token) TokenRefusal → Reading → Stream
left_of present ahead reading = before present (before ahead (stream_at reading))

-- each token lies within a text of this length
abbrev pub Lie : ℕ → List Token → Type 0
Lie size [] = Unit {0}
Lie size (token ∷ tokens) = (token.start ≤ token.end) × (token.end ≤ size) × Lie size tokens

-- these are the last tokens of the text, and its refusal is that of the stream
pub record IsLeft (text : List ℕ) (left : Stream) : Type 0 where
  pub front : List Token
  pub parts : (stream text).tokens ≡ front ++ left.tokens
  pub refusal : (stream text).refusal ≡ left.refusal
  pub lie : Lie (length text) left.tokens

-- the last token of these is of this kind, and the one before it of that; None where there is none
abbrev pub IsEnding : List Token → Option TokenKind → Option TokenKind → Type 0
IsEnding front None None = front ≡ []
IsEnding front (Some last) None = (token : Token) × (front ≡ token ∷ []) × (token.kind ≡ last)
IsEnding front (Some last) (Some earlier) = (more : List Token) × (other : Token) × (token : Token) × (front ≡ more ++ other ∷ token ∷ []) × (other.kind ≡ earlier) × (token.kind ≡ last)
IsEnding front None (Some earlier) = ⊥

-- the tokens of the text before these end so
pub record IsBehind (text : List ℕ) (left : Stream) (last earlier : Option TokenKind) : Type 0 where
  pub front : List Token
  pub parts : (stream text).tokens ≡ front ++ left.tokens
  pub ending : IsEnding front last earlier
