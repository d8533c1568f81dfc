-- The words of a text: what the grammar sees of its tokens.
use Rattle.std.specs.Prelude.{◌≡◌, ◌^◌, ◌≤◌, nat_abs, ℕ, ◌-◌, ◌==◌, Bool, true, false, List, [], ◌∷◌, take, drop, ℤ}
use Rattle.dp_base.specs.Names.{is_name}
use Rattle.fz_token.specs.declared.Keyword.{Keyword}
use Rattle.fz_token.specs.declared.Mark.{Mark}
use Rattle.fz_token.specs.declared.Mark.TheVariants as mark
use Rattle.fz_token.specs.declared.Token.{Token}
use Rattle.fz_token.specs.declared.TokenKind.{TokenKind}
use Rattle.fz_token.specs.declared.TokenKind.TheVariants as kind
use Rattle.dp_grammar.specs.Brackets.{Class, Plain, Opens, Closes, Bracketing}

pub data Bracket : Type 0 where
  Round : Bracket
  Square : Bracket
  Curly : Bracket

-- `,` `;` `:` `::` `=` `..`
pub data Point : Type 0 where
  Comma : Point
  Semicolon : Point
  Colon : Point
  DoubleColon : Point
  Equals : Point
  DoubleDot : Point

-- What is no bracket: a name by its bytes, an integer with whether `..` follows it.
pub data PlainWord : Type 0 where
  Named : List ℕ → PlainWord
  Key : Keyword → PlainWord
  Number : ℤ → Bool → PlainWord
  Float : PlainWord
  Quoted : PlainWord
  Stop : Point → PlainWord

abbrev pub Word : Type 0
Word = Class PlainWord Bracket

-- ---- from tokens

abbrev pub mark_word : Mark → Word
mark_word mark.OpenRound = Opens Round
mark_word mark.CloseRound = Closes Round
mark_word mark.OpenSquare = Opens Square
mark_word mark.CloseSquare = Closes Square
mark_word mark.OpenCurly = Opens Curly
mark_word mark.CloseCurly = Closes Curly
mark_word mark.Comma = Plain (Stop Comma)
mark_word mark.Semicolon = Plain (Stop Semicolon)
mark_word mark.Colon = Plain (Stop Colon)
mark_word mark.DoubleColon = Plain (Stop DoubleColon)
mark_word mark.Equals = Plain (Stop Equals)
mark_word mark.DoubleDot = Plain (Stop DoubleDot)

-- the word of a token of this kind, with these bytes, which `..` follows or not
abbrev pub kind_word : List ℕ → Bool → TokenKind → Word
kind_word bytes dotted kind.Name = Plain (Named bytes)
kind_word bytes dotted (kind.Keyword keyword) = Plain (Key keyword)
kind_word bytes dotted (kind.Integer value) = Plain (Number value dotted)
kind_word bytes dotted kind.Float = Plain Float
kind_word bytes dotted kind.Quoted = Plain Quoted
kind_word bytes dotted (kind.Mark m) = mark_word m

abbrev pub is_double_dot : TokenKind → Bool
is_double_dot (kind.Mark mark.DoubleDot) = true
is_double_dot _ = false

abbrev pub begins_dotted : List Token → Bool
begins_dotted [] = false
begins_dotted (token ∷ tokens) = is_double_dot token.kind

-- the words of the tokens of a text
abbrev pub words : List ℕ → List Token → List Word
words text [] = []
words text (token ∷ tokens) =
    kind_word (take (token.end - token.start) (drop token.start text)) (begins_dotted tokens) token.kind ∷ words text tokens

-- a word that a token stands for: a name has the form of one, and an integer is within 10^18 of 0
abbrev pub IsSpelled : Word → Type 0
IsSpelled (Plain (Named bytes)) = is_name bytes ≡ true
IsSpelled (Plain (Number value dotted)) = nat_abs value ≤ 10 ^ 18
IsSpelled _ = Unit {0}

-- ---- brackets

abbrev pub bracket_code : Bracket → ℕ
bracket_code Round = 0
bracket_code Square = 1
bracket_code Curly = 2

-- a word says itself whether it is a bracket
abbrev pub bracketing : Bracketing Word PlainWord Bracket
bracketing = record { class = λ w. w; token = λ w. w; same = λ j k. bracket_code j == bracket_code k }
