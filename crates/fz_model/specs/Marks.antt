-- Productions of one word that is spelled in one way.
use Rattle.std.specs.Prelude.{ℕ, ◌==◌, Bool, false}
use Rattle.fz_token.specs.declared.Keyword.{Keyword}
use Rattle.fz_token.specs.declared.Keyword.TheVariants as key
use Rattle.dp_grammar.specs.Brackets.{Plain, Opens, Closes}
use Rattle.dp_grammar.specs.Grammar.{Grammar}
use Rattle.dp_grammar.specs.Leaf.{mark}
use Rattle.fz_model.specs.declared.fault.Fault.{Fault}
use Rattle.fz_model.specs.Words.{Bracket, Point, Comma, Semicolon, Colon, DoubleColon, Equals, DoubleDot, Word, Key, Stop, bracket_code}

abbrev pub Production : Type 0 → Type 0
Production X = Grammar Word Fault X

-- ---- which word it is

abbrev pub key_code : Keyword → ℕ
key_code key.Array = 0
key_code key.Bool = 1
key_code key.Constraint = 2
key_code key.False = 3
key_code key.Float = 4
key_code key.Int = 5
key_code key.Maximize = 6
key_code key.Minimize = 7
key_code key.Of = 8
key_code key.Predicate = 9
key_code key.Satisfy = 10
key_code key.Set = 11
key_code key.Solve = 12
key_code key.True = 13
key_code key.Var = 14

abbrev pub point_code : Point → ℕ
point_code Comma = 0
point_code Semicolon = 1
point_code Colon = 2
point_code DoubleColon = 3
point_code Equals = 4
point_code DoubleDot = 5

abbrev pub is_key : Keyword → Word → Bool
is_key keyword (Plain (Key other)) = key_code other == key_code keyword
is_key keyword _ = false

abbrev pub is_stop : Point → Word → Bool
is_stop point (Plain (Stop other)) = point_code other == point_code point
is_stop point _ = false

abbrev pub is_open : Bracket → Word → Bool
is_open bracket (Opens other) = bracket_code other == bracket_code bracket
is_open bracket _ = false

abbrev pub is_close : Bracket → Word → Bool
is_close bracket (Closes other) = bracket_code other == bracket_code bracket
is_close bracket _ = false

-- ---- the productions

abbrev pub keyword : Keyword → Production (Unit {0})
keyword k = mark (is_key k) (Plain (Key k))

abbrev pub stop : Point → Production (Unit {0})
stop p = mark (is_stop p) (Plain (Stop p))

abbrev pub opens : Bracket → Production (Unit {0})
opens b = mark (is_open b) (Opens b)

abbrev pub closes : Bracket → Production (Unit {0})
closes b = mark (is_close b) (Closes b)
