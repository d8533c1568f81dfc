-- The first word of a text, as the code sees it.
use Rattle.std.specs.Prelude.{Bool, ℤ}
use Rattle.fz_token.specs.declared.Mark.{Mark}
use Rattle.fz_token.specs.declared.Mark.TheVariants as of
use Rattle.dp_grammar.specs.Leaf as leaf
use Rattle.fz_model.specs.Context.{BasicText, Truth, Whole, Name}
use Rattle.fz_model.specs.Marks.{Production, is_stop, is_open, is_close}
use Rattle.fz_model.specs.Words.{Word, kind_word, mark_word, Round, Square, Curly, Comma, Semicolon, Colon, DoubleColon, Equals, DoubleDot}
use Rattle.fz_items.specs.declared.source.Seen.{Seen}
use Rattle.fz_items.specs.declared.text.BasicWord.{BasicWord}
use Rattle.fz_items.specs.declared.text.BasicWord.TheVariants as basic
use Rattle.fz_items.specs.declared.text.Number.{Number}

abbrev pub word_of : Seen → Word
word_of seen = kind_word seen.bytes.now seen.dotted seen.kind

-- which word it is
abbrev pub is_mark : Mark → Word → Bool
is_mark of.OpenRound = is_open Round
is_mark of.CloseRound = is_close Round
is_mark of.OpenSquare = is_open Square
is_mark of.CloseSquare = is_close Square
is_mark of.OpenCurly = is_open Curly
is_mark of.CloseCurly = is_close Curly
is_mark of.Comma = is_stop Comma
is_mark of.Semicolon = is_stop Semicolon
is_mark of.Colon = is_stop Colon
is_mark of.DoubleColon = is_stop DoubleColon
is_mark of.Equals = is_stop Equals
is_mark of.DoubleDot = is_stop DoubleDot

abbrev pub mark : Mark → Production (Unit {0})
mark m = leaf.mark (is_mark m) (mark_word m)

-- ---- values

-- an integer, and whether `..` follows it
abbrev pub number_of : Number → ℤ × Bool
number_of n = (n.value, n.dotted)

-- a literal or a name
abbrev pub basic_text : BasicWord → BasicText
basic_text (basic.Truth value) = Truth value
basic_text (basic.Whole n) = Whole n.value n.dotted
basic_text (basic.Name bytes) = Name bytes.now
