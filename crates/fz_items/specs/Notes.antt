-- What annotations say of how an item is printed.
use Rattle.std.specs.Prelude.{ℕ, zero, suc, ◌||◌, ◌==◌, Bool, true, false, if◌then◌else◌, List, [], ◌∷◌, ◌++◌, map, reverse, Option, Some, None, is_none, option_map, Result, Ok, Err, bytes_eq, codes, length, ◌&&◌, Vec}
use Rattle.std.specs.Global.{Global}
use Rattle.std.proofs.Common.{inl, inr}
use Rattle.dp_grammar.specs.Brackets as word
use Rattle.dp_grammar.specs.Brackets.{spell_inside, read_inside}
use Rattle.dp_grammar.specs.Chain.{followed, mapped, behind_mark}
use Rattle.dp_grammar.specs.Choice.{begins}
use Rattle.dp_grammar.specs.Grammar as grammar
use Rattle.dp_grammar.specs.Grammar.{Reading, Takes, Stops}
use Rattle.dp_grammar.specs.Listed.{Listing}
use Rattle.dp_grammar.specs.Whole.{whole}
use Rattle.fz_token.specs.declared.Mark.TheVariants as mark
use Rattle.fz_token.specs.declared.TokenKind.{TokenKind}
use Rattle.fz_token.specs.declared.TokenKind.TheVariants as kind
use Rattle.fz_model.specs.Annotations.{Balanced, balanced, Annotation, Annotated}
use Rattle.fz_model.specs.Arrays.{output_ranges}
use Rattle.fz_model.specs.Items.{IntText}
use Rattle.fz_model.specs.Limits.{no_test}
use Rattle.fz_model.specs.Literals.{name, range}
use Rattle.fz_model.specs.Marks.{is_stop, is_open, is_close, opens, closes}
use Rattle.fz_model.specs.declared.fault.Fault.{Fault}
use Rattle.fz_model.specs.Words as words
use Rattle.fz_model.specs.Words.{Bracket, DoubleColon, Word, bracket_code, bracketing}
use Rattle.fz_items.specs.Literals.{range_of}
use Rattle.fz_items.specs.Standing.{behind}
use Rattle.fz_items.specs.declared.brackets.Class.{Class}
use Rattle.fz_items.specs.declared.brackets.Class.TheVariants.{Plain, Opens, Closes}
use Rattle.fz_items.specs.declared.annotations.Notes.{Notes}
use Rattle.fz_items.specs.declared.text.Number.{Number}
use Rattle.fz_items.specs.declared.brackets.Shape.{Shape}
use Rattle.fz_items.specs.declared.brackets.Shape.TheVariants.{Round, Square, Curly}

-- ---- brackets

abbrev pub bracket_of : Shape → Bracket
bracket_of Round = words.Round
bracket_of Square = words.Square
bracket_of Curly = words.Curly

-- the brackets that are open, the innermost first
abbrev pub brackets_of : List Shape → List Bracket
brackets_of shapes = map bracket_of (reverse shapes)

-- with the innermost of all, if one is open
abbrev pub opened : Option Shape → List Shape → List Bracket
opened None below = []
opened (Some top) below = bracket_of top ∷ brackets_of below

abbrev pub class_of : TokenKind → Class
class_of (kind.Mark mark.OpenRound) = Opens Round
class_of (kind.Mark mark.CloseRound) = Closes Round
class_of (kind.Mark mark.OpenSquare) = Opens Square
class_of (kind.Mark mark.CloseSquare) = Closes Square
class_of (kind.Mark mark.OpenCurly) = Opens Curly
class_of (kind.Mark mark.CloseCurly) = Closes Curly
class_of _ = Plain

-- a reading of which nothing is kept
abbrev pub nothing_of : {X : Type 0} → Reading Word Fault X → Reading Word Fault (Unit {0})
nothing_of reading = mapped (λ _. tt) reading

-- up to the bracket that closes the last of these, of which nothing is kept
unfoldable pub closing_all : List Bracket → List Word → Reading Word Fault (Unit {0})
closing_all opened left = nothing_of (read_inside bracketing opened left)

-- what is read behind a word of this class
abbrev pub stepped : Class → Shape → List Bracket → List Word → List Word → Reading Word Fault (Unit {0})
stepped Plain top opened left rest = closing_all (bracket_of top ∷ opened) rest
stepped (Opens shape) top opened left rest = closing_all (bracket_of shape ∷ bracket_of top ∷ opened) rest
stepped (Closes shape) top opened left rest = if bracket_code (bracket_of top) == bracket_code (bracket_of shape) then closing_all opened rest else Stops grammar.Syntax left

-- ---- the ranges of `output_array`

abbrev pub range_listing : Listing Word Fault (IntText × IntText)
range_listing = record {
  is_separator = is_stop words.Comma;
  separator = word.Plain (words.Stop words.Comma);
  is_close = is_close words.Square;
  item = λ kept. range no_test;
  close = λ kept. closes words.Square;
}

abbrev pub ranges_in : Result (List (IntText × IntText)) (grammar.Cause Fault × List Word) → Option (List (IntText × IntText))
ranges_in (Ok ranges) = Some ranges
ranges_in (Err refusal) = None

-- the ranges that the arguments of an annotation spell
abbrev pub args_ranges : Option Balanced → Option (List (IntText × IntText))
args_ranges None = None
args_ranges (Some args) = ranges_in (whole output_ranges (spell_inside bracketing (words.Round ∷ []) args))

-- what is read in brackets, seen as ranges
abbrev pub seen_args : Reading Word Fault Balanced → Reading Word Fault (Option (List (IntText × IntText)))
seen_args reading = mapped (λ args. args_ranges (Some args)) reading

-- ---- annotations

-- what is known of the annotations so far: whether one is `output_var`, and the ranges of the first `output_array`
pub record Seen : Type 0 where
  pub var : Bool
  pub array : Option (Option (List (IntText × IntText)))

abbrev pub nothing_seen : Seen
nothing_seen = record { var = false; array = None }

-- an `output_array` behind these is the first
abbrev pub counts : Seen → List ℕ → Bool
counts seen bytes = is_none seen.array && bytes_eq bytes (codes "output_array")

abbrev pub array_behind : Option (Option (List (IntText × IntText))) → Bool → Option (List (IntText × IntText)) → Option (Option (List (IntText × IntText)))
array_behind array first ranges = if first then Some ranges else array

-- with an annotation more, whose arguments spell these ranges
abbrev pub with_note : Seen → List ℕ → Option (List (IntText × IntText)) → Seen
with_note seen bytes ranges = record { var = seen.var || bytes_eq bytes (codes "output_var"); array = array_behind seen.array (counts seen bytes) ranges }

abbrev pub add_note : Seen → Annotation → Seen
add_note seen note = with_note seen note.name (args_ranges note.args)

-- these, behind what is seen
abbrev pub seen_behind : Seen → List Annotation → Seen
seen_behind seen [] = seen
seen_behind seen (a ∷ notes) = seen_behind (add_note seen a) notes

abbrev pub seen_in : List Annotation → Seen
seen_in notes = seen_behind nothing_seen notes

-- what the code keeps of annotations and of what closes them
abbrev pub seen_of : {C : Type 0} → Annotated C → Seen × C
seen_of (inl p) = (seen_in (p.0 ++ p.1.0 ∷ []), p.1.1)
seen_of (inr c) = (nothing_seen, c)

-- arguments, if a bracket comes
abbrev pub note_args : Bool → List Word → Reading Word Fault (Option Balanced)
note_args true left = mapped (λ args. Some args) ((behind_mark (opens words.Round) balanced).read left)
note_args false left = Takes None left

-- the ranges of arguments that count
abbrev pub counted : Bool → Option Balanced → Option (List (IntText × IntText))
counted first args = if first then args_ranges args else None

-- an annotation behind its mark
abbrev pub note : List Word → Reading Word Fault Annotation
note left = followed ((name (λ bytes. None)).read left) (λ bytes rest. mapped (λ args. record { name = bytes; args = args }) (note_args (begins (is_open words.Round) rest) rest))

-- at most so many annotations behind these
unfoldable pub notes_from : ℕ → Seen → List Word → Reading Word Fault Seen
notes_from zero seen left = Takes seen left
notes_from (suc most) seen left =
    if begins (is_stop DoubleColon) left then followed (note (behind left)) (λ a rest. notes_from most (add_note seen a) rest) else Takes seen left

-- all annotations
abbrev pub notes : List Word → Reading Word Fault Seen
notes left = notes_from (suc (length left)) nothing_seen left

-- ---- as the code keeps them

abbrev pub ranges_of : Option (Vec (Number × Number) Global) → Option (List (IntText × IntText))
ranges_of ranges = option_map (λ v. map range_of v.items) ranges

abbrev pub notes_of : Notes → Seen
notes_of notes = record { var = notes.var; array = option_map ranges_of notes.array }
