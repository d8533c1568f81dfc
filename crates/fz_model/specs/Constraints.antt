-- Constraints, with the tests of their names and arguments.
use Rattle.std.specs.Prelude.{ℕ, ◌+◌, ◌==◌, Bool, true, false, not, ◌&&◌, nat_lt, nat_le, ◌⊎◌, List, [], ◌∷◌, length, map, sum, Option, Some, None, unwrap_or, is_none, ℤ, slice_get}
use Rattle.std.proofs.Common.{inl, inr}
use Rattle.std.specs.List.{list_any, list_all, filter_map}
use Rattle.fz_token.specs.declared.Keyword.TheVariants as key
use Rattle.dp_grammar.specs.Brackets.{Plain, Opens, Closes}
use Rattle.dp_grammar.specs.Chain.{chain, behind_mark}
use Rattle.dp_grammar.specs.Choice.{either}
use Rattle.dp_grammar.specs.Leaf.{leaf, tested_mark}
use Rattle.dp_grammar.specs.Listed.{listed}
use Rattle.fz_model.specs.Annotations.{Annotated, annotated}
use Rattle.fz_model.specs.Context.{Context, BasicText, Truth, Whole, Name, meaning, known, one_more, int_test, bool_test, const_test, bool_const_test}
use Rattle.fz_model.specs.Limits.{or_else, refuse_if, beyond_small, max_constraints, no_test, amount_limit, each_test}
use Rattle.fz_model.specs.declared.meant.Meant.{Meant}
use Rattle.fz_model.specs.declared.meant.Meant.TheVariants.{IntConst, SetConst, IntVar, IntArray, BoolArray}
use Rattle.fz_model.specs.Items.{IntText, basic}
use Rattle.fz_model.specs.Literals.{name, integer}
use Rattle.fz_model.specs.Marks.{Production, is_key, is_stop, is_open, is_close, stop, opens, closes}
use Rattle.fz_model.specs.declared.fault.Fault.{Fault}
use Rattle.fz_model.specs.declared.fault.Fault.TheVariants.{Unsupported, Kind, Limit}
use Rattle.fz_model.specs.Table.{constraint_of, args_of, least_args}
use Rattle.fz_model.specs.Words.{Round, Square, Curly, Comma, Semicolon, DoubleDot, Word, Named, Key, Number, Stop}
use Rattle.fz_model.specs.declared.kinds.ArgKind.{ArgKind}
use Rattle.fz_model.specs.declared.kinds.ArgKind.TheVariants as arg
use Rattle.fz_model.specs.declared.kinds.ConstraintKind.{ConstraintKind}
use Rattle.fz_model.specs.declared.kinds.ConstraintKind.TheVariants as of

-- ---- what an argument means

-- no variable is supported there
abbrev pub amount_test : Meant → Option Fault
amount_test (IntConst value) = amount_limit value
amount_test IntVar = Some Unsupported
amount_test _ = Some Kind

-- an array of integers: a variable is refused so, and else the constants are tested
abbrev pub constants_test : Fault → (ℤ → Option Fault) → Meant → Option Fault
constants_test variable test (IntArray parameter elements) = or_else (refuse_if (list_any is_none elements) variable) (each_test test elements)
constants_test variable test _ = Some Kind

abbrev pub ints_test : Meant → Option Fault
ints_test (IntArray parameter elements) = None
ints_test _ = Some Kind

abbrev pub bools_test : Meant → Option Fault
bools_test (BoolArray parameter elements) = None
bools_test _ = Some Kind

abbrev pub bool_consts_test : Meant → Option Fault
bool_consts_test (BoolArray parameter elements) = refuse_if (list_any is_none elements) Kind
bool_consts_test _ = Some Kind

abbrev pub set_test : Meant → Option Fault
set_test SetConst = None
set_test _ = Some Kind

-- a literal or a name where this is wanted
abbrev pub wanted_test : ArgKind → Meant → Option Fault
wanted_test arg.Int = int_test no_test
wanted_test arg.Bool = bool_test
wanted_test arg.Ints = ints_test
wanted_test arg.Bools = bools_test
wanted_test arg.Consts = constants_test Kind no_test
wanted_test arg.BoolConsts = bool_consts_test
wanted_test arg.Coefficients = constants_test Kind beyond_small
wanted_test arg.Set = set_test
wanted_test arg.Const = const_test no_test
wanted_test arg.Amounts = constants_test Unsupported amount_limit
wanted_test arg.Amount = amount_test

-- one argument too many is of the wrong kind, whatever it is
abbrev pub argument_test : Option ArgKind → Meant → Option Fault
argument_test None meant = Some Kind
argument_test (Some kind) meant = wanted_test kind meant

-- an element of an array where this is wanted
abbrev pub element_test : Option ArgKind → Meant → Option Fault
element_test (Some arg.Ints) = int_test no_test
element_test (Some arg.Bools) = bool_test
element_test (Some arg.Consts) = const_test no_test
element_test (Some arg.BoolConsts) = bool_const_test
element_test (Some arg.Coefficients) = const_test beyond_small
element_test (Some arg.Amounts) = amount_test
element_test _ = λ meant. Some Kind

abbrev pub wants_array : Option ArgKind → Bool
wants_array (Some arg.Ints) = true
wants_array (Some arg.Bools) = true
wants_array (Some arg.Consts) = true
wants_array (Some arg.BoolConsts) = true
wants_array (Some arg.Coefficients) = true
wants_array (Some arg.Amounts) = true
wants_array _ = false

abbrev pub wants_set : Option ArgKind → Bool
wants_set (Some arg.Set) = true
wants_set _ = false

-- ---- how an argument is spelled

-- an integer that begins a range
abbrev pub dotted_of : Word → Option ℤ
dotted_of (Plain (Number value true)) = Some value
dotted_of _ = None

abbrev pub is_dotted : Word → Bool
is_dotted (Plain (Number value true)) = true
is_dotted _ = false

-- a literal or a name that begins no range
pub data ArgText : Type 0 where
  ArgTruth : Bool → ArgText
  ArgWhole : ℤ → ArgText
  ArgName : List ℕ → ArgText

abbrev pub arg_of : Word → Option ArgText
arg_of (Plain (Named bytes)) = Some (ArgName bytes)
arg_of (Plain (Number value false)) = Some (ArgWhole value)
arg_of (Plain (Key key.True)) = Some (ArgTruth true)
arg_of (Plain (Key key.False)) = Some (ArgTruth false)
arg_of _ = None

abbrev pub arg_word : ArgText → Word
arg_word (ArgName bytes) = Plain (Named bytes)
arg_word (ArgWhole value) = Plain (Number value false)
arg_word (ArgTruth true) = Plain (Key key.True)
arg_word (ArgTruth false) = Plain (Key key.False)

abbrev pub arg_basic : ArgText → BasicText
arg_basic (ArgName bytes) = Name bytes
arg_basic (ArgWhole value) = Whole value false
arg_basic (ArgTruth value) = Truth value

-- numbers in curly brackets, or an array, or a range, or a literal or a name
abbrev pub ArgWords : Type 0
ArgWords = List IntText ⊎ (List BasicText ⊎ ((ℤ × IntText) ⊎ ArgText))

abbrev pub elements_in : ArgWords → ℕ
elements_in (inl numbers) = length numbers
elements_in (inr (inl elements)) = length elements
elements_in (inr (inr other)) = 0

-- with the elements of these arguments
abbrev pub behind : Context → List ArgWords → Context
behind context args = record context { elements = context.elements + sum (map elements_in args) }

-- '{' (INT (',' INT)*)? '}'
abbrev pub set_arg : Context → Option ArgKind → Production (List IntText)
set_arg context wanted =
    behind_mark (tested_mark (is_open Curly) (Opens Curly) (refuse_if (not (wants_set wanted)) Kind)) (listed (record {
      is_separator = is_stop Comma;
      separator = Plain (Stop Comma);
      is_close = is_close Curly;
      item = λ kept. integer (λ value. one_more context (length kept));
      close = λ kept. closes Curly;
    }))

-- '[' (basic (',' basic)*)? ']'
abbrev pub array_arg : Context → Option ArgKind → Production (List BasicText)
array_arg context wanted =
    behind_mark (tested_mark (is_open Square) (Opens Square) (refuse_if (not (wants_array wanted)) Kind)) (listed (record {
      is_separator = is_stop Comma;
      separator = Plain (Stop Comma);
      is_close = is_close Square;
      item = λ kept. basic (λ text. or_else (known (meaning context text) (element_test wanted)) (one_more context (length kept)));
      close = λ kept. closes Square;
    }))

-- INT '..' INT
abbrev pub range_arg : Option ArgKind → Production (ℤ × IntText)
range_arg wanted =
    chain (leaf (record { value = dotted_of; token = λ value. Plain (Number value true); test = λ value. refuse_if (not (wants_set wanted)) Kind }))
    (λ low. behind_mark (stop DoubleDot) (integer no_test))

abbrev pub text_arg : Context → Option ArgKind → Production ArgText
text_arg context wanted =
    leaf (record { value = arg_of; token = arg_word; test = λ text. known (meaning context (arg_basic text)) (argument_test wanted) })

-- an argument where this is wanted
abbrev pub argument : Context → Option ArgKind → Production ArgWords
argument context wanted =
    either (is_open Curly) (set_arg context wanted)
    (either (is_open Square) (array_arg context wanted)
    (either is_dotted (range_arg wanted) (text_arg context wanted)))

-- ---- all arguments of a constraint

-- arrays whose lengths have to be equal are those beside coefficients or amounts
abbrev pub pairs_arrays : ArgKind → Bool
pairs_arrays arg.Coefficients = true
pairs_arrays arg.Amounts = true
pairs_arrays _ = false

abbrev pub meant_length : Option Meant → Option ℕ
meant_length (Some (IntArray parameter elements)) = Some (length elements)
meant_length (Some (BoolArray parameter elements)) = Some (length elements)
meant_length _ = None

abbrev pub array_length : Context → ArgWords → Option ℕ
array_length context (inl numbers) = None
array_length context (inr (inl elements)) = Some (length elements)
array_length context (inr (inr (inl bounds))) = None
array_length context (inr (inr (inr text))) = meant_length (meaning context (arg_basic text))

abbrev pub all_equal : List ℕ → Bool
all_equal [] = true
all_equal (n ∷ ns) = list_all (λ m. m == n) ns

-- too few arguments, or arrays of other lengths
abbrev pub close_test : Context → ConstraintKind → List ArgWords → Option Fault
close_test context kind args =
    or_else (refuse_if (nat_lt (length args) (least_args kind)) Kind)
    (refuse_if (list_any pairs_arrays (args_of kind) && not (all_equal (filter_map (array_length context) args))) Kind)

-- '(' (expr (',' expr)*)? ')'
abbrev pub arguments : Context → ConstraintKind → Production (List ArgWords)
arguments context kind = behind_mark (opens Round) (listed (record {
  is_separator = is_stop Comma;
  separator = Plain (Stop Comma);
  is_close = is_close Round;
  item = λ kept. argument (behind context kept) (slice_get (args_of kind) (length kept));
  close = λ kept. tested_mark (is_close Round) (Closes Round) (close_test context kind kept);
}))

-- ---- the item

abbrev pub ConstraintWords : Type 0
ConstraintWords = List ℕ × (List ArgWords × Annotated (Unit {0}))

-- the elements of the constraints before it count too
abbrev pub behind_constraints : Context → List ConstraintWords → Context
behind_constraints context kept = record context { elements = context.elements + sum (map (λ c. sum (map elements_in c.1.0)) kept) }

-- the constraint of a name that passed its test
abbrev pub kind_named : List ℕ → ConstraintKind
kind_named bytes = unwrap_or (constraint_of bytes) of.IntLe

-- 'constraint' NAME '(' (expr (',' expr)*)? ')' annotations ';'
abbrev pub constraint_item : Context → List ConstraintWords → Production ConstraintWords
constraint_item context kept =
    behind_mark (tested_mark (is_key key.Constraint) (Plain (Key key.Constraint)) (refuse_if (nat_le max_constraints (length kept)) Limit))
    (chain (name (λ bytes. refuse_if (is_none (constraint_of bytes)) Unsupported)) (λ bytes.
    chain (arguments (behind_constraints context kept) (kind_named bytes)) (λ args. annotated (λ notes. stop Semicolon))))
