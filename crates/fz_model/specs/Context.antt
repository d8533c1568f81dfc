-- What the items before a word declare, and the tests of names and literals that look at it.
use Rattle.std.specs.Prelude.{ℕ, ◌+◌, Bool, true, nat_le, List, bytes_eq, Option, Some, None, ℤ}
use Rattle.std.specs.Map.{lookup}
use Rattle.std.specs.Option.{option_map_or}
use Rattle.fz_model.specs.Limits.{max_elements, max_variables, refuse_if, or_else}
use Rattle.fz_model.specs.declared.fault.Fault.{Fault}
use Rattle.fz_model.specs.declared.meant.Meant.{Meant}
use Rattle.fz_model.specs.declared.meant.Meant.TheVariants.{IntConst, BoolConst, SetConst, IntVar, BoolVar, IntArray, BoolArray}
use Rattle.fz_model.specs.declared.fault.Fault.TheVariants.{Unsupported, Unknown, Declared, Kind, Limit}

-- the names so far and what each stands for, and how many elements and variables there are
pub record Context : Type 0 where
  pub entries : List (List ℕ × Meant)
  pub elements : ℕ
  pub variables : ℕ

-- one more element, behind `count` of the same list
abbrev pub one_more : Context → ℕ → Option Fault
one_more context count = refuse_if (nat_le max_elements (context.elements + count)) Limit

-- with more elements
abbrev pub with_elements : Context → ℕ → Context
with_elements context count = record context { elements = context.elements + count }

-- ---- names

abbrev pub meant_by : List (List ℕ × Meant) → List ℕ → Option Meant
meant_by entries bytes = lookup (bytes_eq bytes) entries

-- a name that is declared
abbrev pub fresh : Context → List ℕ → Option Fault
fresh context bytes = option_map_or (λ meant. Some Declared) (meant_by context.entries bytes) None

-- the name of a variable, of which there are not too many
abbrev pub fresh_variable : Context → List ℕ → Option Fault
fresh_variable context bytes = or_else (fresh context bytes) (refuse_if (nat_le max_variables context.variables) Limit)

-- ---- literals and names where a value is wanted

-- true or false, an integer with whether `..` follows it, or a name
pub data BasicText : Type 0 where
  Truth : Bool → BasicText
  Whole : ℤ → Bool → BasicText
  Name : List ℕ → BasicText

abbrev pub meaning : Context → BasicText → Option Meant
meaning context (Truth value) = Some (BoolConst value)
meaning context (Whole value dotted) = Some (IntConst value)
meaning context (Name bytes) = meant_by context.entries bytes

-- an unknown name, or what a test says of the meaning
abbrev pub known : Option Meant → (Meant → Option Fault) → Option Fault
known None test = Some Unknown
known (Some meant) test = test meant

-- an integer, of which a constant passes a further test
abbrev pub int_test : (ℤ → Option Fault) → Meant → Option Fault
int_test test (IntConst value) = test value
int_test test IntVar = None
int_test test _ = Some Kind

abbrev pub bool_test : Meant → Option Fault
bool_test (BoolConst value) = None
bool_test BoolVar = None
bool_test _ = Some Kind

-- an integer constant
abbrev pub const_test : (ℤ → Option Fault) → Meant → Option Fault
const_test test (IntConst value) = test value
const_test test _ = Some Kind

abbrev pub bool_const_test : Meant → Option Fault
bool_const_test (BoolConst value) = None
bool_const_test _ = Some Kind

-- the goal: an integer variable; a parameter is not supported
abbrev pub goal_test : Meant → Option Fault
goal_test IntVar = None
goal_test (IntConst value) = Some Unsupported
goal_test (BoolConst value) = Some Unsupported
goal_test SetConst = Some Unsupported
goal_test (IntArray true elements) = Some Unsupported
goal_test (BoolArray true elements) = Some Unsupported
goal_test _ = Some Kind
