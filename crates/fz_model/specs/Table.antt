-- The table of constraints: their names, and what their arguments are.
use Rattle.std.specs.Prelude.{ℕ, List, [], ◌∷◌, length, find, bytes_eq, codes, Option}
use Rattle.fz_model.specs.declared.kinds.ArgKind.{ArgKind}
use Rattle.fz_model.specs.declared.kinds.ArgKind.TheVariants as arg
use Rattle.fz_model.specs.declared.kinds.ConstraintKind.{ConstraintKind}
use Rattle.fz_model.specs.declared.kinds.ConstraintKind.TheVariants as of

abbrev pub constraint_name : ConstraintKind → List ℕ
constraint_name of.IntLinLe = codes "int_lin_le"
constraint_name of.IntLinEq = codes "int_lin_eq"
constraint_name of.IntLinNe = codes "int_lin_ne"
constraint_name of.IntLinLeReif = codes "int_lin_le_reif"
constraint_name of.IntLinEqReif = codes "int_lin_eq_reif"
constraint_name of.IntLinNeReif = codes "int_lin_ne_reif"
constraint_name of.IntLe = codes "int_le"
constraint_name of.IntLt = codes "int_lt"
constraint_name of.IntEq = codes "int_eq"
constraint_name of.IntNe = codes "int_ne"
constraint_name of.IntLeReif = codes "int_le_reif"
constraint_name of.IntLtReif = codes "int_lt_reif"
constraint_name of.IntEqReif = codes "int_eq_reif"
constraint_name of.IntNeReif = codes "int_ne_reif"
constraint_name of.IntPlus = codes "int_plus"
constraint_name of.IntTimes = codes "int_times"
constraint_name of.IntMax = codes "int_max"
constraint_name of.IntMin = codes "int_min"
constraint_name of.IntAbs = codes "int_abs"
constraint_name of.Bool2Int = codes "bool2int"
constraint_name of.BoolEq = codes "bool_eq"
constraint_name of.BoolNot = codes "bool_not"
constraint_name of.BoolXor = codes "bool_xor"
constraint_name of.BoolLe = codes "bool_le"
constraint_name of.BoolLt = codes "bool_lt"
constraint_name of.BoolEqReif = codes "bool_eq_reif"
constraint_name of.BoolLeReif = codes "bool_le_reif"
constraint_name of.BoolLtReif = codes "bool_lt_reif"
constraint_name of.BoolAnd = codes "bool_and"
constraint_name of.BoolOr = codes "bool_or"
constraint_name of.ArrayBoolAnd = codes "array_bool_and"
constraint_name of.ArrayBoolOr = codes "array_bool_or"
constraint_name of.BoolClause = codes "bool_clause"
constraint_name of.BoolClauseReif = codes "bool_clause_reif"
constraint_name of.SetIn = codes "set_in"
constraint_name of.SetInReif = codes "set_in_reif"
constraint_name of.ArrayIntElement = codes "array_int_element"
constraint_name of.ArrayVarIntElement = codes "array_var_int_element"
constraint_name of.ArrayBoolElement = codes "array_bool_element"
constraint_name of.ArrayVarBoolElement = codes "array_var_bool_element"
constraint_name of.AllDifferentInt = codes "all_different_int"
constraint_name of.FznAllDifferentInt = codes "fzn_all_different_int"
constraint_name of.Cumulative = codes "cumulative"
constraint_name of.FznCumulative = codes "fzn_cumulative"

abbrev pub all_constraints : List ConstraintKind
all_constraints =
    of.IntLinLe ∷ of.IntLinEq ∷ of.IntLinNe ∷ of.IntLinLeReif ∷ of.IntLinEqReif
    ∷ of.IntLinNeReif ∷ of.IntLe ∷ of.IntLt ∷ of.IntEq ∷ of.IntNe
    ∷ of.IntLeReif ∷ of.IntLtReif ∷ of.IntEqReif ∷ of.IntNeReif ∷ of.IntPlus
    ∷ of.IntTimes ∷ of.IntMax ∷ of.IntMin ∷ of.IntAbs
    ∷ of.Bool2Int ∷ of.BoolEq ∷ of.BoolNot ∷ of.BoolXor ∷ of.BoolLe
    ∷ of.BoolLt ∷ of.BoolEqReif ∷ of.BoolLeReif ∷ of.BoolLtReif ∷ of.BoolAnd
    ∷ of.BoolOr ∷ of.ArrayBoolAnd ∷ of.ArrayBoolOr ∷ of.BoolClause ∷ of.BoolClauseReif
    ∷ of.SetIn ∷ of.SetInReif ∷ of.ArrayIntElement ∷ of.ArrayVarIntElement ∷ of.ArrayBoolElement
    ∷ of.ArrayVarBoolElement ∷ of.AllDifferentInt ∷ of.FznAllDifferentInt ∷ of.Cumulative ∷ of.FznCumulative ∷ []

-- the constraint of this name
unfoldable pub constraint_of : List ℕ → Option ConstraintKind
constraint_of name = find (λ kind. bytes_eq (constraint_name kind) name) all_constraints

-- what its arguments have to be
abbrev pub args_of : ConstraintKind → List ArgKind
args_of of.IntLinLe = arg.Coefficients ∷ arg.Ints ∷ arg.Const ∷ []
args_of of.IntLinEq = arg.Coefficients ∷ arg.Ints ∷ arg.Const ∷ []
args_of of.IntLinNe = arg.Coefficients ∷ arg.Ints ∷ arg.Const ∷ []
args_of of.IntLinLeReif = arg.Coefficients ∷ arg.Ints ∷ arg.Const ∷ arg.Bool ∷ []
args_of of.IntLinEqReif = arg.Coefficients ∷ arg.Ints ∷ arg.Const ∷ arg.Bool ∷ []
args_of of.IntLinNeReif = arg.Coefficients ∷ arg.Ints ∷ arg.Const ∷ arg.Bool ∷ []
args_of of.IntLe = arg.Int ∷ arg.Int ∷ []
args_of of.IntLt = arg.Int ∷ arg.Int ∷ []
args_of of.IntEq = arg.Int ∷ arg.Int ∷ []
args_of of.IntNe = arg.Int ∷ arg.Int ∷ []
args_of of.IntLeReif = arg.Int ∷ arg.Int ∷ arg.Bool ∷ []
args_of of.IntLtReif = arg.Int ∷ arg.Int ∷ arg.Bool ∷ []
args_of of.IntEqReif = arg.Int ∷ arg.Int ∷ arg.Bool ∷ []
args_of of.IntNeReif = arg.Int ∷ arg.Int ∷ arg.Bool ∷ []
args_of of.IntPlus = arg.Int ∷ arg.Int ∷ arg.Int ∷ []
args_of of.IntTimes = arg.Int ∷ arg.Int ∷ arg.Int ∷ []
args_of of.IntMax = arg.Int ∷ arg.Int ∷ arg.Int ∷ []
args_of of.IntMin = arg.Int ∷ arg.Int ∷ arg.Int ∷ []
args_of of.IntAbs = arg.Int ∷ arg.Int ∷ []
args_of of.Bool2Int = arg.Bool ∷ arg.Int ∷ []
args_of of.BoolEq = arg.Bool ∷ arg.Bool ∷ []
args_of of.BoolNot = arg.Bool ∷ arg.Bool ∷ []
args_of of.BoolXor = arg.Bool ∷ arg.Bool ∷ arg.Bool ∷ []
args_of of.BoolLe = arg.Bool ∷ arg.Bool ∷ []
args_of of.BoolLt = arg.Bool ∷ arg.Bool ∷ []
args_of of.BoolEqReif = arg.Bool ∷ arg.Bool ∷ arg.Bool ∷ []
args_of of.BoolLeReif = arg.Bool ∷ arg.Bool ∷ arg.Bool ∷ []
args_of of.BoolLtReif = arg.Bool ∷ arg.Bool ∷ arg.Bool ∷ []
args_of of.BoolAnd = arg.Bool ∷ arg.Bool ∷ arg.Bool ∷ []
args_of of.BoolOr = arg.Bool ∷ arg.Bool ∷ arg.Bool ∷ []
args_of of.ArrayBoolAnd = arg.Bools ∷ arg.Bool ∷ []
args_of of.ArrayBoolOr = arg.Bools ∷ arg.Bool ∷ []
args_of of.BoolClause = arg.Bools ∷ arg.Bools ∷ []
args_of of.BoolClauseReif = arg.Bools ∷ arg.Bools ∷ arg.Bool ∷ []
args_of of.SetIn = arg.Int ∷ arg.Set ∷ []
args_of of.SetInReif = arg.Int ∷ arg.Set ∷ arg.Bool ∷ []
args_of of.ArrayIntElement = arg.Int ∷ arg.Consts ∷ arg.Int ∷ []
args_of of.ArrayVarIntElement = arg.Int ∷ arg.Ints ∷ arg.Int ∷ []
args_of of.ArrayBoolElement = arg.Int ∷ arg.BoolConsts ∷ arg.Bool ∷ []
args_of of.ArrayVarBoolElement = arg.Int ∷ arg.Bools ∷ arg.Bool ∷ []
args_of of.AllDifferentInt = arg.Ints ∷ []
args_of of.FznAllDifferentInt = arg.Ints ∷ []
args_of of.Cumulative = arg.Ints ∷ arg.Amounts ∷ arg.Amounts ∷ arg.Amount ∷ []
args_of of.FznCumulative = arg.Ints ∷ arg.Amounts ∷ arg.Amounts ∷ arg.Amount ∷ []

-- how many there are at least: the last of `bool_xor` may be left out
abbrev pub least_args : ConstraintKind → ℕ
least_args of.BoolXor = 2
least_args kind = length (args_of kind)
