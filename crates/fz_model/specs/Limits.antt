-- The limits of numbers and counts, and the tests of them.
use Rattle.std.specs.Prelude.{ℕ, Bool, true, false, not, ◌||◌, nat_lt, List, Option, Some, None, is_none, ℤ, pos, nat_abs}
use Rattle.std.specs.List.{list_any}
use Rattle.std.specs.Int.Signed.{lt_z}
use Rattle.fz_model.specs.declared.fault.Fault.{Fault}
use Rattle.fz_model.specs.declared.fault.Fault.TheVariants.{Limit}

-- bounds, coefficients and what defines a variable
abbrev pub small : ℕ
small = 1000000000

abbrev pub max_elements : ℕ
max_elements = 2000000

abbrev pub max_variables : ℕ
max_variables = 200000

abbrev pub max_constraints : ℕ
max_constraints = 200000

-- a refusal, where the test says so
abbrev pub refuse_if : Bool → Fault → Option Fault
refuse_if true fault = Some fault
refuse_if false fault = None

-- the first refusal
abbrev pub or_else : Option Fault → Option Fault → Option Fault
or_else None other = other
or_else (Some fault) other = Some fault

-- a number beyond what bounds, coefficients and definitions may be
abbrev pub beyond_small : ℤ → Option Fault
beyond_small value = refuse_if (nat_lt small (nat_abs value)) Limit

-- nothing is refused
abbrev pub no_test : {X : Type 0} → X → Option Fault
no_test x = None

-- a duration, a usage or a capacity
abbrev pub amount_limit : ℤ → Option Fault
amount_limit value = refuse_if (lt_z value (pos 0) || nat_lt small (nat_abs value)) Limit

-- whether the test refuses the element, a constant
abbrev pub is_refused : (ℤ → Option Fault) → Option ℤ → Bool
is_refused test None = false
is_refused test (Some value) = not (is_none (test value))

-- a constant among the elements is beyond the limit of the test
abbrev pub each_test : (ℤ → Option Fault) → List (Option ℤ) → Option Fault
each_test test elements = refuse_if (list_any (is_refused test) elements) Limit
