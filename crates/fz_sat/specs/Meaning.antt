-- The meaning of each constraint, of the values that its arguments have.
use Rattle.std.specs.Prelude.{ℕ, nat_le, Bool, true, false, not, ◌&&◌, ◌||◌, if◌then◌else◌, IsTrue, List, length, map, ℤ, pos, ◌+ℤ◌, ◌*ℤ◌, int_le, int_lt, unsigned_abs}
use Rattle.std.specs.Int.{int_max, int_min}
use Rattle.std.specs.List.{list_all, list_any}
use Rattle.std.specs.Ordering.{int_eq}
use Rattle.dp_domain.specs.Terms.{term_at}
use Rattle.fz_model.specs.declared.kinds.ConstraintKind.{ConstraintKind}
use Rattle.fz_model.specs.declared.kinds.ConstraintKind.TheVariants as of
use Rattle.fz_model.specs.declared.model.Expr.{Expr}
use Rattle.fz_model.specs.declared.model.Item.{Item}
use Rattle.fz_model.specs.declared.model.SetText.{SetText}
use Rattle.fz_sat.specs.Args.{arg_set, arg_term, arg_terms, is_in_set}
use Rattle.fz_sat.specs.Globals.{AreDistinct, IsEntryAt, KeepsCapacity, are_distinct, is_entry_at, keeps_capacity, tasks_of, weighted_sum}

-- the values of a constraint's arguments, each by its place from 0, and how many arguments there are
pub record Given : Type 0 where
  pub number : ℕ → ℤ
  pub numbers : ℕ → List ℤ
  pub set : ℕ → SetText
  pub count : ℕ

-- those of these arguments at an assignment
abbrev pub given : List Item → List Expr → (ℕ → ℤ) → Given
given items args s = record {
  number = λ k. term_at s (arg_term items args k);
  numbers = λ k. map (term_at s) (arg_terms items args k);
  set = λ k. arg_set items args k;
  count = length args;
}

-- ---- words of the table

-- whether a Boolean of this value holds; else it fails
abbrev pub is_on : ℤ → Bool
is_on v = int_le (pos 1) v

-- whether both hold or both fail
abbrev pub iff : Bool → Bool → Bool
iff true b = b
iff false b = not b

-- whether Boolean argument k holds
abbrev pub truth : Given → ℕ → Bool
truth g k = is_on (g.number k)

-- the sum of a linear constraint
abbrev pub sum_of : Given → ℤ
sum_of g = weighted_sum (g.numbers 0) (g.numbers 1)

-- whether some Boolean of argument 0 holds or some of argument 1 fails
abbrev pub clause_of : Given → Bool
clause_of g = list_any is_on (g.numbers 0) || list_any (λ v. not (is_on v)) (g.numbers 1)

-- whether the array in argument 1 has, at the index in argument 0, the value of argument 2
abbrev pub selection_of : Given → Bool
selection_of g = is_entry_at (g.numbers 1) (g.number 0) (g.number 2)

-- whether the tasks with the starts, durations and uses of arguments 0, 1 and 2 keep the capacity of argument 3
abbrev pub schedule_of : Given → Bool
schedule_of g = keeps_capacity (tasks_of (g.numbers 0) (g.numbers 1) (g.numbers 2)) (g.number 3)

-- whether the two Booleans differ; where there is a third, whether it says so
abbrev pub xor_of : Given → Bool
xor_of g = if nat_le 3 g.count then iff (truth g 2) (not (iff (truth g 0) (truth g 1))) else not (iff (truth g 0) (truth g 1))

-- ---- the table

-- whether the constraint holds of these values; of an element, of numbers that differ and of a capacity this is a test, which
-- is proved to be true exactly where the words below hold
abbrev pub holds : ConstraintKind → Given → Bool
holds of.IntLinLe g = int_le (sum_of g) (g.number 2)
holds of.IntLinEq g = int_eq (sum_of g) (g.number 2)
holds of.IntLinNe g = not (int_eq (sum_of g) (g.number 2))
holds of.IntLinLeReif g = iff (truth g 3) (int_le (sum_of g) (g.number 2))
holds of.IntLinEqReif g = iff (truth g 3) (int_eq (sum_of g) (g.number 2))
holds of.IntLinNeReif g = iff (truth g 3) (not (int_eq (sum_of g) (g.number 2)))
holds of.IntLe g = int_le (g.number 0) (g.number 1)
holds of.IntLt g = int_lt (g.number 0) (g.number 1)
holds of.IntEq g = int_eq (g.number 0) (g.number 1)
holds of.IntNe g = not (int_eq (g.number 0) (g.number 1))
holds of.IntLeReif g = iff (truth g 2) (int_le (g.number 0) (g.number 1))
holds of.IntLtReif g = iff (truth g 2) (int_lt (g.number 0) (g.number 1))
holds of.IntEqReif g = iff (truth g 2) (int_eq (g.number 0) (g.number 1))
holds of.IntNeReif g = iff (truth g 2) (not (int_eq (g.number 0) (g.number 1)))
holds of.IntPlus g = int_eq (g.number 0 +ℤ g.number 1) (g.number 2)
holds of.IntTimes g = int_eq (g.number 0 *ℤ g.number 1) (g.number 2)
holds of.IntMax g = int_eq (int_max (g.number 0) (g.number 1)) (g.number 2)
holds of.IntMin g = int_eq (int_min (g.number 0) (g.number 1)) (g.number 2)
holds of.IntAbs g = int_eq (pos (unsigned_abs (g.number 0))) (g.number 1)
holds of.Bool2Int g = int_eq (g.number 1) (g.number 0)
holds of.BoolEq g = iff (truth g 0) (truth g 1)
holds of.BoolNot g = not (iff (truth g 0) (truth g 1))
holds of.BoolXor g = xor_of g
holds of.BoolLe g = not (truth g 0) || truth g 1
holds of.BoolLt g = not (truth g 0) && truth g 1
holds of.BoolEqReif g = iff (truth g 2) (iff (truth g 0) (truth g 1))
holds of.BoolLeReif g = iff (truth g 2) (not (truth g 0) || truth g 1)
holds of.BoolLtReif g = iff (truth g 2) (not (truth g 0) && truth g 1)
holds of.BoolAnd g = iff (truth g 2) (truth g 0 && truth g 1)
holds of.BoolOr g = iff (truth g 2) (truth g 0 || truth g 1)
holds of.ArrayBoolAnd g = iff (truth g 1) (list_all is_on (g.numbers 0))
holds of.ArrayBoolOr g = iff (truth g 1) (list_any is_on (g.numbers 0))
holds of.BoolClause g = clause_of g
holds of.BoolClauseReif g = iff (truth g 2) (clause_of g)
holds of.SetIn g = is_in_set (g.set 1) (g.number 0)
holds of.SetInReif g = iff (truth g 2) (is_in_set (g.set 1) (g.number 0))
holds of.ArrayIntElement g = selection_of g
holds of.ArrayVarIntElement g = selection_of g
holds of.ArrayBoolElement g = selection_of g
holds of.ArrayVarBoolElement g = selection_of g
holds of.AllDifferentInt g = are_distinct (g.numbers 0)
holds of.FznAllDifferentInt g = are_distinct (g.numbers 0)
holds of.Cumulative g = schedule_of g
holds of.FznCumulative g = schedule_of g

-- what the constraint says of these values
abbrev pub Meaning : ConstraintKind → Given → Type 0
Meaning of.ArrayIntElement g = IsEntryAt (g.numbers 1) (g.number 0) (g.number 2)
Meaning of.ArrayVarIntElement g = IsEntryAt (g.numbers 1) (g.number 0) (g.number 2)
Meaning of.ArrayBoolElement g = IsEntryAt (g.numbers 1) (g.number 0) (g.number 2)
Meaning of.ArrayVarBoolElement g = IsEntryAt (g.numbers 1) (g.number 0) (g.number 2)
Meaning of.AllDifferentInt g = AreDistinct (g.numbers 0)
Meaning of.FznAllDifferentInt g = AreDistinct (g.numbers 0)
Meaning of.Cumulative g = KeepsCapacity (tasks_of (g.numbers 0) (g.numbers 1) (g.numbers 2)) (g.number 3)
Meaning of.FznCumulative g = KeepsCapacity (tasks_of (g.numbers 0) (g.numbers 1) (g.numbers 2)) (g.number 3)
Meaning kind g = IsTrue (holds kind g)
