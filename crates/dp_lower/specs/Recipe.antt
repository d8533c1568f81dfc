-- The table: the parts of each kind of constraint, in order.
use Rattle.std.specs.Prelude.{ℕ, nat_le, if◌then◌else◌, List, [], ◌∷◌, ◌++◌, length, map, ℤ, pos, negsuc}
use Rattle.dp_domain.specs.declared.term.Term.{Term}
use Rattle.dp_domain.specs.declared.term.Term.TheVariants.{Var, Const}
use Rattle.dp_parts.specs.declared.part.Part.{Part}
use Rattle.fz_model.specs.declared.kinds.ConstraintKind.{ConstraintKind}
use Rattle.fz_model.specs.declared.kinds.ConstraintKind.TheVariants as of
use Rattle.fz_model.specs.declared.model.Expr.{Expr}
use Rattle.fz_model.specs.declared.model.Item.{Item}
use Rattle.fz_model.specs.declared.model.SetText.{SetText}
use Rattle.fz_sat.specs.Args.{arg_set, arg_term, arg_terms, is_in_set}
use Rattle.dp_lower.specs.Arithmetic.{absolute_is, greater_is, lesser_is, multiplied}
use Rattle.dp_lower.specs.Globals.{all_different, scheduled, selected}
use Rattle.dp_lower.specs.Sides.{always, is_above, is_at_most, is_equal, is_member, is_no_member, is_other, nogood, nogoods, reified}
use Rattle.dp_lower.specs.Sums.{Sum, number_in, sum_of, weighted}
use Rattle.dp_lower.specs.declared.literal.Literal.{Literal}
use Rattle.dp_lower.specs.declared.literal.Literal.TheVariants.{Holds, Fails}

-- the arguments of a constraint, each by its place from 0, and how many there are
pub record Args : Type 0 where
  pub term : ℕ → Term
  pub terms : ℕ → List Term
  pub set : ℕ → SetText
  pub count : ℕ

-- those of these arguments
abbrev pub args_in : List Item → List Expr → Args
args_in items args = record { term = arg_term items args; terms = arg_terms items args; set = arg_set items args; count = length args }

-- ---- sums and sets

-- the sum of a linear constraint
abbrev pub linear_sum : Args → Sum
linear_sum a = sum_of (weighted (a.terms 0) (a.terms 1))

-- what it is compared with
abbrev pub limit : Args → ℤ
limit a = number_in (a.term 2)

-- the first argument less the second
abbrev pub difference : Args → Sum
difference a = sum_of ((pos 1, a.term 0) ∷ (negsuc 0, a.term 1) ∷ [])

-- the two first arguments less the third
abbrev pub excess : Args → Sum
excess a = sum_of ((pos 1, a.term 0) ∷ (pos 1, a.term 1) ∷ (negsuc 0, a.term 2) ∷ [])

-- the term is in the set
abbrev pub member : Term → SetText → List Part
member (Var x) set = always (is_member x set)
member (Const v) set = if is_in_set set v then [] else nogood []

-- r says whether the term is in the set
abbrev pub member_reified : Term → SetText → Term → List Part
member_reified (Var x) set r = reified r (is_member x set) (is_no_member x set)
member_reified (Const v) set r = if is_in_set set v then nogood (Fails r ∷ []) else nogood (Holds r ∷ [])

-- ---- Booleans

-- both hold or both fail
abbrev pub same_rows : Term → Term → List (List Literal)
same_rows a b = (Holds a ∷ Fails b ∷ []) ∷ (Fails a ∷ Holds b ∷ []) ∷ []

-- one holds and one fails
abbrev pub other_rows : Term → Term → List (List Literal)
other_rows a b = (Holds a ∷ Holds b ∷ []) ∷ (Fails a ∷ Fails b ∷ []) ∷ []

-- the rows where r holds, and those where it fails
abbrev pub rows_by : Term → List (List Literal) → List (List Literal) → List (List Literal)
rows_by r rows others = map (λ row. Holds r ∷ row) rows ++ map (λ row. Fails r ∷ row) others

-- r holds exactly where all of these hold
abbrev pub all_rows : List Term → Term → List (List Literal)
all_rows terms r = map (λ a. Holds r ∷ Fails a ∷ []) terms ++ (Fails r ∷ map Holds terms) ∷ []

-- r holds exactly where some of these hold
abbrev pub any_rows : List Term → Term → List (List Literal)
any_rows terms r = map (λ a. Fails r ∷ Holds a ∷ []) terms ++ (Holds r ∷ map Fails terms) ∷ []

-- not all of the first fail while all of the second hold
abbrev pub clause_row : List Term → List Term → List Literal
clause_row terms others = map Fails terms ++ map Holds others

-- r holds exactly where the clause does
abbrev pub clause_rows : List Term → List Term → Term → List (List Literal)
clause_rows terms others r =
    (Holds r ∷ clause_row terms others) ∷ map (λ a. Fails r ∷ Holds a ∷ []) terms ++ map (λ b. Fails r ∷ Fails b ∷ []) others

-- the two differ; where there is a third, it says whether they do
abbrev pub xor_rows : Args → List (List Literal)
xor_rows a = if nat_le 3 a.count then rows_by (a.term 2) (other_rows (a.term 0) (a.term 1)) (same_rows (a.term 0) (a.term 1)) else other_rows (a.term 0) (a.term 1)

-- ---- the table

-- the parts of a constraint of these arguments
abbrev pub recipe : ConstraintKind → Args → List Part
recipe of.IntLinLe a = always (is_at_most (linear_sum a) (limit a))
recipe of.IntLinEq a = always (is_equal (linear_sum a) (limit a))
recipe of.IntLinNe a = always (is_other (linear_sum a) (limit a))
recipe of.IntLinLeReif a = reified (a.term 3) (is_at_most (linear_sum a) (limit a)) (is_above (linear_sum a) (limit a))
recipe of.IntLinEqReif a = reified (a.term 3) (is_equal (linear_sum a) (limit a)) (is_other (linear_sum a) (limit a))
recipe of.IntLinNeReif a = reified (a.term 3) (is_other (linear_sum a) (limit a)) (is_equal (linear_sum a) (limit a))
recipe of.IntLe a = always (is_at_most (difference a) (pos 0))
recipe of.IntLt a = always (is_at_most (difference a) (negsuc 0))
recipe of.IntEq a = always (is_equal (difference a) (pos 0))
recipe of.IntNe a = always (is_other (difference a) (pos 0))
recipe of.IntLeReif a = reified (a.term 2) (is_at_most (difference a) (pos 0)) (is_above (difference a) (pos 0))
recipe of.IntLtReif a = reified (a.term 2) (is_at_most (difference a) (negsuc 0)) (is_above (difference a) (negsuc 0))
recipe of.IntEqReif a = reified (a.term 2) (is_equal (difference a) (pos 0)) (is_other (difference a) (pos 0))
recipe of.IntNeReif a = reified (a.term 2) (is_other (difference a) (pos 0)) (is_equal (difference a) (pos 0))
recipe of.IntPlus a = always (is_equal (excess a) (pos 0))
recipe of.IntTimes a = multiplied (a.term 0) (a.term 1) (a.term 2)
recipe of.IntMax a = greater_is (a.term 0) (a.term 1) (a.term 2)
recipe of.IntMin a = lesser_is (a.term 0) (a.term 1) (a.term 2)
recipe of.IntAbs a = absolute_is (a.term 0) (a.term 1)
recipe of.Bool2Int a = always (is_equal (difference a) (pos 0))
recipe of.BoolEq a = nogoods (same_rows (a.term 0) (a.term 1))
recipe of.BoolNot a = nogoods (other_rows (a.term 0) (a.term 1))
recipe of.BoolXor a = nogoods (xor_rows a)
recipe of.BoolLe a = nogoods ((Holds (a.term 0) ∷ Fails (a.term 1) ∷ []) ∷ [])
recipe of.BoolLt a = nogoods ((Holds (a.term 0) ∷ []) ∷ (Fails (a.term 1) ∷ []) ∷ [])
recipe of.BoolEqReif a = nogoods (rows_by (a.term 2) (same_rows (a.term 0) (a.term 1)) (other_rows (a.term 0) (a.term 1)))
recipe of.BoolLeReif a =
    nogoods (rows_by (a.term 2) ((Holds (a.term 0) ∷ Fails (a.term 1) ∷ []) ∷ []) ((Fails (a.term 0) ∷ []) ∷ (Holds (a.term 1) ∷ []) ∷ []))
recipe of.BoolLtReif a =
    nogoods (rows_by (a.term 2) ((Holds (a.term 0) ∷ []) ∷ (Fails (a.term 1) ∷ []) ∷ []) ((Fails (a.term 0) ∷ Holds (a.term 1) ∷ []) ∷ []))
recipe of.BoolAnd a = nogoods (all_rows (a.term 0 ∷ a.term 1 ∷ []) (a.term 2))
recipe of.BoolOr a = nogoods (any_rows (a.term 0 ∷ a.term 1 ∷ []) (a.term 2))
recipe of.ArrayBoolAnd a = nogoods (all_rows (a.terms 0) (a.term 1))
recipe of.ArrayBoolOr a = nogoods (any_rows (a.terms 0) (a.term 1))
recipe of.BoolClause a = nogood (clause_row (a.terms 0) (a.terms 1))
recipe of.BoolClauseReif a = nogoods (clause_rows (a.terms 0) (a.terms 1) (a.term 2))
recipe of.SetIn a = member (a.term 0) (a.set 1)
recipe of.SetInReif a = member_reified (a.term 0) (a.set 1) (a.term 2)
recipe of.ArrayIntElement a = selected (a.term 0) (a.terms 1) (a.term 2)
recipe of.ArrayVarIntElement a = selected (a.term 0) (a.terms 1) (a.term 2)
recipe of.ArrayBoolElement a = selected (a.term 0) (a.terms 1) (a.term 2)
recipe of.ArrayVarBoolElement a = selected (a.term 0) (a.terms 1) (a.term 2)
recipe of.AllDifferentInt a = all_different (a.terms 0)
recipe of.FznAllDifferentInt a = all_different (a.terms 0)
recipe of.Cumulative a = scheduled (a.terms 0) (a.terms 1) (a.terms 2) (a.term 3)
recipe of.FznCumulative a = scheduled (a.terms 0) (a.terms 1) (a.terms 2) (a.term 3)
