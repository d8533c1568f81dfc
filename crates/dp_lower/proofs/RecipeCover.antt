-- The parts of each constraint of a model speak of its variables alone, and there are few of them: one line for each row of the table.
use Rattle.std.proofs.Common.{ℕ, Bool, true, false, List, [], ◌∷◌, length, pos, negsuc, arith}
use Rattle.std.specs.Prelude.{nat_le, if◌then◌else◌}
use Rattle.dp_base.specs.Lists.{Each}
use Rattle.dp_base.proofs.Lists.{Each-weaker}
use Rattle.dp_domain.specs.Terms.{IsTermOf, AreTermsOf}
use Rattle.dp_domain.specs.declared.term.Term.{Term}
use Rattle.dp_domain.specs.declared.term.Term.TheVariants.{Var, Const}
use Rattle.fz_model.specs.Models.{count_variables}
use Rattle.fz_model.specs.Table.{args_of}
use Rattle.fz_model.specs.declared.kinds.ConstraintKind.{ConstraintKind}
use Rattle.fz_model.specs.declared.kinds.ConstraintKind.TheVariants as of
use Rattle.fz_model.specs.declared.model.Expr.{Expr}
use Rattle.fz_model.specs.declared.model.Item.{Item}
use Rattle.fz_sat.specs.Args.{arg_term, arg_terms}
use Rattle.fz_facts.specs.Facts.{AreFew, AreFit, IsBoolTerm, IsConst, IsIntTerm}
use Rattle.dp_lower.specs.Recipe.{all_rows, any_rows, args_in, clause_row, clause_rows, difference, excess, limit, linear_sum, other_rows, recipe, rows_by, same_rows, xor_rows}
use Rattle.dp_lower.specs.Sides.{is_above, is_at_most, is_equal, is_other}
use Rattle.dp_lower.specs.Sums.{weighted}
use Rattle.dp_lower.specs.declared.literal.Literal.TheVariants.{Holds, Fails}
use Rattle.dp_lower.proofs.CoverLaws.{AreFine, AreRowsOf, IsSumOf, above_fine, absolute_fine, all_different_fine, all_rows_of, always_fine, any_rows_of, at_most_fine, clause_row_of, clause_rows_of, equal_fine, greater_fine, lesser_fine, member_fine, member_reified_fine, more_fine, multiplied_fine, nogood_fine, nogoods_fine, other_fine, other_rows_of, reified_fine, rows_by_of, same_rows_of, scheduled_fine, selected_fine, sum_of_terms, weighted_of}

-- ---- arguments

int_term : (items : List Item) (t : Term) → IsIntTerm items t → IsTermOf (count_variables items) t
int_term items (Var x) h = h.0
int_term items (Const v) h = tt

bool_term : (items : List Item) (t : Term) → IsBoolTerm items t → IsTermOf (count_variables items) t
bool_term items (Var x) h = h.0
bool_term items (Const v) h = tt

const_term : (items : List Item) (t : Term) → IsConst t → IsTermOf (count_variables items) t
const_term items (Var x) h = absurd h
const_term items (Const v) h = tt

int_terms : (items : List Item) (terms : List Term) → Each (IsIntTerm items) terms → AreTermsOf (count_variables items) terms
int_terms items terms each = Each-weaker (IsIntTerm items) (IsTermOf (count_variables items)) (int_term items) terms each

bool_terms : (items : List Item) (terms : List Term) → Each (IsBoolTerm items) terms → AreTermsOf (count_variables items) terms
bool_terms items terms each = Each-weaker (IsBoolTerm items) (IsTermOf (count_variables items)) (bool_term items) terms each

const_terms : (items : List Item) (terms : List Term) → Each IsConst terms → AreTermsOf (count_variables items) terms
const_terms items terms each = Each-weaker IsConst (IsTermOf (count_variables items)) (const_term items) terms each

-- ---- sums, and two that differ

linear_of : (items : List Item) (args : List Expr) → AreFew (IsIntTerm items) (arg_terms items args 1) → IsSumOf (count_variables items) (linear_sum (args_in items args))
linear_of items args h =
    sum_of_terms (count_variables items) (weighted (arg_terms items args 0) (arg_terms items args 1))
    (weighted_of (count_variables items) (arg_terms items args 0) (arg_terms items args 1) (int_terms items (arg_terms items args 1) h.each))

difference_of : (items : List Item) (args : List Expr) → IsIntTerm items (arg_term items args 0) → IsIntTerm items (arg_term items args 1) → IsSumOf (count_variables items) (difference (args_in items args))
difference_of items args h g =
    sum_of_terms (count_variables items) ((pos 1, arg_term items args 0) ∷ (negsuc 0, arg_term items args 1) ∷ [])
    (int_term items (arg_term items args 0) h, (int_term items (arg_term items args 1) g, tt))

excess_of : (items : List Item) (args : List Expr) → IsIntTerm items (arg_term items args 0) → IsIntTerm items (arg_term items args 1) → IsIntTerm items (arg_term items args 2) → IsSumOf (count_variables items) (excess (args_in items args))
excess_of items args h g k =
    sum_of_terms (count_variables items) ((pos 1, arg_term items args 0) ∷ (pos 1, arg_term items args 1) ∷ (negsuc 0, arg_term items args 2) ∷ [])
    (int_term items (arg_term items args 0) h, (int_term items (arg_term items args 1) g, (int_term items (arg_term items args 2) k, tt)))

xor_rows_of : (items : List Item) (args : List Expr) → IsBoolTerm items (arg_term items args 0) → IsBoolTerm items (arg_term items args 1) → IsBoolTerm items (arg_term items args 2) → AreRowsOf (count_variables items) 4 (xor_rows (args_in items args))
xor_rows_of items args h g k = by (nat_le 3 (length args))
  where
    two : AreRowsOf (count_variables items) 2 (other_rows (arg_term items args 0) (arg_term items args 1))
    two = other_rows_of (count_variables items) (arg_term items args 0) (arg_term items args 1) (bool_term items (arg_term items args 0) h) (bool_term items (arg_term items args 1) g)

    by : (b : Bool) → AreRowsOf (count_variables items) 4
        (if b then rows_by (arg_term items args 2) (other_rows (arg_term items args 0) (arg_term items args 1)) (same_rows (arg_term items args 0) (arg_term items args 1)) else other_rows (arg_term items args 0) (arg_term items args 1))
    by true =
        rows_by_of (count_variables items) 2 2 (arg_term items args 2) (other_rows (arg_term items args 0) (arg_term items args 1)) (same_rows (arg_term items args 0) (arg_term items args 1)) (bool_term items (arg_term items args 2) k) two
        (same_rows_of (count_variables items) (arg_term items args 0) (arg_term items args 1) (bool_term items (arg_term items args 0) h) (bool_term items (arg_term items args 1) g))
    by false = record { each = two.each; few = omega arith }

-- ---- the rows

-- at most so many parts of one constraint
abbrev pub most_parts : ℕ
most_parts = 5000000

pub recipe_fine : (items : List Item) (args : List Expr) (kind : ConstraintKind) → AreFit items args 0 (args_of kind) → AreFine (count_variables items) most_parts (recipe kind (args_in items args))
recipe_fine items args of.IntLinLe h =
    let n = count_variables items in let a = args_in items args in
    more_fine n 1 most_parts (recipe of.IntLinLe a) (omega arith) (always_fine n 1 (is_at_most (linear_sum a) (limit a)) (at_most_fine n (linear_sum a) (limit a) (linear_of items args h.1.0)))
recipe_fine items args of.IntLinEq h =
    let n = count_variables items in let a = args_in items args in
    more_fine n 2 most_parts (recipe of.IntLinEq a) (omega arith) (always_fine n 2 (is_equal (linear_sum a) (limit a)) (equal_fine n (linear_sum a) (limit a) (linear_of items args h.1.0)))
recipe_fine items args of.IntLinNe h =
    let n = count_variables items in let a = args_in items args in
    more_fine n 1 most_parts (recipe of.IntLinNe a) (omega arith) (always_fine n 1 (is_other (linear_sum a) (limit a)) (other_fine n (linear_sum a) (limit a) (linear_of items args h.1.0)))
recipe_fine items args of.IntLinLeReif h =
    let n = count_variables items in let a = args_in items args in
    more_fine n 2 most_parts (recipe of.IntLinLeReif a) (omega arith) (reified_fine n 1 1 (a.term 3) (is_at_most (linear_sum a) (limit a)) (is_above (linear_sum a) (limit a)) (bool_term items (a.term 3) h.1.1.1.0) (at_most_fine n (linear_sum a) (limit a) (linear_of items args h.1.0)) (above_fine n (linear_sum a) (limit a) (linear_of items args h.1.0)))
recipe_fine items args of.IntLinEqReif h =
    let n = count_variables items in let a = args_in items args in
    more_fine n 3 most_parts (recipe of.IntLinEqReif a) (omega arith) (reified_fine n 2 1 (a.term 3) (is_equal (linear_sum a) (limit a)) (is_other (linear_sum a) (limit a)) (bool_term items (a.term 3) h.1.1.1.0) (equal_fine n (linear_sum a) (limit a) (linear_of items args h.1.0)) (other_fine n (linear_sum a) (limit a) (linear_of items args h.1.0)))
recipe_fine items args of.IntLinNeReif h =
    let n = count_variables items in let a = args_in items args in
    more_fine n 3 most_parts (recipe of.IntLinNeReif a) (omega arith) (reified_fine n 1 2 (a.term 3) (is_other (linear_sum a) (limit a)) (is_equal (linear_sum a) (limit a)) (bool_term items (a.term 3) h.1.1.1.0) (other_fine n (linear_sum a) (limit a) (linear_of items args h.1.0)) (equal_fine n (linear_sum a) (limit a) (linear_of items args h.1.0)))
recipe_fine items args of.IntLe h =
    let n = count_variables items in let a = args_in items args in
    more_fine n 1 most_parts (recipe of.IntLe a) (omega arith) (always_fine n 1 (is_at_most (difference a) (pos 0)) (at_most_fine n (difference a) (pos 0) (difference_of items args h.0 h.1.0)))
recipe_fine items args of.IntLt h =
    let n = count_variables items in let a = args_in items args in
    more_fine n 1 most_parts (recipe of.IntLt a) (omega arith) (always_fine n 1 (is_at_most (difference a) (negsuc 0)) (at_most_fine n (difference a) (negsuc 0) (difference_of items args h.0 h.1.0)))
recipe_fine items args of.IntEq h =
    let n = count_variables items in let a = args_in items args in
    more_fine n 2 most_parts (recipe of.IntEq a) (omega arith) (always_fine n 2 (is_equal (difference a) (pos 0)) (equal_fine n (difference a) (pos 0) (difference_of items args h.0 h.1.0)))
recipe_fine items args of.IntNe h =
    let n = count_variables items in let a = args_in items args in
    more_fine n 1 most_parts (recipe of.IntNe a) (omega arith) (always_fine n 1 (is_other (difference a) (pos 0)) (other_fine n (difference a) (pos 0) (difference_of items args h.0 h.1.0)))
recipe_fine items args of.IntLeReif h =
    let n = count_variables items in let a = args_in items args in
    more_fine n 2 most_parts (recipe of.IntLeReif a) (omega arith) (reified_fine n 1 1 (a.term 2) (is_at_most (difference a) (pos 0)) (is_above (difference a) (pos 0)) (bool_term items (a.term 2) h.1.1.0) (at_most_fine n (difference a) (pos 0) (difference_of items args h.0 h.1.0)) (above_fine n (difference a) (pos 0) (difference_of items args h.0 h.1.0)))
recipe_fine items args of.IntLtReif h =
    let n = count_variables items in let a = args_in items args in
    more_fine n 2 most_parts (recipe of.IntLtReif a) (omega arith) (reified_fine n 1 1 (a.term 2) (is_at_most (difference a) (negsuc 0)) (is_above (difference a) (negsuc 0)) (bool_term items (a.term 2) h.1.1.0) (at_most_fine n (difference a) (negsuc 0) (difference_of items args h.0 h.1.0)) (above_fine n (difference a) (negsuc 0) (difference_of items args h.0 h.1.0)))
recipe_fine items args of.IntEqReif h =
    let n = count_variables items in let a = args_in items args in
    more_fine n 3 most_parts (recipe of.IntEqReif a) (omega arith) (reified_fine n 2 1 (a.term 2) (is_equal (difference a) (pos 0)) (is_other (difference a) (pos 0)) (bool_term items (a.term 2) h.1.1.0) (equal_fine n (difference a) (pos 0) (difference_of items args h.0 h.1.0)) (other_fine n (difference a) (pos 0) (difference_of items args h.0 h.1.0)))
recipe_fine items args of.IntNeReif h =
    let n = count_variables items in let a = args_in items args in
    more_fine n 3 most_parts (recipe of.IntNeReif a) (omega arith) (reified_fine n 1 2 (a.term 2) (is_other (difference a) (pos 0)) (is_equal (difference a) (pos 0)) (bool_term items (a.term 2) h.1.1.0) (other_fine n (difference a) (pos 0) (difference_of items args h.0 h.1.0)) (equal_fine n (difference a) (pos 0) (difference_of items args h.0 h.1.0)))
recipe_fine items args of.IntPlus h =
    let n = count_variables items in let a = args_in items args in
    more_fine n 2 most_parts (recipe of.IntPlus a) (omega arith) (always_fine n 2 (is_equal (excess a) (pos 0)) (equal_fine n (excess a) (pos 0) (excess_of items args h.0 h.1.0 h.1.1.0)))
recipe_fine items args of.IntTimes h =
    let n = count_variables items in let a = args_in items args in
    more_fine n 1 most_parts (recipe of.IntTimes a) (omega arith) (multiplied_fine n (a.term 0) (a.term 1) (a.term 2) (int_term items (a.term 0) h.0) (int_term items (a.term 1) h.1.0) (int_term items (a.term 2) h.1.1.0))
recipe_fine items args of.IntMax h =
    let n = count_variables items in let a = args_in items args in
    more_fine n 1 most_parts (recipe of.IntMax a) (omega arith) (greater_fine n (a.term 0) (a.term 1) (a.term 2) (int_term items (a.term 0) h.0) (int_term items (a.term 1) h.1.0) (int_term items (a.term 2) h.1.1.0))
recipe_fine items args of.IntMin h =
    let n = count_variables items in let a = args_in items args in
    more_fine n 1 most_parts (recipe of.IntMin a) (omega arith) (lesser_fine n (a.term 0) (a.term 1) (a.term 2) (int_term items (a.term 0) h.0) (int_term items (a.term 1) h.1.0) (int_term items (a.term 2) h.1.1.0))
recipe_fine items args of.IntAbs h =
    let n = count_variables items in let a = args_in items args in
    more_fine n 1 most_parts (recipe of.IntAbs a) (omega arith) (absolute_fine n (a.term 0) (a.term 1) (int_term items (a.term 0) h.0) (int_term items (a.term 1) h.1.0))
recipe_fine items args of.Bool2Int h =
    let n = count_variables items in let a = args_in items args in
    more_fine n 2 most_parts (recipe of.Bool2Int a) (omega arith) (always_fine n 2 (is_equal (difference a) (pos 0)) (equal_fine n (difference a) (pos 0) (sum_of_terms n ((pos 1, a.term 0) ∷ (negsuc 0, a.term 1) ∷ []) (bool_term items (a.term 0) h.0, (int_term items (a.term 1) h.1.0, tt)))))
recipe_fine items args of.BoolEq h =
    let n = count_variables items in let a = args_in items args in
    more_fine n 2 most_parts (recipe of.BoolEq a) (omega arith) (nogoods_fine n 2 (same_rows (a.term 0) (a.term 1)) (same_rows_of n (a.term 0) (a.term 1) (bool_term items (a.term 0) h.0) (bool_term items (a.term 1) h.1.0)))
recipe_fine items args of.BoolNot h =
    let n = count_variables items in let a = args_in items args in
    more_fine n 2 most_parts (recipe of.BoolNot a) (omega arith) (nogoods_fine n 2 (other_rows (a.term 0) (a.term 1)) (other_rows_of n (a.term 0) (a.term 1) (bool_term items (a.term 0) h.0) (bool_term items (a.term 1) h.1.0)))
recipe_fine items args of.BoolXor h =
    let n = count_variables items in let a = args_in items args in
    more_fine n 4 most_parts (recipe of.BoolXor a) (omega arith) (nogoods_fine n 4 (xor_rows a) (xor_rows_of items args h.0 h.1.0 h.1.1.0))
recipe_fine items args of.BoolLe h =
    let n = count_variables items in let a = args_in items args in
    more_fine n 1 most_parts (recipe of.BoolLe a) (omega arith) (nogoods_fine n 1 ((Holds (a.term 0) ∷ Fails (a.term 1) ∷ []) ∷ []) (record { each = (((bool_term items (a.term 0) h.0), ((bool_term items (a.term 1) h.1.0), tt)), tt); few = omega arith }))
recipe_fine items args of.BoolLt h =
    let n = count_variables items in let a = args_in items args in
    more_fine n 2 most_parts (recipe of.BoolLt a) (omega arith) (nogoods_fine n 2 ((Holds (a.term 0) ∷ []) ∷ (Fails (a.term 1) ∷ []) ∷ []) (record { each = (((bool_term items (a.term 0) h.0), tt), (((bool_term items (a.term 1) h.1.0), tt), tt)); few = omega arith }))
recipe_fine items args of.BoolEqReif h =
    let n = count_variables items in let a = args_in items args in
    more_fine n 4 most_parts (recipe of.BoolEqReif a) (omega arith) (nogoods_fine n 4 (rows_by (a.term 2) (same_rows (a.term 0) (a.term 1)) (other_rows (a.term 0) (a.term 1))) (rows_by_of n 2 2 (a.term 2) (same_rows (a.term 0) (a.term 1)) (other_rows (a.term 0) (a.term 1)) (bool_term items (a.term 2) h.1.1.0) (same_rows_of n (a.term 0) (a.term 1) (bool_term items (a.term 0) h.0) (bool_term items (a.term 1) h.1.0)) (other_rows_of n (a.term 0) (a.term 1) (bool_term items (a.term 0) h.0) (bool_term items (a.term 1) h.1.0))))
recipe_fine items args of.BoolLeReif h =
    let n = count_variables items in let a = args_in items args in
    more_fine n 3 most_parts (recipe of.BoolLeReif a) (omega arith) (nogoods_fine n 3 (rows_by (a.term 2) ((Holds (a.term 0) ∷ Fails (a.term 1) ∷ []) ∷ []) ((Fails (a.term 0) ∷ []) ∷ (Holds (a.term 1) ∷ []) ∷ [])) (rows_by_of n 1 2 (a.term 2) ((Holds (a.term 0) ∷ Fails (a.term 1) ∷ []) ∷ []) ((Fails (a.term 0) ∷ []) ∷ (Holds (a.term 1) ∷ []) ∷ []) (bool_term items (a.term 2) h.1.1.0) (record { each = (((bool_term items (a.term 0) h.0), ((bool_term items (a.term 1) h.1.0), tt)), tt); few = omega arith }) (record { each = (((bool_term items (a.term 0) h.0), tt), (((bool_term items (a.term 1) h.1.0), tt), tt)); few = omega arith })))
recipe_fine items args of.BoolLtReif h =
    let n = count_variables items in let a = args_in items args in
    more_fine n 3 most_parts (recipe of.BoolLtReif a) (omega arith) (nogoods_fine n 3 (rows_by (a.term 2) ((Holds (a.term 0) ∷ []) ∷ (Fails (a.term 1) ∷ []) ∷ []) ((Fails (a.term 0) ∷ Holds (a.term 1) ∷ []) ∷ [])) (rows_by_of n 2 1 (a.term 2) ((Holds (a.term 0) ∷ []) ∷ (Fails (a.term 1) ∷ []) ∷ []) ((Fails (a.term 0) ∷ Holds (a.term 1) ∷ []) ∷ []) (bool_term items (a.term 2) h.1.1.0) (record { each = (((bool_term items (a.term 0) h.0), tt), (((bool_term items (a.term 1) h.1.0), tt), tt)); few = omega arith }) (record { each = (((bool_term items (a.term 0) h.0), ((bool_term items (a.term 1) h.1.0), tt)), tt); few = omega arith })))
recipe_fine items args of.BoolAnd h =
    let n = count_variables items in let a = args_in items args in
    more_fine n 3 most_parts (recipe of.BoolAnd a) (omega arith) (nogoods_fine n 3 (all_rows (a.term 0 ∷ a.term 1 ∷ []) (a.term 2)) (all_rows_of n 2 (a.term 0 ∷ a.term 1 ∷ []) (a.term 2) ((bool_term items (a.term 0) h.0), ((bool_term items (a.term 1) h.1.0), tt)) (omega arith) (bool_term items (a.term 2) h.1.1.0)))
recipe_fine items args of.BoolOr h =
    let n = count_variables items in let a = args_in items args in
    more_fine n 3 most_parts (recipe of.BoolOr a) (omega arith) (nogoods_fine n 3 (any_rows (a.term 0 ∷ a.term 1 ∷ []) (a.term 2)) (any_rows_of n 2 (a.term 0 ∷ a.term 1 ∷ []) (a.term 2) ((bool_term items (a.term 0) h.0), ((bool_term items (a.term 1) h.1.0), tt)) (omega arith) (bool_term items (a.term 2) h.1.1.0)))
recipe_fine items args of.ArrayBoolAnd h =
    let n = count_variables items in let a = args_in items args in
    more_fine n 2000001 most_parts (recipe of.ArrayBoolAnd a) (omega arith) (nogoods_fine n 2000001 (all_rows (a.terms 0) (a.term 1)) (all_rows_of n 2000000 (a.terms 0) (a.term 1) (bool_terms items (a.terms 0) h.0.each) h.0.few (bool_term items (a.term 1) h.1.0)))
recipe_fine items args of.ArrayBoolOr h =
    let n = count_variables items in let a = args_in items args in
    more_fine n 2000001 most_parts (recipe of.ArrayBoolOr a) (omega arith) (nogoods_fine n 2000001 (any_rows (a.terms 0) (a.term 1)) (any_rows_of n 2000000 (a.terms 0) (a.term 1) (bool_terms items (a.terms 0) h.0.each) h.0.few (bool_term items (a.term 1) h.1.0)))
recipe_fine items args of.BoolClause h =
    let n = count_variables items in let a = args_in items args in
    more_fine n 1 most_parts (recipe of.BoolClause a) (omega arith) (nogood_fine n (clause_row (a.terms 0) (a.terms 1)) (clause_row_of n (a.terms 0) (a.terms 1) (bool_terms items (a.terms 0) h.0.each) (bool_terms items (a.terms 1) h.1.0.each)))
recipe_fine items args of.BoolClauseReif h =
    let n = count_variables items in let a = args_in items args in
    more_fine n 4000001 most_parts (recipe of.BoolClauseReif a) (omega arith) (nogoods_fine n 4000001 (clause_rows (a.terms 0) (a.terms 1) (a.term 2)) (clause_rows_of n 2000000 2000000 (a.terms 0) (a.terms 1) (a.term 2) (bool_terms items (a.terms 0) h.0.each) h.0.few (bool_terms items (a.terms 1) h.1.0.each) h.1.0.few (bool_term items (a.term 2) h.1.1.0)))
recipe_fine items args of.SetIn h =
    let n = count_variables items in let a = args_in items args in
    more_fine n 1 most_parts (recipe of.SetIn a) (omega arith) (member_fine n (a.term 0) (a.set 1) (int_term items (a.term 0) h.0))
recipe_fine items args of.SetInReif h =
    let n = count_variables items in let a = args_in items args in
    more_fine n 2 most_parts (recipe of.SetInReif a) (omega arith) (member_reified_fine n (a.term 0) (a.set 1) (a.term 2) (int_term items (a.term 0) h.0) (bool_term items (a.term 2) h.1.1.0))
recipe_fine items args of.ArrayIntElement h =
    let n = count_variables items in let a = args_in items args in
    more_fine n 1 most_parts (recipe of.ArrayIntElement a) (omega arith) (selected_fine n (a.term 0) (a.terms 1) (a.term 2) (int_term items (a.term 0) h.0) (const_terms items (a.terms 1) h.1.0.each) (int_term items (a.term 2) h.1.1.0))
recipe_fine items args of.ArrayVarIntElement h =
    let n = count_variables items in let a = args_in items args in
    more_fine n 1 most_parts (recipe of.ArrayVarIntElement a) (omega arith) (selected_fine n (a.term 0) (a.terms 1) (a.term 2) (int_term items (a.term 0) h.0) (int_terms items (a.terms 1) h.1.0.each) (int_term items (a.term 2) h.1.1.0))
recipe_fine items args of.ArrayBoolElement h =
    let n = count_variables items in let a = args_in items args in
    more_fine n 1 most_parts (recipe of.ArrayBoolElement a) (omega arith) (selected_fine n (a.term 0) (a.terms 1) (a.term 2) (int_term items (a.term 0) h.0) (const_terms items (a.terms 1) h.1.0.each) (bool_term items (a.term 2) h.1.1.0))
recipe_fine items args of.ArrayVarBoolElement h =
    let n = count_variables items in let a = args_in items args in
    more_fine n 1 most_parts (recipe of.ArrayVarBoolElement a) (omega arith) (selected_fine n (a.term 0) (a.terms 1) (a.term 2) (int_term items (a.term 0) h.0) (bool_terms items (a.terms 1) h.1.0.each) (bool_term items (a.term 2) h.1.1.0))
recipe_fine items args of.AllDifferentInt h =
    let n = count_variables items in let a = args_in items args in
    more_fine n 1 most_parts (recipe of.AllDifferentInt a) (omega arith) (all_different_fine n (a.terms 0) (int_terms items (a.terms 0) h.0.each))
recipe_fine items args of.FznAllDifferentInt h =
    let n = count_variables items in let a = args_in items args in
    more_fine n 1 most_parts (recipe of.FznAllDifferentInt a) (omega arith) (all_different_fine n (a.terms 0) (int_terms items (a.terms 0) h.0.each))
recipe_fine items args of.Cumulative h =
    let n = count_variables items in let a = args_in items args in
    more_fine n 1 most_parts (recipe of.Cumulative a) (omega arith) (scheduled_fine n (a.terms 0) (a.terms 1) (a.terms 2) (a.term 3) (int_terms items (a.terms 0) h.0.each))
recipe_fine items args of.FznCumulative h =
    let n = count_variables items in let a = args_in items args in
    more_fine n 1 most_parts (recipe of.FznCumulative a) (omega arith) (scheduled_fine n (a.terms 0) (a.terms 1) (a.terms 2) (a.term 3) (int_terms items (a.terms 0) h.0.each))
