-- What the parts of each kind of constraint say: one line for each row of the table.
use Rattle.std.proofs.Common.{◌≡◌, ℕ, Bool, true, false, List, [], ◌∷◌, map, ℤ, pos, negsuc, ◌+ℤ◌, ◌-ℤ◌, ◌*ℤ◌, ◌≤ℤ◌, refl, sym, ◌∙◌, ap, arith}
use Rattle.std.specs.Prelude.{◌↔◌, nat_le, not, ◌&&◌, ◌||◌, int_le, int_lt, unsigned_abs}
use Rattle.std.specs.Int.{int_max, int_min}
use Rattle.std.specs.List.{list_all}
use Rattle.std.specs.Ordering.{int_eq}
use Rattle.std.proofs.lemmas.Int.{ints}
use Rattle.std.proofs.lemmas.Bool.{both_ways}
use Rattle.std.proofs.lemmas.Bool.Decides.{Decides-at, Decides-int_eq, same_from_decides}
use Rattle.dp_base.specs.Lists.{Each}
use Rattle.dp_base.proofs.Lists.{Each-weaker}
use Rattle.dp_domain.specs.Sets.{IsSmall}
use Rattle.dp_domain.specs.Terms.{term_at}
use Rattle.dp_domain.specs.declared.term.Term.{Term}
use Rattle.dp_domain.specs.declared.term.Term.TheVariants.{Var, Const}
use Rattle.dp_domain.proofs.AtomLaws.{le-from_test, test-from_le, test-from_lt}
use Rattle.dp_parts.specs.declared.part.Part.{Part}
use Rattle.dp_parts.specs.declared.part.Part.TheVariants.{Times, Greatest, Least, Absolute}
use Rattle.fz_model.specs.declared.kinds.ConstraintKind.{ConstraintKind}
use Rattle.fz_model.specs.declared.kinds.ConstraintKind.TheVariants as of
use Rattle.fz_model.specs.declared.model.SetText.{SetText}
use Rattle.fz_sat.specs.Args.{is_in_set}
use Rattle.fz_sat.specs.Globals.{weighted_sum}
use Rattle.fz_sat.specs.Meaning.{Given, Meaning, holds, iff, is_on}
use Rattle.fz_facts.specs.Facts.{IsAmountConst, IsConst, IsSmallConst}
use Rattle.dp_lower.specs.Recipe.{Args, all_rows, any_rows, clause_row, clause_rows, difference, excess, limit, linear_sum, member, member_reified, other_rows, recipe, rows_by, same_rows, xor_rows}
use Rattle.dp_lower.specs.Sides.{Side, is_above, is_at_most, is_equal, is_member, is_no_member, is_other}
use Rattle.dp_lower.specs.Sums.{weighted}
use Rattle.dp_lower.specs.declared.literal.Literal.TheVariants.{Holds, Fails}
use Rattle.dp_lower.proofs.BoolRows.{all_rows_say, any_rows_say, clause_rows_say, clause_says, le_row, lt_row, not_le_row, not_lt_row, not_other_row, other_row, rows_by_say, same_row}
use Rattle.dp_lower.proofs.GlobalLaws.{all_different_means, scheduled_means, selected_means}
use Rattle.dp_lower.proofs.SideLaws.{AreMet, Say, SaysSide, above_says, always_says, at_most_says, equal_says, nogood_says, nogoods_say, not_all, one_part, other_says, passes_says, reified_says}
use Rattle.dp_lower.proofs.SumLaws.{const_value, value-sum_of, value_at, worth-weighted}

-- ---- sums

small_const : (t : Term) → IsSmallConst t → IsConst t
small_const (Const v) h = tt
small_const (Var x) h = absurd h

linear_value : (s : ℕ → ℤ) (a : Args) → Each IsSmallConst (a.terms 0) → value_at s (linear_sum a) ≡ weighted_sum (map (term_at s) (a.terms 0)) (map (term_at s) (a.terms 1))
linear_value s a each = value-sum_of s (weighted (a.terms 0) (a.terms 1)) ∙ worth-weighted s (a.terms 0) (a.terms 1) (Each-weaker IsSmallConst IsConst small_const (a.terms 0) each)

difference_value : (s : ℕ → ℤ) (a : Args) → value_at s (difference a) ≡ term_at s (a.term 0) -ℤ term_at s (a.term 1)
difference_value s a = value-sum_of s ((pos 1, a.term 0) ∷ (negsuc 0, a.term 1) ∷ []) ∙ less (term_at s (a.term 0)) (term_at s (a.term 1))
  where
    less : (x y : ℤ) → (pos 1 *ℤ x) +ℤ ((negsuc 0 *ℤ y) +ℤ pos 0) ≡ x -ℤ y
    less x y = omega (arith, ints)

excess_value : (s : ℕ → ℤ) (a : Args) → value_at s (excess a) ≡ (term_at s (a.term 0) +ℤ term_at s (a.term 1)) -ℤ term_at s (a.term 2)
excess_value s a = value-sum_of s ((pos 1, a.term 0) ∷ (pos 1, a.term 1) ∷ (negsuc 0, a.term 2) ∷ []) ∙ less (term_at s (a.term 0)) (term_at s (a.term 1)) (term_at s (a.term 2))
  where
    less : (x y z : ℤ) → (pos 1 *ℤ x) +ℤ ((pos 1 *ℤ y) +ℤ ((negsuc 0 *ℤ z) +ℤ pos 0)) ≡ (x +ℤ y) -ℤ z
    less x y z = omega (arith, ints)

-- ---- tests of differences

le_less : (x y d : ℤ) → d ≡ x -ℤ y → int_le x y ≡ int_le d (pos 0)
le_less x y d e = same_from_decides (int_le x y) (int_le d (pos 0)) (
  λ t. let h = le-from_test x y t in let goal : d ≤ℤ pos 0 = omega (arith, ints) in goal,
  λ h. test-from_le x y (omega (arith, ints)),
) (le-from_test d (pos 0), test-from_le d (pos 0))

lt_less : (x y d : ℤ) → d ≡ x -ℤ y → int_lt x y ≡ int_le d (negsuc 0)
lt_less x y d e = by (int_lt x y) refl
  where
    by : (b : Bool) → int_lt x y ≡ b → b ≡ int_le d (negsuc 0)
    by true t = sym (test-from_le d (negsuc 0) (omega (arith, ints)))
    by false t = sym (test-from_lt d (negsuc 0) (omega (arith, ints)))

eq_less : (x y d : ℤ) → d ≡ x -ℤ y → int_eq x y ≡ int_eq d (pos 0)
eq_less x y d e = same_from_decides (int_eq x y) (int_eq d (pos 0)) (
  λ t. let h = (Decides-int_eq x y).0 t in let goal : d ≡ pos 0 = omega (arith, ints) in goal,
  λ h. (Decides-int_eq x y).1 (omega (arith, ints)),
) (Decides-int_eq d (pos 0))

eq_more : (x y d : ℤ) → d ≡ y -ℤ x → int_eq x y ≡ int_eq d (pos 0)
eq_more x y d e = same_from_decides (int_eq x y) (int_eq d (pos 0)) (
  λ t. let h = (Decides-int_eq x y).0 t in let goal : d ≡ pos 0 = omega (arith, ints) in goal,
  λ h. (Decides-int_eq x y).1 (omega (arith, ints)),
) (Decides-int_eq d (pos 0))

-- ---- sets

-- the term is within ±10^9, where it is a variable
abbrev pub IsSmallAt : (ℕ → ℤ) → Term → Type 0
IsSmallAt s (Var x) = IsSmall (s x)
IsSmallAt s (Const v) = Unit {0}

member_says : (s : ℕ → ℤ) (t : Term) (set : SetText) → IsSmallAt s t → Say s (member t set) (is_in_set set (term_at s t))
member_says s (Var x) set small = always_says s (is_member x set) (is_in_set set (s x)) (passes_says s x (is_in_set set) small)
member_says s (Const v) set small = by (is_in_set set v) refl
  where
    by : (b : Bool) → is_in_set set v ≡ b → Say s (member (Const v) set) b
    by true e = rw e (λ t. tt, λ h. refl)
    by false e = rw e (nogood_says s [])

member_reified_says : (s : ℕ → ℤ) (t : Term) (set : SetText) (r : Term) → IsSmallAt s t → Say s (member_reified t set r) (iff (is_on (term_at s r)) (is_in_set set (term_at s t)))
member_reified_says s (Var x) set r small =
    reified_says s r (is_member x set) (is_no_member x set) (is_in_set set (s x)) (passes_says s x (is_in_set set) small) (passes_says s x (λ v. not (is_in_set set v)) small)
member_reified_says s (Const v) set r small = by (is_in_set set v) refl
  where
    on_row : (o : Bool) → iff o true ≡ not (not o && true)
    on_row true = refl
    on_row false = refl

    off_row : (o : Bool) → iff o false ≡ not (o && true)
    off_row true = refl
    off_row false = refl

    by : (b : Bool) → is_in_set set v ≡ b → Say s (member_reified (Const v) set r) (iff (is_on (term_at s r)) b)
    by true e = rw e (Decides-at (iff (is_on (term_at s r)) true) (not_all s (Fails r ∷ [])) (on_row (is_on (term_at s r))) (nogood_says s (Fails r ∷ [])))
    by false e = rw e (Decides-at (iff (is_on (term_at s r)) false) (not_all s (Holds r ∷ [])) (off_row (is_on (term_at s r))) (nogood_says s (Holds r ∷ [])))

-- ---- the rows

-- the values of the arguments
abbrev pub given_at : (ℕ → ℤ) → Args → Given
given_at s a = record { number = λ k. term_at s (a.term k); numbers = λ k. map (term_at s) (a.terms k); set = a.set; count = a.count }

-- the durations, the uses and the capacity in the arguments of a schedule are numbers from 0 to 10^9
pub record AreAmounts (a : Args) : Type 0 where
  pub durations : Each IsAmountConst (a.terms 1)
  pub uses : Each IsAmountConst (a.terms 2)
  pub capacity : IsAmountConst (a.term 3)

-- what the row rests on: constant coefficients and limits, a small variable in a set, and amounts of tasks
abbrev pub Rests : (ℕ → ℤ) → ConstraintKind → Args → Type 0
Rests s of.IntLinLe a = Each IsSmallConst (a.terms 0) × IsConst (a.term 2)
Rests s of.IntLinEq a = Each IsSmallConst (a.terms 0) × IsConst (a.term 2)
Rests s of.IntLinNe a = Each IsSmallConst (a.terms 0) × IsConst (a.term 2)
Rests s of.IntLinLeReif a = Each IsSmallConst (a.terms 0) × IsConst (a.term 2)
Rests s of.IntLinEqReif a = Each IsSmallConst (a.terms 0) × IsConst (a.term 2)
Rests s of.IntLinNeReif a = Each IsSmallConst (a.terms 0) × IsConst (a.term 2)
Rests s of.SetIn a = IsSmallAt s (a.term 0)
Rests s of.SetInReif a = IsSmallAt s (a.term 0)
Rests s of.Cumulative a = AreAmounts a
Rests s of.FznCumulative a = AreAmounts a
Rests s _ a = Unit {0}

-- whether the meaning of the kind is its test
abbrev pub is_tested : ConstraintKind → Bool
is_tested of.ArrayIntElement = false
is_tested of.ArrayVarIntElement = false
is_tested of.ArrayBoolElement = false
is_tested of.ArrayVarBoolElement = false
is_tested of.AllDifferentInt = false
is_tested of.FznAllDifferentInt = false
is_tested of.Cumulative = false
is_tested of.FznCumulative = false
is_tested _ = true

-- the sum, and the limit, as the meaning has them
linear_at_most : (s : ℕ → ℤ) (a : Args) → Each IsSmallConst (a.terms 0) × IsConst (a.term 2) →
    int_le (weighted_sum (map (term_at s) (a.terms 0)) (map (term_at s) (a.terms 1))) (term_at s (a.term 2)) ≡ int_le (value_at s (linear_sum a)) (limit a)
linear_at_most s a h = ap (λ v. int_le v (term_at s (a.term 2))) (sym (linear_value s a h.0)) ∙ ap (λ k. int_le (value_at s (linear_sum a)) k) (sym (const_value s (a.term 2) h.1))

linear_equal : (s : ℕ → ℤ) (a : Args) → Each IsSmallConst (a.terms 0) × IsConst (a.term 2) →
    int_eq (weighted_sum (map (term_at s) (a.terms 0)) (map (term_at s) (a.terms 1))) (term_at s (a.term 2)) ≡ int_eq (value_at s (linear_sum a)) (limit a)
linear_equal s a h = ap (λ v. int_eq v (term_at s (a.term 2))) (sym (linear_value s a h.0)) ∙ ap (λ k. int_eq (value_at s (linear_sum a)) k) (sym (const_value s (a.term 2) h.1))

-- what is said of one test is said of another that is equal
said : (s : ℕ → ℤ) (parts : List Part) (b c : Bool) → b ≡ c → Say s parts c → Say s parts b
said s parts b c e says = Decides-at b c e says

plus_eq : (x y z d : ℤ) → d ≡ (x +ℤ y) -ℤ z → int_eq (x +ℤ y) z ≡ int_eq d (pos 0)
plus_eq x y z d e = eq_less (x +ℤ y) z d e

not_not : (b : Bool) → b ≡ not (not b)
not_not true = refl
not_not false = refl

xor_says : (s : ℕ → ℤ) (a : Args) (b : Bool) → nat_le 3 a.count ≡ b → holds of.BoolXor (given_at s a) ≡ list_all (not_all s) (xor_rows a)
xor_says s a true e =
    rw e (rows_by_say s (a.term 2) (other_rows (a.term 0) (a.term 1)) (same_rows (a.term 0) (a.term 1)) (not (iff (is_on (term_at s (a.term 0))) (is_on (term_at s (a.term 1)))))
    (other_row (is_on (term_at s (a.term 0))) (is_on (term_at s (a.term 1)))) (not_other_row (is_on (term_at s (a.term 0))) (is_on (term_at s (a.term 1)))))
xor_says s a false e = rw e (other_row (is_on (term_at s (a.term 0))) (is_on (term_at s (a.term 1))))

two_and : (a b : Bool) → (a && b) ≡ (a && (b && true))
two_and true true = refl
two_and true false = refl
two_and false b = refl

two_or : (a b : Bool) → (a || b) ≡ (a || (b || false))
two_or true b = refl
two_or false true = refl
two_or false false = refl

-- a side that says b also says what is not not b
twice_not : (s : ℕ → ℤ) (side : Side) (b : Bool) → SaysSide s side b → SaysSide s side (not (not b))
twice_not s side b says = rw (← not_not b) says

-- an assignment meets the parts exactly where the test of the constraint passes
recipe_says : (s : ℕ → ℤ) (kind : ConstraintKind) (a : Args) → is_tested kind ≡ true → Rests s kind a → Say s (recipe kind a) (holds kind (given_at s a))
recipe_says s of.IntLinLe a tested h =
    said s (recipe of.IntLinLe a) (holds of.IntLinLe (given_at s a)) (int_le (value_at s (linear_sum a)) (limit a)) (linear_at_most s a h)
    (always_says s (is_at_most (linear_sum a) (limit a)) (int_le (value_at s (linear_sum a)) (limit a)) (at_most_says s (linear_sum a) (limit a)))
recipe_says s of.IntLinEq a tested h =
    said s (recipe of.IntLinEq a) (holds of.IntLinEq (given_at s a)) (int_eq (value_at s (linear_sum a)) (limit a)) (linear_equal s a h)
    (always_says s (is_equal (linear_sum a) (limit a)) (int_eq (value_at s (linear_sum a)) (limit a)) (equal_says s (linear_sum a) (limit a)))
recipe_says s of.IntLinNe a tested h =
    said s (recipe of.IntLinNe a) (holds of.IntLinNe (given_at s a)) (not (int_eq (value_at s (linear_sum a)) (limit a))) (ap not (linear_equal s a h))
    (always_says s (is_other (linear_sum a) (limit a)) (not (int_eq (value_at s (linear_sum a)) (limit a))) (other_says s (linear_sum a) (limit a)))
recipe_says s of.IntLinLeReif a tested h =
    said s (recipe of.IntLinLeReif a) (holds of.IntLinLeReif (given_at s a)) (iff (is_on (term_at s (a.term 3))) (int_le (value_at s (linear_sum a)) (limit a))) (ap (λ b. iff (is_on (term_at s (a.term 3))) b) (linear_at_most s a h))
    (reified_says s (a.term 3) (is_at_most (linear_sum a) (limit a)) (is_above (linear_sum a) (limit a)) (int_le (value_at s (linear_sum a)) (limit a)) (at_most_says s (linear_sum a) (limit a)) (above_says s (linear_sum a) (limit a)))
recipe_says s of.IntLinEqReif a tested h =
    said s (recipe of.IntLinEqReif a) (holds of.IntLinEqReif (given_at s a)) (iff (is_on (term_at s (a.term 3))) (int_eq (value_at s (linear_sum a)) (limit a))) (ap (λ b. iff (is_on (term_at s (a.term 3))) b) (linear_equal s a h))
    (reified_says s (a.term 3) (is_equal (linear_sum a) (limit a)) (is_other (linear_sum a) (limit a)) (int_eq (value_at s (linear_sum a)) (limit a)) (equal_says s (linear_sum a) (limit a)) (other_says s (linear_sum a) (limit a)))
recipe_says s of.IntLinNeReif a tested h =
    said s (recipe of.IntLinNeReif a) (holds of.IntLinNeReif (given_at s a)) (iff (is_on (term_at s (a.term 3))) (not (int_eq (value_at s (linear_sum a)) (limit a)))) (ap (λ b. iff (is_on (term_at s (a.term 3))) (not b)) (linear_equal s a h))
    (reified_says s (a.term 3) (is_other (linear_sum a) (limit a)) (is_equal (linear_sum a) (limit a)) (not (int_eq (value_at s (linear_sum a)) (limit a))) (other_says s (linear_sum a) (limit a)) (twice_not s (is_equal (linear_sum a) (limit a)) (int_eq (value_at s (linear_sum a)) (limit a)) (equal_says s (linear_sum a) (limit a))))
recipe_says s of.IntLeReif a tested h =
    said s (recipe of.IntLeReif a) (holds of.IntLeReif (given_at s a)) (iff (is_on (term_at s (a.term 2))) (int_le (value_at s (difference a)) (pos 0))) (ap (λ b. iff (is_on (term_at s (a.term 2))) b) (le_less (term_at s (a.term 0)) (term_at s (a.term 1)) (value_at s (difference a)) (difference_value s a)))
    (reified_says s (a.term 2) (is_at_most (difference a) (pos 0)) (is_above (difference a) (pos 0)) (int_le (value_at s (difference a)) (pos 0)) (at_most_says s (difference a) (pos 0)) (above_says s (difference a) (pos 0)))
recipe_says s of.IntLtReif a tested h =
    said s (recipe of.IntLtReif a) (holds of.IntLtReif (given_at s a)) (iff (is_on (term_at s (a.term 2))) (int_le (value_at s (difference a)) (negsuc 0))) (ap (λ b. iff (is_on (term_at s (a.term 2))) b) (lt_less (term_at s (a.term 0)) (term_at s (a.term 1)) (value_at s (difference a)) (difference_value s a)))
    (reified_says s (a.term 2) (is_at_most (difference a) (negsuc 0)) (is_above (difference a) (negsuc 0)) (int_le (value_at s (difference a)) (negsuc 0)) (at_most_says s (difference a) (negsuc 0)) (above_says s (difference a) (negsuc 0)))
recipe_says s of.IntEqReif a tested h =
    said s (recipe of.IntEqReif a) (holds of.IntEqReif (given_at s a)) (iff (is_on (term_at s (a.term 2))) (int_eq (value_at s (difference a)) (pos 0))) (ap (λ b. iff (is_on (term_at s (a.term 2))) b) (eq_less (term_at s (a.term 0)) (term_at s (a.term 1)) (value_at s (difference a)) (difference_value s a)))
    (reified_says s (a.term 2) (is_equal (difference a) (pos 0)) (is_other (difference a) (pos 0)) (int_eq (value_at s (difference a)) (pos 0)) (equal_says s (difference a) (pos 0)) (other_says s (difference a) (pos 0)))
recipe_says s of.IntNeReif a tested h =
    said s (recipe of.IntNeReif a) (holds of.IntNeReif (given_at s a)) (iff (is_on (term_at s (a.term 2))) (not (int_eq (value_at s (difference a)) (pos 0)))) (ap (λ b. iff (is_on (term_at s (a.term 2))) (not b)) (eq_less (term_at s (a.term 0)) (term_at s (a.term 1)) (value_at s (difference a)) (difference_value s a)))
    (reified_says s (a.term 2) (is_other (difference a) (pos 0)) (is_equal (difference a) (pos 0)) (not (int_eq (value_at s (difference a)) (pos 0))) (other_says s (difference a) (pos 0)) (twice_not s (is_equal (difference a) (pos 0)) (int_eq (value_at s (difference a)) (pos 0)) (equal_says s (difference a) (pos 0))))
recipe_says s of.IntLe a tested h =
    said s (recipe of.IntLe a) (holds of.IntLe (given_at s a)) (int_le (value_at s (difference a)) (pos 0)) (le_less (term_at s (a.term 0)) (term_at s (a.term 1)) (value_at s (difference a)) (difference_value s a))
    (always_says s (is_at_most (difference a) (pos 0)) (int_le (value_at s (difference a)) (pos 0)) (at_most_says s (difference a) (pos 0)))
recipe_says s of.IntLt a tested h =
    said s (recipe of.IntLt a) (holds of.IntLt (given_at s a)) (int_le (value_at s (difference a)) (negsuc 0)) (lt_less (term_at s (a.term 0)) (term_at s (a.term 1)) (value_at s (difference a)) (difference_value s a))
    (always_says s (is_at_most (difference a) (negsuc 0)) (int_le (value_at s (difference a)) (negsuc 0)) (at_most_says s (difference a) (negsuc 0)))
recipe_says s of.IntEq a tested h =
    said s (recipe of.IntEq a) (holds of.IntEq (given_at s a)) (int_eq (value_at s (difference a)) (pos 0)) (eq_less (term_at s (a.term 0)) (term_at s (a.term 1)) (value_at s (difference a)) (difference_value s a))
    (always_says s (is_equal (difference a) (pos 0)) (int_eq (value_at s (difference a)) (pos 0)) (equal_says s (difference a) (pos 0)))
recipe_says s of.IntNe a tested h =
    said s (recipe of.IntNe a) (holds of.IntNe (given_at s a)) (not (int_eq (value_at s (difference a)) (pos 0))) (ap not (eq_less (term_at s (a.term 0)) (term_at s (a.term 1)) (value_at s (difference a)) (difference_value s a)))
    (always_says s (is_other (difference a) (pos 0)) (not (int_eq (value_at s (difference a)) (pos 0))) (other_says s (difference a) (pos 0)))
recipe_says s of.Bool2Int a tested h =
    said s (recipe of.Bool2Int a) (holds of.Bool2Int (given_at s a)) (int_eq (value_at s (difference a)) (pos 0)) (eq_more (term_at s (a.term 1)) (term_at s (a.term 0)) (value_at s (difference a)) (difference_value s a))
    (always_says s (is_equal (difference a) (pos 0)) (int_eq (value_at s (difference a)) (pos 0)) (equal_says s (difference a) (pos 0)))
recipe_says s of.IntPlus a tested h =
    said s (recipe of.IntPlus a) (holds of.IntPlus (given_at s a)) (int_eq (value_at s (excess a)) (pos 0)) (plus_eq (term_at s (a.term 0)) (term_at s (a.term 1)) (term_at s (a.term 2)) (value_at s (excess a)) (excess_value s a))
    (always_says s (is_equal (excess a) (pos 0)) (int_eq (value_at s (excess a)) (pos 0)) (equal_says s (excess a) (pos 0)))
recipe_says s of.IntTimes a tested h =
    one_part s (Times (record { a = a.term 0; b = a.term 1; c = a.term 2 })) (holds of.IntTimes (given_at s a)) (Decides-int_eq (term_at s (a.term 0) *ℤ term_at s (a.term 1)) (term_at s (a.term 2)))
recipe_says s of.IntMax a tested h =
    one_part s (Greatest (record { a = a.term 0; b = a.term 1; c = a.term 2 })) (holds of.IntMax (given_at s a)) (Decides-int_eq (int_max (term_at s (a.term 0)) (term_at s (a.term 1))) (term_at s (a.term 2)))
recipe_says s of.IntMin a tested h =
    one_part s (Least (record { a = a.term 0; b = a.term 1; c = a.term 2 })) (holds of.IntMin (given_at s a)) (Decides-int_eq (int_min (term_at s (a.term 0)) (term_at s (a.term 1))) (term_at s (a.term 2)))
recipe_says s of.IntAbs a tested h =
    one_part s (Absolute (record { a = a.term 0; b = a.term 1 })) (holds of.IntAbs (given_at s a)) (Decides-int_eq (pos (unsigned_abs (term_at s (a.term 0)))) (term_at s (a.term 1)))
recipe_says s of.BoolEq a tested h =
    said s (recipe of.BoolEq a) (holds of.BoolEq (given_at s a)) (list_all (not_all s) (same_rows (a.term 0) (a.term 1))) (same_row (is_on (term_at s (a.term 0))) (is_on (term_at s (a.term 1))))
    (nogoods_say s (same_rows (a.term 0) (a.term 1)))
recipe_says s of.BoolNot a tested h =
    said s (recipe of.BoolNot a) (holds of.BoolNot (given_at s a)) (list_all (not_all s) (other_rows (a.term 0) (a.term 1))) (other_row (is_on (term_at s (a.term 0))) (is_on (term_at s (a.term 1))))
    (nogoods_say s (other_rows (a.term 0) (a.term 1)))
recipe_says s of.BoolXor a tested h =
    said s (recipe of.BoolXor a) (holds of.BoolXor (given_at s a)) (list_all (not_all s) (xor_rows a)) (xor_says s a (nat_le 3 a.count) refl)
    (nogoods_say s (xor_rows a))
recipe_says s of.BoolLe a tested h =
    said s (recipe of.BoolLe a) (holds of.BoolLe (given_at s a)) (list_all (not_all s) ((Holds (a.term 0) ∷ Fails (a.term 1) ∷ []) ∷ [])) (le_row (is_on (term_at s (a.term 0))) (is_on (term_at s (a.term 1))))
    (nogoods_say s ((Holds (a.term 0) ∷ Fails (a.term 1) ∷ []) ∷ []))
recipe_says s of.BoolLt a tested h =
    said s (recipe of.BoolLt a) (holds of.BoolLt (given_at s a)) (list_all (not_all s) ((Holds (a.term 0) ∷ []) ∷ (Fails (a.term 1) ∷ []) ∷ [])) (lt_row (is_on (term_at s (a.term 0))) (is_on (term_at s (a.term 1))))
    (nogoods_say s ((Holds (a.term 0) ∷ []) ∷ (Fails (a.term 1) ∷ []) ∷ []))
recipe_says s of.BoolEqReif a tested h =
    said s (recipe of.BoolEqReif a) (holds of.BoolEqReif (given_at s a)) (list_all (not_all s) (rows_by (a.term 2) (same_rows (a.term 0) (a.term 1)) (other_rows (a.term 0) (a.term 1)))) (rows_by_say s (a.term 2) (same_rows (a.term 0) (a.term 1)) (other_rows (a.term 0) (a.term 1)) (iff (is_on (term_at s (a.term 0))) (is_on (term_at s (a.term 1)))) (same_row (is_on (term_at s (a.term 0))) (is_on (term_at s (a.term 1)))) (other_row (is_on (term_at s (a.term 0))) (is_on (term_at s (a.term 1)))))
    (nogoods_say s (rows_by (a.term 2) (same_rows (a.term 0) (a.term 1)) (other_rows (a.term 0) (a.term 1))))
recipe_says s of.BoolLeReif a tested h =
    said s (recipe of.BoolLeReif a) (holds of.BoolLeReif (given_at s a)) (list_all (not_all s) (rows_by (a.term 2) ((Holds (a.term 0) ∷ Fails (a.term 1) ∷ []) ∷ []) ((Fails (a.term 0) ∷ []) ∷ (Holds (a.term 1) ∷ []) ∷ []))) (rows_by_say s (a.term 2) ((Holds (a.term 0) ∷ Fails (a.term 1) ∷ []) ∷ []) ((Fails (a.term 0) ∷ []) ∷ (Holds (a.term 1) ∷ []) ∷ []) (not (is_on (term_at s (a.term 0))) || (is_on (term_at s (a.term 1)))) (le_row (is_on (term_at s (a.term 0))) (is_on (term_at s (a.term 1)))) (not_le_row (is_on (term_at s (a.term 0))) (is_on (term_at s (a.term 1)))))
    (nogoods_say s (rows_by (a.term 2) ((Holds (a.term 0) ∷ Fails (a.term 1) ∷ []) ∷ []) ((Fails (a.term 0) ∷ []) ∷ (Holds (a.term 1) ∷ []) ∷ [])))
recipe_says s of.BoolLtReif a tested h =
    said s (recipe of.BoolLtReif a) (holds of.BoolLtReif (given_at s a)) (list_all (not_all s) (rows_by (a.term 2) ((Holds (a.term 0) ∷ []) ∷ (Fails (a.term 1) ∷ []) ∷ []) ((Fails (a.term 0) ∷ Holds (a.term 1) ∷ []) ∷ []))) (rows_by_say s (a.term 2) ((Holds (a.term 0) ∷ []) ∷ (Fails (a.term 1) ∷ []) ∷ []) ((Fails (a.term 0) ∷ Holds (a.term 1) ∷ []) ∷ []) (not (is_on (term_at s (a.term 0))) && (is_on (term_at s (a.term 1)))) (lt_row (is_on (term_at s (a.term 0))) (is_on (term_at s (a.term 1)))) (not_lt_row (is_on (term_at s (a.term 0))) (is_on (term_at s (a.term 1)))))
    (nogoods_say s (rows_by (a.term 2) ((Holds (a.term 0) ∷ []) ∷ (Fails (a.term 1) ∷ []) ∷ []) ((Fails (a.term 0) ∷ Holds (a.term 1) ∷ []) ∷ [])))
recipe_says s of.BoolAnd a tested h =
    said s (recipe of.BoolAnd a) (holds of.BoolAnd (given_at s a)) (list_all (not_all s) (all_rows (a.term 0 ∷ a.term 1 ∷ []) (a.term 2))) (ap (λ b. iff (is_on (term_at s (a.term 2))) b) (two_and (is_on (term_at s (a.term 0))) (is_on (term_at s (a.term 1)))) ∙ all_rows_say s (a.term 2) (a.term 0 ∷ a.term 1 ∷ []))
    (nogoods_say s (all_rows (a.term 0 ∷ a.term 1 ∷ []) (a.term 2)))
recipe_says s of.BoolOr a tested h =
    said s (recipe of.BoolOr a) (holds of.BoolOr (given_at s a)) (list_all (not_all s) (any_rows (a.term 0 ∷ a.term 1 ∷ []) (a.term 2))) (ap (λ b. iff (is_on (term_at s (a.term 2))) b) (two_or (is_on (term_at s (a.term 0))) (is_on (term_at s (a.term 1)))) ∙ any_rows_say s (a.term 2) (a.term 0 ∷ a.term 1 ∷ []))
    (nogoods_say s (any_rows (a.term 0 ∷ a.term 1 ∷ []) (a.term 2)))
recipe_says s of.ArrayBoolAnd a tested h =
    said s (recipe of.ArrayBoolAnd a) (holds of.ArrayBoolAnd (given_at s a)) (list_all (not_all s) (all_rows (a.terms 0) (a.term 1))) (all_rows_say s (a.term 1) (a.terms 0))
    (nogoods_say s (all_rows (a.terms 0) (a.term 1)))
recipe_says s of.ArrayBoolOr a tested h =
    said s (recipe of.ArrayBoolOr a) (holds of.ArrayBoolOr (given_at s a)) (list_all (not_all s) (any_rows (a.terms 0) (a.term 1))) (any_rows_say s (a.term 1) (a.terms 0))
    (nogoods_say s (any_rows (a.terms 0) (a.term 1)))
recipe_says s of.BoolClause a tested h =
    said s (recipe of.BoolClause a) (holds of.BoolClause (given_at s a)) (not_all s (clause_row (a.terms 0) (a.terms 1))) (clause_says s (a.terms 0) (a.terms 1))
    (nogood_says s (clause_row (a.terms 0) (a.terms 1)))
recipe_says s of.BoolClauseReif a tested h =
    said s (recipe of.BoolClauseReif a) (holds of.BoolClauseReif (given_at s a)) (list_all (not_all s) (clause_rows (a.terms 0) (a.terms 1) (a.term 2))) (clause_rows_say s (a.terms 0) (a.terms 1) (a.term 2))
    (nogoods_say s (clause_rows (a.terms 0) (a.terms 1) (a.term 2)))
recipe_says s of.SetIn a tested h = member_says s (a.term 0) (a.set 1) h
recipe_says s of.SetInReif a tested h = member_reified_says s (a.term 0) (a.set 1) (a.term 2) h
recipe_says s of.ArrayIntElement a tested h = absurd (both_ways false refl tested)
recipe_says s of.ArrayVarIntElement a tested h = absurd (both_ways false refl tested)
recipe_says s of.ArrayBoolElement a tested h = absurd (both_ways false refl tested)
recipe_says s of.ArrayVarBoolElement a tested h = absurd (both_ways false refl tested)
recipe_says s of.AllDifferentInt a tested h = absurd (both_ways false refl tested)
recipe_says s of.FznAllDifferentInt a tested h = absurd (both_ways false refl tested)
recipe_says s of.Cumulative a tested h = absurd (both_ways false refl tested)
recipe_says s of.FznCumulative a tested h = absurd (both_ways false refl tested)

-- an assignment meets the parts exactly where it meets the constraint
pub recipe_means : (s : ℕ → ℤ) (kind : ConstraintKind) (a : Args) → Rests s kind a → AreMet s (recipe kind a) ↔ Meaning kind (given_at s a)
recipe_means s of.ArrayIntElement a h = selected_means s (a.term 0) (a.terms 1) (a.term 2)
recipe_means s of.ArrayVarIntElement a h = selected_means s (a.term 0) (a.terms 1) (a.term 2)
recipe_means s of.ArrayBoolElement a h = selected_means s (a.term 0) (a.terms 1) (a.term 2)
recipe_means s of.ArrayVarBoolElement a h = selected_means s (a.term 0) (a.terms 1) (a.term 2)
recipe_means s of.AllDifferentInt a h = all_different_means s (a.terms 0)
recipe_means s of.FznAllDifferentInt a h = all_different_means s (a.terms 0)
recipe_means s of.Cumulative a h = scheduled_means s (a.terms 0) (a.terms 1) (a.terms 2) (a.term 3) h.durations h.uses h.capacity
recipe_means s of.FznCumulative a h = scheduled_means s (a.terms 0) (a.terms 1) (a.terms 2) (a.term 3) h.durations h.uses h.capacity
recipe_means s kind a h = let says = recipe_says s kind a refl h in (says.1, says.0)
