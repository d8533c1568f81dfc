-- What the parts of a side say: one law for each way to build them, an equation of tests.
use Rattle.std.proofs.Common.{◌≡◌, ℕ, Bool, true, false, List, [], ◌∷◌, ◌++◌, filter, Option, Some, None, ℤ, pos, neg_ℤ, ◌+ℤ◌, ◌-ℤ◌, ◌≤ℤ◌, refl, sym, ◌∙◌, ap, arith}
use Rattle.std.specs.Prelude.{not, ◌&&◌, ◌||◌, int_le}
use Rattle.std.specs.Bool.{Decides}
use Rattle.std.specs.List.{cons_option, filter_map, list_all, list_any}
use Rattle.std.specs.Ordering.{int_eq}
use Rattle.std.proofs.lemmas.Int.{ints}
use Rattle.std.proofs.lemmas.Bool.{and_from, and_parts, both_ways, false_from_ne_true, not-false, not-true, not_from_false, or_parts}
use Rattle.std.proofs.lemmas.Bool.Decides.{Decides-at, Decides-int_eq, Decides-or, same_from_decides}
use Rattle.dp_base.specs.Lists.{Each}
use Rattle.dp_base.proofs.Lists.{Each-append, Each-append_parts, list_all-fails, list_all-not, list_any-some}
use Rattle.dp_domain.specs.Atoms.{Atomic, meets}
use Rattle.dp_domain.specs.Conditions.{Fails}
use Rattle.dp_domain.specs.Sets.{IsSmall}
use Rattle.dp_domain.specs.Terms.{term_at}
use Rattle.dp_domain.specs.declared.term.Term.{Term}
use Rattle.dp_domain.specs.declared.term.Term.TheVariants.{Var, Const}
use Rattle.dp_domain.proofs.AtomLaws.{le-from_test, lt-from_test, test-from_le, test-from_lt}
use Rattle.dp_parts.specs.Parts.{MeetsPart}
use Rattle.dp_parts.specs.declared.part.Part.{Part}
use Rattle.dp_parts.specs.declared.part.Part.TheVariants.{Nogood, Within}
use Rattle.dp_rule_clause.specs.Nogoods.{MeetsNogood, each_once}
use Rattle.dp_rule_clause.proofs.AtomSteps.{once_same}
use Rattle.dp_rule_linear.specs.Forms.{sum_at}
use Rattle.fz_sat.specs.Meaning.{iff, is_on}
use Rattle.dp_lower.specs.Sides.{Side, always, atom_of, is_above, is_at_most, is_equal, is_other, is_refuted, nogood, nogoods, off, on, passes, reified}
use Rattle.dp_lower.specs.Small.{small_numbers}
use Rattle.dp_lower.specs.Sums.{Sum, at_most, nonzero, opposite, other_than}
use Rattle.dp_lower.specs.declared.literal.Literal.{Literal}
use Rattle.dp_lower.specs.declared.literal.Literal.TheVariants as literal
use Rattle.dp_lower.proofs.SmallLaws.{passing_all, passing_only}
use Rattle.dp_lower.proofs.SumLaws.{sum_at-nonzero, value-opposite, value_at}

-- the assignment meets each of the parts
abbrev pub AreMet : (ℕ → ℤ) → List Part → Type 0
AreMet s parts = Each (λ q. MeetsPart q s) parts

-- the assignment meets the parts exactly where b is true
abbrev pub Say : (ℕ → ℤ) → List Part → Bool → Type 0
Say s parts b = Decides b (AreMet s parts)

-- whether there is a condition and the assignment fails it
abbrev pub is_failing : (ℕ → ℤ) → Option Atomic → Bool
is_failing s None = false
is_failing s (Some a) = not (meets a (s a.var))

-- under each condition the assignment meets the parts exactly where the condition fails or b is true
abbrev pub SaysSide : (ℕ → ℤ) → Side → Bool → Type 0
SaysSide s side b = (c : Option Atomic) → Say s (side c) (is_failing s c || b)

pub Decides-failing : (s : ℕ → ℤ) (c : Option Atomic) → Decides (is_failing s c) (Fails s c)
Decides-failing s None = (λ e. absurd (both_ways false refl e), λ h. absurd h)
Decides-failing s (Some a) = (λ e. not-true (meets a (s a.var)) e, λ e. not_from_false (meets a (s a.var)) e)

-- ---- tests of numbers

turned_past : (y k : ℤ) → int_le (neg_ℤ y) (neg_ℤ k -ℤ pos 1) ≡ not (int_le y k)
turned_past y k = past_by (int_le y k) refl
  where
    past_by : (b : Bool) → int_le y k ≡ b → int_le (neg_ℤ y) (neg_ℤ k -ℤ pos 1) ≡ not b
    past_by true e = let h = le-from_test y k e in test-from_lt (neg_ℤ y) (neg_ℤ k -ℤ pos 1) (omega (arith, ints))
    past_by false e = let h = lt-from_test y k e in test-from_le (neg_ℤ y) (neg_ℤ k -ℤ pos 1) (omega (arith, ints))

between : (y k : ℤ) → int_eq y k ≡ (int_le y k && int_le (neg_ℤ y) (neg_ℤ k))
between y k = same_from_decides (int_eq y k) (int_le y k && int_le (neg_ℤ y) (neg_ℤ k)) (Decides-int_eq y k) (
  λ e. let both = and_parts (int_le y k) (int_le (neg_ℤ y) (neg_ℤ k)) e in
      let h = le-from_test y k both.0 in let g = le-from_test (neg_ℤ y) (neg_ℤ k) both.1 in omega (arith, ints),
  λ e. and_from (int_le y k) (int_le (neg_ℤ y) (neg_ℤ k)) (test-from_le y k (omega (arith, ints))) (test-from_le (neg_ℤ y) (neg_ℤ k) (omega (arith, ints))),
)

off_by : (v : ℤ) → not (int_le v (pos 0)) ≡ is_on v
off_by v = on_by (int_le v (pos 0)) refl
  where
    on_by : (b : Bool) → int_le v (pos 0) ≡ b → not b ≡ is_on v
    on_by true e = let h = le-from_test v (pos 0) e in sym (test-from_lt (pos 1) v (omega (arith, ints)))
    on_by false e = let h = lt-from_test v (pos 0) e in sym (test-from_le (pos 1) v (omega (arith, ints)))

below_one : (v : ℤ) → int_le v (pos 0) ≡ not (is_on v)
below_one v = not_not (int_le v (pos 0)) ∙ ap not (off_by v)
  where
    not_not : (b : Bool) → b ≡ not (not b)
    not_not true = refl
    not_not false = refl

-- ---- joined lists

pub Say-none : (s : ℕ → ℤ) → Say s [] true
Say-none s = (λ e. tt, λ h. refl)

pub Say-append : (s : ℕ → ℤ) (xs ys : List Part) (x y : Bool) → Say s xs x → Say s ys y → Say s (xs ++ ys) (x && y)
Say-append s xs ys x y p q = (
  λ e. let both = and_parts x y e in Each-append (λ part. MeetsPart part s) xs ys (p.0 both.0) (q.0 both.1),
  λ h. let both = Each-append_parts (λ part. MeetsPart part s) xs ys h in and_from x y (p.1 both.0) (q.1 both.1),
)

pub one_part : (s : ℕ → ℤ) (q : Part) (b : Bool) → Decides b (MeetsPart q s) → Say s (q ∷ []) b
one_part s q b d = (λ e. (d.0 e, tt), λ h. d.1 h.0)

-- ---- sums

moved : (x y c k : ℤ) → x ≡ y → (x ≤ℤ (k -ℤ c)) → (y +ℤ c) ≤ℤ k
moved x y c k e h = omega (arith, ints)

moved_back : (x y c k : ℤ) → x ≡ y → (y +ℤ c) ≤ℤ k → x ≤ℤ (k -ℤ c)
moved_back x y c k e h = omega (arith, ints)

-- the sum is at most k
pub Decides-at_most : (s : ℕ → ℤ) (q : Sum) (k : ℤ) → Decides (int_le (value_at s q) k) (sum_at s (nonzero q.terms) ≤ℤ (k -ℤ q.constant))
Decides-at_most s q k = (
  λ e. moved_back (sum_at s (nonzero q.terms)) (sum_at s q.terms) q.constant k (sum_at-nonzero s q.terms) (le-from_test (value_at s q) k e),
  λ h. test-from_le (value_at s q) k (moved (sum_at s (nonzero q.terms)) (sum_at s q.terms) q.constant k (sum_at-nonzero s q.terms) h),
)

pub at_most_says : (s : ℕ → ℤ) (q : Sum) (k : ℤ) → SaysSide s (is_at_most q k) (int_le (value_at s q) k)
at_most_says s q k c =
    one_part s (at_most q k c) (is_failing s c || int_le (value_at s q) k) (Decides-or (is_failing s c) (int_le (value_at s q) k) (Decides-failing s c) (Decides-at_most s q k))

pub above_test : (s : ℕ → ℤ) (q : Sum) (k : ℤ) → int_le (value_at s (opposite q)) (neg_ℤ k -ℤ pos 1) ≡ not (int_le (value_at s q) k)
above_test s q k = above_by (value_at s (opposite q)) (value_at s q) k (value-opposite s q)
  where
    above_by : (x y k : ℤ) → x ≡ neg_ℤ y → int_le x (neg_ℤ k -ℤ pos 1) ≡ not (int_le y k)
    above_by x y k e = rw e (turned_past y k)

-- the sum is above k
pub above_says : (s : ℕ → ℤ) (q : Sum) (k : ℤ) → SaysSide s (is_above q k) (not (int_le (value_at s q) k))
above_says s q k c = Decides-at (is_failing s c || not (int_le (value_at s q) k)) (is_failing s c || int_le (value_at s (opposite q)) (neg_ℤ k -ℤ pos 1))
    (ap (λ b. is_failing s c || b) (sym (above_test s q k))) (at_most_says s (opposite q) (neg_ℤ k -ℤ pos 1) c)

either_and : (f x y : Bool) → (f || (x && y)) ≡ ((f || x) && (f || y))
either_and true x y = refl
either_and false x y = refl

-- the sum is k
pub equal_says : (s : ℕ → ℤ) (q : Sum) (k : ℤ) → SaysSide s (is_equal q k) (int_eq (value_at s q) k)
equal_says s q k c =
    let f = is_failing s c in
    let x = int_le (value_at s q) k in
    let y = int_le (value_at s (opposite q)) (neg_ℤ k) in
    Decides-at (f || int_eq (value_at s q) k) ((f || x) && (f || y)) (ap (λ b. f || b) (equal_by (value_at s (opposite q)) (value_at s q) k (value-opposite s q)) ∙ either_and f x y)
    (Say-append s (is_at_most q k c) (is_at_most (opposite q) (neg_ℤ k) c) (f || x) (f || y) (at_most_says s q k c) (at_most_says s (opposite q) (neg_ℤ k) c))
  where
    equal_by : (x y k : ℤ) → x ≡ neg_ℤ y → int_eq y k ≡ (int_le y k && int_le x (neg_ℤ k))
    equal_by x y k e = rw e (between y k)

moved_apart : (x y c k : ℤ) → x ≡ y → (y +ℤ c ≡ k) → x ≡ k -ℤ c
moved_apart x y c k e h = omega (arith, ints)

moved_apart_back : (x y c k : ℤ) → x ≡ y → x ≡ k -ℤ c → y +ℤ c ≡ k
moved_apart_back x y c k e h = omega (arith, ints)

-- the sum differs from k
pub Decides-other : (s : ℕ → ℤ) (q : Sum) (k : ℤ) → Decides (not (int_eq (value_at s q) k)) (sum_at s (nonzero q.terms) ≡ k -ℤ q.constant → ⊥)
Decides-other s q k = (
  λ e h. both_ways (int_eq (value_at s q) k) (not-true (int_eq (value_at s q) k) e)
      ((Decides-int_eq (value_at s q) k).1 (moved_apart_back (sum_at s (nonzero q.terms)) (sum_at s q.terms) q.constant k (sum_at-nonzero s q.terms) h)),
  λ h. not_from_false (int_eq (value_at s q) k) (false_from_ne_true (int_eq (value_at s q) k)
      (λ e. h (moved_apart (sum_at s (nonzero q.terms)) (sum_at s q.terms) q.constant k (sum_at-nonzero s q.terms) ((Decides-int_eq (value_at s q) k).0 e)))),
)

pub other_says : (s : ℕ → ℤ) (q : Sum) (k : ℤ) → SaysSide s (is_other q k) (not (int_eq (value_at s q) k))
other_says s q k c =
    one_part s (other_than q k c) (is_failing s c || not (int_eq (value_at s q) k))
    (Decides-or (is_failing s c) (not (int_eq (value_at s q) k)) (Decides-failing s c) (Decides-other s q k))

-- ---- sets

-- the variable is one of the numbers that pass
pub passes_says : (s : ℕ → ℤ) (x : ℕ) (test : ℤ → Bool) → IsSmall (s x) → SaysSide s (passes x test) (test (s x))
passes_says s x test small c =
    one_part s (Within (record { condition = c; var = x; set = filter test small_numbers })) (is_failing s c || test (s x))
    (Decides-or (is_failing s c) (test (s x)) (Decides-failing s c) (λ e. passing_all test (s x) small e, λ here. (passing_only test (s x) here).1))

-- ---- a side alone, and both by r

pub always_says : (s : ℕ → ℤ) (side : Side) (b : Bool) → SaysSide s side b → Say s (always side) b
always_says s side b says = says None

off_test : (v : ℤ) → not (int_le v (pos 0)) ≡ is_on v
off_test v = off_by v

by_sides : (o b : Bool) → iff o b ≡ ((not o || b) && (o || not b))
by_sides true true = refl
by_sides true false = refl
by_sides false true = refl
by_sides false false = refl

reified_const : (s : ℕ → ℤ) (v : ℤ) (side other : Side) (b o : Bool) → is_on v ≡ o → SaysSide s side b → SaysSide s other (not b) → Say s (reified (Const v) side other) (iff o b)
reified_const s v side other b true e p q = rw e (p None)
reified_const s v side other b false e p q = rw e (q None)

-- r says whether b
pub reified_says : (s : ℕ → ℤ) (r : Term) (side other : Side) (b : Bool) → SaysSide s side b → SaysSide s other (not b) → Say s (reified r side other) (iff (is_on (term_at s r)) b)
reified_says s (Const v) side other b p q = reified_const s v side other b (is_on v) refl p q
reified_says s (Var x) side other b p q =
    let o = is_on (s x) in
    Decides-at (iff o b) ((not o || b) && (not (int_le (s x) (pos 0)) || not b)) (by_sides o b ∙ ap (λ f. (not o || b) && (f || not b)) (sym (off_test (s x))))
    (Say-append s (side (Some (on x))) (other (Some (off x))) (not o || b) (not (int_le (s x) (pos 0)) || not b) (p (Some (on x))) (q (Some (off x))))

-- ---- nogoods

-- whether the literal holds
abbrev pub is_so : (ℕ → ℤ) → Literal → Bool
is_so s (literal.Holds t) = is_on (term_at s t)
is_so s (literal.Fails t) = not (is_on (term_at s t))

-- whether the literals do not all hold
abbrev pub not_all : (ℕ → ℤ) → List Literal → Bool
not_all s literals = not (list_all (is_so s) literals)

refuted_fails : (s : ℕ → ℤ) (l : Literal) → is_refuted l ≡ true → is_so s l ≡ false
refuted_fails s (literal.Holds (Const v)) e = not-true (is_on v) e
refuted_fails s (literal.Holds (Var x)) e = absurd (both_ways false refl e)
refuted_fails s (literal.Fails (Const v)) e = rw e refl
refuted_fails s (literal.Fails (Var x)) e = absurd (both_ways false refl e)

-- whether the assignment meets the atom
abbrev pub holds_at : (ℕ → ℤ) → Atomic → Bool
holds_at s a = meets a (s a.var)

atoms_hold : (s : ℕ → ℤ) (l : Literal) (atoms : List Atomic) → is_refuted l ≡ false → list_all (holds_at s) (cons_option (atom_of l) atoms) ≡ (is_so s l && list_all (holds_at s) atoms)
atoms_hold s (literal.Holds (Const v)) atoms e = rw (not-false (is_on v) e) refl
atoms_hold s (literal.Holds (Var x)) atoms e = refl
atoms_hold s (literal.Fails (Const v)) atoms e = rw e refl
atoms_hold s (literal.Fails (Var x)) atoms e = ap (λ b. b && list_all (holds_at s) atoms) (below_one (s x))

all_hold : (s : ℕ → ℤ) (literals : List Literal) → list_any is_refuted literals ≡ false → list_all (holds_at s) (filter_map atom_of literals) ≡ list_all (is_so s) literals
all_hold s [] e = refl
all_hold s (l ∷ literals) e =
    let parts = or_parts (is_refuted l) (list_any is_refuted literals) e in
    atoms_hold s l (filter_map atom_of literals) parts.0 ∙ ap (λ b. is_so s l && b) (all_hold s literals parts.1)

some_fails : (s : ℕ → ℤ) (atoms : List Atomic) → Decides (not (list_all (holds_at s) atoms)) (MeetsNogood (each_once atoms) s)
some_fails s atoms = (
  λ e. let r = list_all-fails (holds_at s) atoms (not-true (list_all (holds_at s) atoms) e) in (r.0, (once_same atoms r.0).1 r.1, r.2),
  λ r. not_from_false (list_all (holds_at s) atoms) (list_all-not (holds_at s) atoms r.0 ((once_same atoms r.0).0 r.1) r.2),
)

nogood_by : (s : ℕ → ℤ) (literals : List Literal) (b : Bool) → list_any is_refuted literals ≡ b → Say s (nogood literals) (not_all s literals)
nogood_by s literals true e = rw e (
  λ h. tt,
  λ h. let r = list_any-some is_refuted literals e in not_from_false (list_all (is_so s) literals) (list_all-not (is_so s) literals r.0 r.1 (refuted_fails s r.0 r.2)),
)
nogood_by s literals false e = rw e (
    one_part s (Nogood (each_once (filter_map atom_of literals))) (not_all s literals)
    (Decides-at (not_all s literals) (not (list_all (holds_at s) (filter_map atom_of literals))) (ap not (sym (all_hold s literals e))) (some_fails s (filter_map atom_of literals)))
    )

-- the literals do not all hold
pub nogood_says : (s : ℕ → ℤ) (literals : List Literal) → Say s (nogood literals) (not_all s literals)
nogood_says s literals = nogood_by s literals (list_any is_refuted literals) refl

-- each of the lists has a literal that does not hold
pub nogoods_say : (s : ℕ → ℤ) (rows : List (List Literal)) → Say s (nogoods rows) (list_all (not_all s) rows)
nogoods_say s [] = Say-none s
nogoods_say s (row ∷ rows) = Say-append s (nogood row) (nogoods rows) (not_all s row) (list_all (not_all s) rows) (nogood_says s row) (nogoods_say s rows)
