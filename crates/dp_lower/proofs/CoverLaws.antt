-- The variables of each kind's parts are those of the model, and there are few parts.
use Rattle.std.proofs.Common.{◌≡◌, ℕ, ◌+◌, ◌<◌, ◌≤◌, Bool, true, false, Option, Some, None, List, [], ◌∷◌, ◌++◌, length, map, ℤ, pos, neg_ℤ, ◌+ℤ◌, arith, length-append}
use Rattle.std.specs.Prelude.{nat_lt, not, if◌then◌else◌}
use Rattle.std.specs.List.{filter_map, list_any, zip}
use Rattle.std.specs.Ordering.{int_eq}
use Rattle.std.proofs.lemmas.List.{length-map}
use Rattle.dp_base.specs.Lists.{Each}
use Rattle.dp_base.specs.Scopes.{in_order}
use Rattle.dp_base.proofs.Lists.{Each-among, Each-append, Each-filter, Each-from_among}
use Rattle.dp_base.proofs.ScopeLaws.{among_in_order_out}
use Rattle.dp_domain.specs.Atoms.{Atomic}
use Rattle.dp_domain.specs.Conditions.{with_condition}
use Rattle.dp_domain.specs.Terms.{IsTermOf, AreTermsOf, term_scope, term_variables}
use Rattle.dp_domain.specs.declared.term.Term.{Term}
use Rattle.dp_domain.specs.declared.term.Term.TheVariants.{Var, Const}
use Rattle.dp_parts.specs.Parts.{face_of}
use Rattle.dp_parts.specs.declared.part.Part.{Part}
use Rattle.dp_parts.specs.declared.part.Part.TheVariants.{Nogood}
use Rattle.dp_rule_clause.specs.Nogoods as nogoods_spec
use Rattle.dp_rule_cumulative.specs.Schedules as schedule
use Rattle.dp_rule_linear.specs.Forms as linear
use Rattle.fz_model.specs.declared.model.SetText.{SetText}
use Rattle.fz_sat.specs.Args.{is_in_set}
use Rattle.fz_sat.specs.Meaning.{is_on}
use Rattle.dp_lower.specs.Arithmetic.{absolute_is, greater_is, lesser_is, multiplied}
use Rattle.dp_lower.specs.Globals.{all_different, numbers_in, scheduled, selected}
use Rattle.dp_lower.specs.Recipe.{all_rows, any_rows, clause_row, clause_rows, member, member_reified, other_rows, rows_by, same_rows}
use Rattle.dp_lower.specs.Sides.{Side, always, atom_of, is_above, is_at_most, is_equal, is_member, is_no_member, is_other, is_refuted, nogood, nogoods, off, on, passes, reified}
use Rattle.dp_lower.specs.Sums.{Sum, no_sum, nonzero, opposite, plus, plus_all, sum_of, weighted, with_term}
use Rattle.dp_lower.specs.declared.literal.Literal.{Literal}
use Rattle.dp_lower.specs.declared.literal.Literal.TheVariants.{Holds, Fails}

-- the number is one of the n variables
abbrev pub IsOf : ℕ → ℕ → Type 0
IsOf n x = x < n

-- the part speaks of the n variables alone
abbrev pub IsCovered : ℕ → Part → Type 0
IsCovered n q = Each (IsOf n) (face_of q).scope

-- the parts speak of the n variables alone, and there are at most k
pub record AreFine (n k : ℕ) (parts : List Part) : Type 0 where
  pub covered : Each (IsCovered n) parts
  pub few : length parts ≤ k

-- ---- lists

pub Each-map : {A B : Type 0} (P : A → Type 0) (Q : B → Type 0) (f : A → B) → ((x : A) → P x → Q (f x)) → (xs : List A) → Each P xs → Each Q (map f xs)
Each-map P Q f h [] each = tt
Each-map P Q f h (x ∷ xs) each = (h x each.0, Each-map P Q f h xs each.1)

in_order_of : (n : ℕ) (xs : List ℕ) → Each (IsOf n) xs → Each (IsOf n) (in_order xs)
in_order_of n xs each = Each-from_among (IsOf n) (in_order xs) (λ x here. Each-among (IsOf n) xs each x (among_in_order_out x xs here))

pub none_fine : (n k : ℕ) → AreFine n k []
none_fine n k = record { covered = tt; few = omega arith }

pub one_fine : (n : ℕ) (q : Part) → IsCovered n q → AreFine n 1 (q ∷ [])
one_fine n q h = record { covered = (h, tt); few = omega arith }

pub more_fine : (n j k : ℕ) (parts : List Part) → j ≤ k → AreFine n j parts → AreFine n k parts
more_fine n j k parts h fine = record { covered = fine.covered; few = let few = fine.few in omega arith }

pub append_fine : (n j k : ℕ) (xs ys : List Part) → AreFine n j xs → AreFine n k ys → AreFine n (j + k) (xs ++ ys)
append_fine n j k xs ys f g = record {
  covered = Each-append (IsCovered n) xs ys f.covered g.covered;
  few = let a = f.few in let b = g.few in let e : length (xs ++ ys) ≡ length xs + length ys = length-append xs ys in omega arith;
}

-- ---- terms

variables_of : (n : ℕ) (terms : List Term) → AreTermsOf n terms → Each (IsOf n) (term_variables terms)
variables_of n [] each = tt
variables_of n (Var x ∷ terms) each = (each.0, variables_of n terms each.1)
variables_of n (Const v ∷ terms) each = variables_of n terms each.1

pub scope_of_terms : (n : ℕ) (terms : List Term) → AreTermsOf n terms → Each (IsOf n) (term_scope terms)
scope_of_terms n terms each = in_order_of n (term_variables terms) (variables_of n terms each)

-- ---- sums

-- the sum speaks of the n variables alone
abbrev pub IsSumOf : ℕ → Sum → Type 0
IsSumOf n q = Each (λ t. IsOf n t.1) q.terms

with_by : (n : ℕ) (t u : ℤ × ℕ) (us : List (ℤ × ℕ)) (b c : Bool) → IsOf n t.1 → IsOf n u.1 → Each (λ t. IsOf n t.1) us → Each (λ t. IsOf n t.1) (with_term t us) →
    Each (λ t. IsOf n t.1) (if b then t ∷ u ∷ us else if c then u ∷ with_term t us else (u.0 +ℤ t.0, u.1) ∷ us)
with_by n t u us true c h g each more = (h, (g, each))
with_by n t u us false true h g each more = (g, more)
with_by n t u us false false h g each more = (g, each)

with_term_of : (n : ℕ) (t : ℤ × ℕ) (us : List (ℤ × ℕ)) → IsOf n t.1 → Each (λ t. IsOf n t.1) us → Each (λ t. IsOf n t.1) (with_term t us)
with_term_of n t [] h each = (h, tt)
with_term_of n t (u ∷ us) h each = with_by n t u us (nat_lt t.1 u.1) (nat_lt u.1 t.1) h each.0 each.1 (with_term_of n t us h each.1)

plus_of : (n : ℕ) (q : Sum) (a : ℤ) (t : Term) → IsTermOf n t → IsSumOf n q → IsSumOf n (plus q a t)
plus_of n q a (Var x) h each = with_term_of n (a, x) q.terms h each
plus_of n q a (Const v) h each = each

plus_all_of : (n : ℕ) (q : Sum) (ts : List (ℤ × Term)) → Each (λ t. IsTermOf n t.1) ts → IsSumOf n q → IsSumOf n (plus_all q ts)
plus_all_of n q [] each h = h
plus_all_of n q (t ∷ ts) each h = plus_all_of n (plus q t.0 t.1) ts each.1 (plus_of n q t.0 t.1 each.0 h)

pub sum_of_terms : (n : ℕ) (ts : List (ℤ × Term)) → Each (λ t. IsTermOf n t.1) ts → IsSumOf n (sum_of ts)
sum_of_terms n ts each = plus_all_of n no_sum ts each tt

pub weighted_of : (n : ℕ) (cs ts : List Term) → AreTermsOf n ts → Each (λ t. IsTermOf n t.1) (weighted cs ts)
weighted_of n [] ts each = tt
weighted_of n (c ∷ cs) [] each = tt
weighted_of n (c ∷ cs) (t ∷ ts) each = (each.0, weighted_of n cs ts each.1)

opposite_of : (n : ℕ) (q : Sum) → IsSumOf n q → IsSumOf n (opposite q)
opposite_of n q each = Each-map (λ t. IsOf n t.1) (λ t. IsOf n t.1) (λ t. (neg_ℤ t.0, t.1)) (λ t h. h) q.terms each

-- ---- sides

-- the condition, if there is one, is on one of the n variables
abbrev pub IsConditionOf : ℕ → Option Atomic → Type 0
IsConditionOf n None = Unit {0}
IsConditionOf n (Some a) = IsOf n a.var

-- under each condition on one of them the parts are fine
abbrev pub IsFineSide : ℕ → ℕ → Side → Type 0
IsFineSide n k side = (c : Option Atomic) → IsConditionOf n c → AreFine n k (side c)

with_condition_of : (n : ℕ) (c : Option Atomic) (xs : List ℕ) → IsConditionOf n c → Each (IsOf n) xs → Each (IsOf n) (with_condition c xs)
with_condition_of n None xs h each = each
with_condition_of n (Some a) xs h each = (h, each)

linear_covered : (n : ℕ) (c : Option Atomic) (q : Sum) → IsConditionOf n c → IsSumOf n q → Each (IsOf n) (in_order (with_condition c (linear.variables (nonzero q.terms))))
linear_covered n c q h each =
    in_order_of n (with_condition c (linear.variables (nonzero q.terms)))
    (with_condition_of n c (linear.variables (nonzero q.terms)) h
    (Each-map (λ (t : ℤ × ℕ). IsOf n t.1) (IsOf n) (λ (t : ℤ × ℕ). t.1) (λ t k. k) (nonzero q.terms) (Each-filter (λ (t : ℤ × ℕ). IsOf n t.1) (λ (t : ℤ × ℕ). not (int_eq t.0 (pos 0))) q.terms each)))

pub at_most_fine : (n : ℕ) (q : Sum) (k : ℤ) → IsSumOf n q → IsFineSide n 1 (is_at_most q k)
at_most_fine n q k each = λ c h. record { covered = (linear_covered n c q h each, tt); few = omega arith }

pub above_fine : (n : ℕ) (q : Sum) (k : ℤ) → IsSumOf n q → IsFineSide n 1 (is_above q k)
above_fine n q k each = λ c h. record { covered = (linear_covered n c (opposite q) h (opposite_of n q each), tt); few = omega arith }

pub equal_fine : (n : ℕ) (q : Sum) (k : ℤ) → IsSumOf n q → IsFineSide n 2 (is_equal q k)
equal_fine n q k each = λ c h. record { covered = (linear_covered n c q h each, (linear_covered n c (opposite q) h (opposite_of n q each), tt)); few = omega arith }

pub other_fine : (n : ℕ) (q : Sum) (k : ℤ) → IsSumOf n q → IsFineSide n 1 (is_other q k)
other_fine n q k each = λ c h. record { covered = (linear_covered n c q h each, tt); few = omega arith }

pub passes_fine : (n x : ℕ) (test : ℤ → Bool) → IsOf n x → IsFineSide n 1 (passes x test)
passes_fine n x test there = λ c h. record { covered = (in_order_of n (with_condition c (x ∷ [])) (with_condition_of n c (x ∷ []) h (there, tt)), tt); few = omega arith }

pub always_fine : (n k : ℕ) (side : Side) → IsFineSide n k side → AreFine n k (always side)
always_fine n k side fine = fine None tt

pub reified_fine : (n j k : ℕ) (r : Term) (side other : Side) → IsTermOf n r → IsFineSide n j side → IsFineSide n k other → AreFine n (j + k) (reified r side other)
reified_fine n j k (Var x) side other h f g = append_fine n j k (side (Some (on x))) (other (Some (off x))) (f (Some (on x)) h) (g (Some (off x)) h)
reified_fine n j k (Const v) side other h f g = by (is_on v)
  where
    by : (b : Bool) → AreFine n (j + k) (if b then always side else always other)
    by true = more_fine n j (j + k) (always side) (omega arith) (f None tt)
    by false = more_fine n k (j + k) (always other) (omega arith) (g None tt)

-- ---- nogoods

-- the literal's variable, if it has one, is one of the n
abbrev pub IsLiteralOf : ℕ → Literal → Type 0
IsLiteralOf n (Holds t) = IsTermOf n t
IsLiteralOf n (Fails t) = IsTermOf n t

-- so are those of the rows, and there are at most k rows
pub record AreRowsOf (n k : ℕ) (rows : List (List Literal)) : Type 0 where
  pub each : Each (Each (IsLiteralOf n)) rows
  pub few : length rows ≤ k

atoms_of : (n : ℕ) (literals : List Literal) → Each (IsLiteralOf n) literals → Each (λ a. IsOf n a.var) (filter_map atom_of literals)
atoms_of n [] each = tt
atoms_of n (Holds (Var x) ∷ literals) each = (each.0, atoms_of n literals each.1)
atoms_of n (Fails (Var x) ∷ literals) each = (each.0, atoms_of n literals each.1)
atoms_of n (Holds (Const v) ∷ literals) each = atoms_of n literals each.1
atoms_of n (Fails (Const v) ∷ literals) each = atoms_of n literals each.1

once_of : (n : ℕ) (atoms : List Atomic) → Each (λ a. IsOf n a.var) atoms → Each (λ a. IsOf n a.var) (nogoods_spec.each_once atoms)
once_of n [] each = tt
once_of n (a ∷ atoms) each =
    (each.0, Each-filter (λ (b : Atomic). IsOf n b.var) (λ (b : Atomic). not (nogoods_spec.same_atom a b)) (nogoods_spec.each_once atoms) (once_of n atoms each.1))

nogood_covered : (n : ℕ) (atoms : List Atomic) → Each (λ a. IsOf n a.var) atoms → IsCovered n (Nogood atoms)
nogood_covered n atoms each =
    in_order_of n (nogoods_spec.variables atoms) (Each-map (λ (a : Atomic). IsOf n a.var) (IsOf n) (λ (a : Atomic). a.var) (λ a h. h) atoms each)

pub nogood_fine : (n : ℕ) (literals : List Literal) → Each (IsLiteralOf n) literals → AreFine n 1 (nogood literals)
nogood_fine n literals each = by (list_any is_refuted literals)
  where
    atoms : List Atomic
    atoms = nogoods_spec.each_once (filter_map atom_of literals)

    by : (b : Bool) → AreFine n 1 (if b then [] else Nogood (nogoods_spec.each_once (filter_map atom_of literals)) ∷ [])
    by true = none_fine n 1
    by false = one_fine n (Nogood (nogoods_spec.each_once (filter_map atom_of literals))) (nogood_covered n (nogoods_spec.each_once (filter_map atom_of literals)) (once_of n (filter_map atom_of literals) (atoms_of n literals each)))

each_nogood : (n : ℕ) (rows : List (List Literal)) → Each (Each (IsLiteralOf n)) rows → AreFine n (length rows) (nogoods rows)
each_nogood n [] each = none_fine n 0
each_nogood n (row ∷ rows) each =
    more_fine n (1 + length rows) (length (row ∷ rows)) (nogoods (row ∷ rows)) (omega arith)
    (append_fine n 1 (length rows) (nogood row) (nogoods rows) (nogood_fine n row each.0) (each_nogood n rows each.1))

pub nogoods_fine : (n k : ℕ) (rows : List (List Literal)) → AreRowsOf n k rows → AreFine n k (nogoods rows)
nogoods_fine n k rows h = more_fine n (length rows) k (nogoods rows) h.few (each_nogood n rows h.each)

-- ---- rows

pub same_rows_of : (n : ℕ) (a b : Term) → IsTermOf n a → IsTermOf n b → AreRowsOf n 2 (same_rows a b)
same_rows_of n a b h g = record { each = ((h, (g, tt)), ((h, (g, tt)), tt)); few = omega arith }

pub other_rows_of : (n : ℕ) (a b : Term) → IsTermOf n a → IsTermOf n b → AreRowsOf n 2 (other_rows a b)
other_rows_of n a b h g = record { each = ((h, (g, tt)), ((h, (g, tt)), tt)); few = omega arith }

append_rows : (n j k : ℕ) (xs ys : List (List Literal)) → AreRowsOf n j xs → AreRowsOf n k ys → AreRowsOf n (j + k) (xs ++ ys)
append_rows n j k xs ys f g = record {
  each = Each-append (Each (IsLiteralOf n)) xs ys f.each g.each;
  few = let a = f.few in let b = g.few in let e : length (xs ++ ys) ≡ length xs + length ys = length-append xs ys in omega arith;
}

-- a row of each of the terms
map_rows : (n k : ℕ) (f : Term → List Literal) (terms : List Term) → ((t : Term) → IsTermOf n t → Each (IsLiteralOf n) (f t)) → AreTermsOf n terms → length terms ≤ k → AreRowsOf n k (map f terms)
map_rows n k f terms h each few = record {
  each = Each-map (IsTermOf n) (Each (IsLiteralOf n)) f h terms each;
  few = let e = length-map terms f in omega arith;
}

longer_rows : (n k : ℕ) (l : Literal) (rows : List (List Literal)) → IsLiteralOf n l → AreRowsOf n k rows → AreRowsOf n k (map (λ row. l ∷ row) rows)
longer_rows n k l rows h of = record {
  each = Each-map (Each (IsLiteralOf n)) (Each (IsLiteralOf n)) (λ row. l ∷ row) (λ row each. (h, each)) rows of.each;
  few = let few = of.few in let e = length-map rows (λ (row : List Literal). l ∷ row) in omega arith;
}

pub rows_by_of : (n j k : ℕ) (r : Term) (rows others : List (List Literal)) → IsTermOf n r → AreRowsOf n j rows → AreRowsOf n k others → AreRowsOf n (j + k) (rows_by r rows others)
rows_by_of n j k r rows others h f g =
    append_rows n j k (map (λ row. Holds r ∷ row) rows) (map (λ row. Fails r ∷ row) others) (longer_rows n j (Holds r) rows h f) (longer_rows n k (Fails r) others h g)

holds_of : (n : ℕ) (terms : List Term) → AreTermsOf n terms → Each (IsLiteralOf n) (map Holds terms)
holds_of n terms each = Each-map (IsTermOf n) (IsLiteralOf n) Holds (λ t h. h) terms each

fails_of : (n : ℕ) (terms : List Term) → AreTermsOf n terms → Each (IsLiteralOf n) (map Fails terms)
fails_of n terms each = Each-map (IsTermOf n) (IsLiteralOf n) Fails (λ t h. h) terms each

one_row : (n : ℕ) (row : List Literal) → Each (IsLiteralOf n) row → AreRowsOf n 1 (row ∷ [])
one_row n row each = record { each = (each, tt); few = omega arith }

pub all_rows_of : (n k : ℕ) (terms : List Term) (r : Term) → AreTermsOf n terms → length terms ≤ k → IsTermOf n r → AreRowsOf n (k + 1) (all_rows terms r)
all_rows_of n k terms r each few h =
    append_rows n k 1 (map (λ a. Holds r ∷ Fails a ∷ []) terms) ((Fails r ∷ map Holds terms) ∷ [])
    (map_rows n k (λ a. Holds r ∷ Fails a ∷ []) terms (λ t g. (h, (g, tt))) each few) (one_row n (Fails r ∷ map Holds terms) (h, holds_of n terms each))

pub any_rows_of : (n k : ℕ) (terms : List Term) (r : Term) → AreTermsOf n terms → length terms ≤ k → IsTermOf n r → AreRowsOf n (k + 1) (any_rows terms r)
any_rows_of n k terms r each few h =
    append_rows n k 1 (map (λ a. Fails r ∷ Holds a ∷ []) terms) ((Holds r ∷ map Fails terms) ∷ [])
    (map_rows n k (λ a. Fails r ∷ Holds a ∷ []) terms (λ t g. (h, (g, tt))) each few) (one_row n (Holds r ∷ map Fails terms) (h, fails_of n terms each))

pub clause_row_of : (n : ℕ) (terms others : List Term) → AreTermsOf n terms → AreTermsOf n others → Each (IsLiteralOf n) (clause_row terms others)
clause_row_of n terms others f g = Each-append (IsLiteralOf n) (map Fails terms) (map Holds others) (fails_of n terms f) (holds_of n others g)

pub clause_rows_of : (n j k : ℕ) (terms others : List Term) (r : Term) → AreTermsOf n terms → length terms ≤ j → AreTermsOf n others → length others ≤ k → IsTermOf n r → AreRowsOf n (1 + (j + k)) (clause_rows terms others r)
clause_rows_of n j k terms others r f few g fewer h =
    append_rows n 1 (j + k) ((Holds r ∷ clause_row terms others) ∷ []) (map (λ a. Fails r ∷ Holds a ∷ []) terms ++ map (λ b. Fails r ∷ Fails b ∷ []) others)
    (one_row n (Holds r ∷ clause_row terms others) (h, clause_row_of n terms others f g))
    (append_rows n j k (map (λ a. Fails r ∷ Holds a ∷ []) terms) (map (λ b. Fails r ∷ Fails b ∷ []) others)
    (map_rows n j (λ a. Fails r ∷ Holds a ∷ []) terms (λ t p. (h, (p, tt))) f few) (map_rows n k (λ b. Fails r ∷ Fails b ∷ []) others (λ t p. (h, (p, tt))) g fewer))

-- ---- sets

pub member_fine : (n : ℕ) (t : Term) (set : SetText) → IsTermOf n t → AreFine n 1 (member t set)
member_fine n (Var x) set h = always_fine n 1 (is_member x set) (passes_fine n x (is_in_set set) h)
member_fine n (Const v) set h = by (is_in_set set v)
  where
    by : (b : Bool) → AreFine n 1 (if b then [] else nogood [])
    by true = none_fine n 1
    by false = nogood_fine n [] tt

pub member_reified_fine : (n : ℕ) (t : Term) (set : SetText) (r : Term) → IsTermOf n t → IsTermOf n r → AreFine n 2 (member_reified t set r)
member_reified_fine n (Var x) set r h g = reified_fine n 1 1 r (is_member x set) (is_no_member x set) g (passes_fine n x (is_in_set set) h) (passes_fine n x (λ v. not (is_in_set set v)) h)
member_reified_fine n (Const v) set r h g = by (is_in_set set v)
  where
    by : (b : Bool) → AreFine n 2 (if b then nogood (Fails r ∷ []) else nogood (Holds r ∷ []))
    by true = more_fine n 1 2 (nogood (Fails r ∷ [])) (omega arith) (nogood_fine n (Fails r ∷ []) (g, tt))
    by false = more_fine n 1 2 (nogood (Holds r ∷ [])) (omega arith) (nogood_fine n (Holds r ∷ []) (g, tt))

-- ---- whole arrays

pub selected_fine : (n : ℕ) (index : Term) (array : List Term) (value : Term) → IsTermOf n index → AreTermsOf n array → IsTermOf n value → AreFine n 1 (selected index array value)
selected_fine n index array value h each g = record { covered = (scope_of_terms n (index ∷ value ∷ array) (h, (g, each)), tt); few = omega arith }

pub all_different_fine : (n : ℕ) (terms : List Term) → AreTermsOf n terms → AreFine n 1 (all_different terms)
all_different_fine n terms each = record { covered = (scope_of_terms n terms each, tt); few = omega arith }

pub multiplied_fine : (n : ℕ) (a b c : Term) → IsTermOf n a → IsTermOf n b → IsTermOf n c → AreFine n 1 (multiplied a b c)
multiplied_fine n a b c f g h = record { covered = (scope_of_terms n (a ∷ b ∷ c ∷ []) (f, (g, (h, tt))), tt); few = omega arith }

pub greater_fine : (n : ℕ) (a b c : Term) → IsTermOf n a → IsTermOf n b → IsTermOf n c → AreFine n 1 (greater_is a b c)
greater_fine n a b c f g h = record { covered = (scope_of_terms n (a ∷ b ∷ c ∷ []) (f, (g, (h, tt))), tt); few = omega arith }

pub lesser_fine : (n : ℕ) (a b c : Term) → IsTermOf n a → IsTermOf n b → IsTermOf n c → AreFine n 1 (lesser_is a b c)
lesser_fine n a b c f g h = record { covered = (scope_of_terms n (a ∷ b ∷ c ∷ []) (f, (g, (h, tt))), tt); few = omega arith }

pub absolute_fine : (n : ℕ) (a b : Term) → IsTermOf n a → IsTermOf n b → AreFine n 1 (absolute_is a b)
absolute_fine n a b f g = record { covered = (scope_of_terms n (a ∷ Const (pos 0) ∷ b ∷ []) (f, (tt, (g, tt))), tt); few = omega arith }

starts_of : (n : ℕ) (starts : List Term) (durations uses : List ℤ) → AreTermsOf n starts → AreTermsOf n (schedule.starts (map schedule.task_of (zip starts (zip durations uses))))
starts_of n [] durations uses each = tt
starts_of n (s ∷ starts) [] uses each = tt
starts_of n (s ∷ starts) (d ∷ durations) [] each = tt
starts_of n (s ∷ starts) (d ∷ durations) (u ∷ uses) each = (each.0, starts_of n starts durations uses each.1)

pub scheduled_fine : (n : ℕ) (starts durations uses : List Term) (capacity : Term) → AreTermsOf n starts → AreFine n 1 (scheduled starts durations uses capacity)
scheduled_fine n starts durations uses capacity each = record {
  covered = (scope_of_terms n (schedule.starts (map schedule.task_of (zip starts (zip (numbers_in durations) (numbers_in uses))))) (starts_of n starts (numbers_in durations) (numbers_in uses) each), tt);
  few = omega arith;
}
