-- The variables and coefficients of weighted terms.
use Rattle.std.proofs.Common.{◌≡◌, ℕ, ◌≤◌, Bool, true, false, List, [], ◌∷◌, length, Result, Ok, Err, ℤ, pos, refl, arith}
use Rattle.std.specs.Prelude.{nat_lt, IfOk}
use Rattle.std.proofs.lemmas.Bool.{both_ways}
use Rattle.dp_base.specs.Lists.{Each}
use Rattle.dp_base.proofs.Lists.{Each-among}
use Rattle.dp_domain.specs.Sets.{IsSmall}
use Rattle.dp_domain.specs.declared.term.Term.{Term}
use Rattle.dp_domain.specs.declared.term.Term.TheVariants.{Var, Const}
use Rattle.dp_rule_linear.specs.Forms.{variables}
use Rattle.fz_model.specs.declared.model.Item.{Item}
use Rattle.dp_lower.specs.Codes.{IsApartFrom}
use Rattle.fz_facts.specs.Facts.{IsBoolTerm, IsIntTerm, IsSmallConst}
use Rattle.dp_lower.specs.Sums.{Sum, number_in, plus, plus_all, sum_of, weighted, with_term}
use Rattle.fz_facts.specs.Declared.{is_boolean}

-- ---- variables

-- the term is a constant, or a variable with the property
abbrev pub IsWith : (ℕ → Type 0) → Term → Type 0
IsWith P (Var x) = P x
IsWith P (Const v) = Unit {0}

each-with_term : (P : ℕ → Type 0) (t : ℤ × ℕ) (us : List (ℤ × ℕ)) → P t.1 → Each P (variables us) → Each P (variables (with_term t us))
each-with_term P t [] here h = (here, tt)
each-with_term P t (u ∷ us) here h = by (nat_lt t.1 u.1) (nat_lt u.1 t.1) refl refl (each-with_term P t us here h.1)
  where
    by : (b a : Bool) → nat_lt t.1 u.1 ≡ b → nat_lt u.1 t.1 ≡ a → Each P (variables (with_term t us)) → Each P (variables (with_term t (u ∷ us)))
    by true a e f later = rw e (here, h)
    by false true e f later = rw (e, f) (h.0, later)
    by false false e f later = rw (e, f) h

each-plus : (P : ℕ → Type 0) (q : Sum) (a : ℤ) (t : Term) → IsWith P t → Each P (variables q.terms) → Each P (variables (plus q a t).terms)
each-plus P q a (Var x) here h = each-with_term P (a, x) q.terms here h
each-plus P q a (Const v) here h = h

each-plus_all : (P : ℕ → Type 0) (q : Sum) (ts : List (ℤ × Term)) → Each (λ (t : ℤ × Term). IsWith P t.1) ts → Each P (variables q.terms) → Each P (variables (plus_all q ts).terms)
each-plus_all P q [] each h = h
each-plus_all P q (t ∷ ts) each h = each-plus_all P (plus q t.0 t.1) ts each.1 (each-plus P q t.0 t.1 each.0 h)

-- a sum is over variables of its terms
pub each-sum_of : (P : ℕ → Type 0) (ts : List (ℤ × Term)) → Each (λ (t : ℤ × Term). IsWith P t.1) ts → Each P (variables (sum_of ts).terms)
each-sum_of P ts each = each-plus_all P (record { terms = []; constant = pos 0 }) ts each tt

each-weighted : (P : ℕ → Type 0) (cs ts : List Term) → Each (IsWith P) ts → Each (λ (t : ℤ × Term). IsWith P t.1) (weighted cs ts)
each-weighted P [] ts each = tt
each-weighted P (c ∷ cs) [] each = tt
each-weighted P (c ∷ cs) (t ∷ ts) each = (each.0, each-weighted P cs ts each.1)

-- an integer term has no Boolean variable
pub integer_with : (items : List Item) (t : Term) → IsIntTerm items t → IsWith (λ x. is_boolean items x ≡ false) t
integer_with items (Var x) h = h.1
integer_with items (Const v) h = tt

each_integer : (items : List Item) (ts : List Term) → Each (IsIntTerm items) ts → Each (IsWith (λ x. is_boolean items x ≡ false)) ts
each_integer items [] h = tt
each_integer items (t ∷ ts) h = (integer_with items t h.0, each_integer items ts h.1)

-- the sum of a linear constraint is over variables that are not Boolean
pub linear_integers : (items : List Item) (cs ts : List Term) → Each (IsIntTerm items) ts → Each (λ x. is_boolean items x ≡ false) (variables (sum_of (weighted cs ts)).terms)
linear_integers items cs ts h = each-sum_of (λ x. is_boolean items x ≡ false) (weighted cs ts) (each-weighted (λ x. is_boolean items x ≡ false) cs ts (each_integer items ts h))

-- ---- coefficients

small_number : (t : Term) → IsSmallConst t → IsSmall (number_in t)
small_number (Const v) h = h
small_number (Var x) h = absurd h

-- the coefficients are small
pub weighted_small : (cs ts : List Term) → Each IsSmallConst cs → Each (λ (t : ℤ × Term). IsSmall t.0) (weighted cs ts)
weighted_small [] ts h = tt
weighted_small (c ∷ cs) [] h = tt
weighted_small (c ∷ cs) (t ∷ ts) h = (small_number c h.0, weighted_small cs ts h.1)

-- there are no more of them than coefficients
pub length-weighted : (cs ts : List Term) → length (weighted cs ts) ≤ length cs
length-weighted [] ts = omega arith
length-weighted (c ∷ cs) [] = omega arith
length-weighted (c ∷ cs) (t ∷ ts) = let h = length-weighted cs ts in omega arith

-- so they are few
pub few_pairs : (cs ts : List Term) → length cs ≤ 2000000 → length (weighted cs ts) ≤ 2000000
few_pairs cs ts h = let k = length-weighted cs ts in omega arith

-- ---- conditions

-- a Boolean term is apart from variables that are not Boolean
pub apart_boolean : (items : List Item) (r : Term) (xs : List ℕ) → IsBoolTerm items r → Each (λ x. is_boolean items x ≡ false) xs → IsApartFrom r xs
apart_boolean items (Var x) xs h each = λ here. both_ways (is_boolean items x) (Each-among (λ y. is_boolean items y ≡ false) xs each x here) h.1
apart_boolean items (Const v) xs h each = tt

-- what holds of a value in place of another fact
pub ok_map : {T E : Type 0} (r : Result T E) (P Q : T → Type 0) → ((x : T) → P x → Q x) → IfOk r P → IfOk r Q
ok_map (Ok x) P Q f h = f x h
ok_map (Err e) P Q f h = tt
