-- Weighted sums of terms in their normal form: constants apart, equal variables merged, in order of declaration.
use Rattle.std.specs.Prelude.{ℕ, not, nat_lt, if◌then◌else◌, Option, List, [], ◌∷◌, map, filter, ℤ, pos, neg_ℤ, ◌+ℤ◌, ◌-ℤ◌, ◌*ℤ◌}
use Rattle.std.specs.List.{zip}
use Rattle.std.specs.Ordering.{int_eq}
use Rattle.dp_domain.specs.Atoms.{Atomic}
use Rattle.dp_domain.specs.declared.term.Term.{Term}
use Rattle.dp_domain.specs.declared.term.Term.TheVariants.{Var, Const}
use Rattle.dp_parts.specs.declared.part.Part.{Part}
use Rattle.dp_parts.specs.declared.part.Part.TheVariants.{LinLe, LinNe}
use Rattle.dp_rule_linear.specs.Forms.{form_of}

-- coefficients of variables, in order of declaration, and a number
pub record Sum : Type 0 where
  pub terms : List (ℤ × ℕ)
  pub constant : ℤ

-- the term joins those in order: its coefficient is added to that of its variable
abbrev pub with_term : ℤ × ℕ → List (ℤ × ℕ) → List (ℤ × ℕ)
with_term t [] = t ∷ []
with_term t (u ∷ us) = if nat_lt t.1 u.1 then t ∷ u ∷ us else if nat_lt u.1 t.1 then u ∷ with_term t us else (u.0 +ℤ t.0, u.1) ∷ us

-- the sum and a multiple of a term
abbrev pub plus : Sum → ℤ → Term → Sum
plus q a (Var x) = record { terms = with_term (a, x) q.terms; constant = q.constant }
plus q a (Const v) = record { terms = q.terms; constant = q.constant +ℤ (a *ℤ v) }

-- the sum and multiples of these terms
abbrev pub plus_all : Sum → List (ℤ × Term) → Sum
plus_all q [] = q
plus_all q (t ∷ ts) = plus_all (plus q t.0 t.1) ts

-- nothing summed
abbrev pub no_sum : Sum
no_sum = record { terms = []; constant = pos 0 }

-- the sum of multiples of these terms
abbrev pub sum_of : List (ℤ × Term) → Sum
sum_of ts = plus_all no_sum ts

-- the number that a term is
abbrev pub number_in : Term → ℤ
number_in (Const v) = v
number_in (Var x) = pos 0

-- the terms, each with its coefficient
abbrev pub weighted : List Term → List Term → List (ℤ × Term)
weighted coefficients terms = map (λ p. (number_in p.0, p.1)) (zip coefficients terms)

-- each coefficient and the number negated
abbrev pub opposite : Sum → Sum
opposite q = record { terms = map (λ t. (neg_ℤ t.0, t.1)) q.terms; constant = neg_ℤ q.constant }

-- the terms whose coefficient is not zero
abbrev pub nonzero : List (ℤ × ℕ) → List (ℤ × ℕ)
nonzero ts = filter (λ t. not (int_eq t.0 (pos 0))) ts

-- where the condition holds, the sum is at most k
abbrev pub at_most : Sum → ℤ → Option Atomic → Part
at_most q k condition = LinLe (form_of condition (nonzero q.terms) (k -ℤ q.constant))

-- where the condition holds, the sum differs from k
abbrev pub other_than : Sum → ℤ → Option Atomic → Part
other_than q k condition = LinNe (form_of condition (nonzero q.terms) (k -ℤ q.constant))
