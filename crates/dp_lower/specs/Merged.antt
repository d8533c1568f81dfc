-- How large the numbers of a sum in its normal form are.
use Rattle.std.specs.Prelude.{ℕ, ◌*◌, ◌≤◌, List, length, map, ℤ}
use Rattle.dp_base.specs.Lists.{Climbs, Each}
use Rattle.dp_domain.specs.declared.term.Term.{Term}
use Rattle.dp_domain.specs.declared.term.Term.TheVariants.{Var, Const}
use Rattle.dp_rule_linear.specs.Forms.{IsBounded, variables}
use Rattle.dp_lower.specs.Sums.{Sum}

-- a sum of at most n terms with small coefficients: each variable once, in order
pub record IsMerged (n : ℕ) (q : Sum) : Type 0 where
  pub few : length q.terms ≤ n
  pub bounded : Each (λ t. IsBounded (n * 1000000000) t.0) q.terms
  pub climbing : Climbs (variables q.terms)
  pub constant : IsBounded (n * 100000000000000000000000000000) q.constant

-- the entries of a map from variables to coefficients, as terms
abbrev pub terms_in : List (ℕ × ℤ) → List (ℤ × ℕ)
terms_in entries = map (λ e. (e.1, e.0)) entries

-- the sum of these entries and a number
abbrev pub sum_in : List (ℕ × ℤ) → ℤ → Sum
sum_in entries constant = record { terms = terms_in entries; constant = constant }

-- a number of a term fits 64 bits
abbrev pub IsWord : Term → Type 0
IsWord (Const v) = IsBounded 10000000000000000000 v
IsWord (Var x) = Unit {0}
