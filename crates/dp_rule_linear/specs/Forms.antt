-- Linear forms with a condition: what the two kinds of linear constraints share.
use Rattle.std.specs.Prelude.{◌≡◌, ◌≢◌, ℕ, ◌+◌, ◌^◌, ◌<◌, ◌≤◌, Option, unwrap_or, List, [], ◌∷◌, length, map, get_or, ℤ, pos, neg_ℤ, ◌+ℤ◌, ◌*ℤ◌, ◌≤ℤ◌}
use Rattle.dp_domain.specs.Atoms.{Atomic}
use Rattle.dp_domain.specs.Conditions.{IsApart, with_condition}
use Rattle.dp_domain.specs.Sets.{IsDomain, least}
use Rattle.dp_domain.specs.States.{Domains, values}
use Rattle.dp_base.specs.Lists.{Each}
use Rattle.dp_base.specs.Scopes.{in_order}

-- an atom that the constraint waits for, if any; terms, each a coefficient and a variable; and a number
pub record Linear : Type 0 where
  pub condition : Option Atomic
  pub terms : List (ℤ × ℕ)
  pub rhs : ℤ

-- the form of these parts
abbrev pub form_of : Option Atomic → List (ℤ × ℕ) → ℤ → Linear
form_of condition terms rhs = record { condition = condition; terms = terms; rhs = rhs }

-- the sum of the numbers of the terms
abbrev pub total : (ℤ × ℕ → ℤ) → List (ℤ × ℕ) → ℤ
total number [] = pos 0
total number (t ∷ ts) = number t +ℤ total number ts

-- the value of the term at an assignment
abbrev pub product : (ℕ → ℤ) → ℤ × ℕ → ℤ
product s t = t.0 *ℤ s t.1

-- the value of the sum at an assignment
abbrev pub sum_at : (ℕ → ℤ) → List (ℤ × ℕ) → ℤ
sum_at s ts = total (product s) ts

-- the values that the term may take at a state
abbrev pub products : Domains → ℤ × ℕ → List ℤ
products d t = map (λ v. t.0 *ℤ v) (values d t.1)

-- the least value of the term at a state; 0 where its variable has none
abbrev pub least_product : Domains → ℤ × ℕ → ℤ
least_product d t = unwrap_or (least (products d t)) (pos 0)

-- the sum of each term's least value
abbrev pub least_sum : Domains → List (ℤ × ℕ) → ℤ
least_sum d ts = total (least_product d) ts

-- the values of each term's variable are a domain
abbrev pub HaveDomains : List (ℤ × ℕ) → Domains → Type 0
HaveDomains ts d = Each (λ t. IsDomain (values d t.1)) ts

-- the variables of the terms
abbrev pub variables : List (ℤ × ℕ) → List ℕ
variables ts = map (λ t. t.1) ts

-- the variables of the constraint, each once, in order of declaration
abbrev pub scope_of : Linear → List ℕ
scope_of q = in_order (with_condition q.condition (variables q.terms))

-- the number lies within plus and minus the bound
abbrev pub IsBounded : ℕ → ℤ → Type 0
IsBounded bound v = (neg_ℤ (pos bound) ≤ℤ v) × (v ≤ℤ pos bound)

-- the term at the place
abbrev pub term_at : List (ℤ × ℕ) → ℕ → ℤ × ℕ
term_at ts k = get_or ts k (pos 0, 0)

-- the term at the place has a coefficient within ±10^16 that is not zero, and a variable declared after that of the term before it
pub record IsGoodAt (ts : List (ℤ × ℕ)) (k : ℕ) : Type 0 where
  pub not_zero : (term_at ts k).0 ≢ pos 0
  pub bounded : IsBounded (10 ^ 16) (term_at ts k).0
  pub later : (j : ℕ) → j + 1 ≡ k → (term_at ts j).1 < (term_at ts k).1

-- what the constructors make sure of
pub record IsProper (q : Linear) : Type 0 where
  pub few : length q.terms ≤ 2000000
  pub good : (k : ℕ) → k < length q.terms → IsGoodAt q.terms k
  pub bounded : IsBounded (10 ^ 36) q.rhs
  pub apart : IsApart q.condition (variables q.terms)
