-- Terms: a variable, or a number, which counts as a variable whose set is that one number.
use Rattle.std.specs.Prelude.{ℕ, ◌<◌, List, [], ◌∷◌, Option, Some, None, ℤ}
use Rattle.std.specs.List.{filter_map}
use Rattle.dp_base.specs.Lists.{Each}
use Rattle.dp_base.specs.Scopes.{in_order}
use Rattle.dp_domain.specs.States.{Domains, values}
use Rattle.dp_domain.specs.declared.term.Term.{Term}
use Rattle.dp_domain.specs.declared.term.Term.TheVariants.{Var, Const}

-- the values that the term may take at a state
abbrev pub term_values : Domains → Term → List ℤ
term_values d (Var x) = values d x
term_values d (Const v) = v ∷ []

-- the value of the term at an assignment
abbrev pub term_at : (ℕ → ℤ) → Term → ℤ
term_at s (Var x) = s x
term_at s (Const v) = v

-- the term's variable, if it is one
abbrev pub variable_of : Term → Option ℕ
variable_of (Var x) = Some x
variable_of (Const v) = None

-- the variables among the terms, as often as they stand there
abbrev pub term_variables : List Term → List ℕ
term_variables terms = filter_map variable_of terms

-- the variables of the terms, each once, in order of declaration
abbrev pub term_scope : List Term → List ℕ
term_scope terms = in_order (term_variables terms)

-- the term's variable, if it is one, is below the number of variables
abbrev pub IsTermOf : ℕ → Term → Type 0
IsTermOf variables (Var x) = x < variables
IsTermOf variables (Const v) = Unit {0}

-- each term is such
abbrev pub AreTermsOf : ℕ → List Term → Type 0
AreTermsOf variables terms = Each (IsTermOf variables) terms
