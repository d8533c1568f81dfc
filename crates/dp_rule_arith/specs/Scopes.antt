-- Up to three variables, as the list of them.
use Rattle.std.specs.Prelude.{ℕ, List, [], ◌∷◌}
use Rattle.dp_base.specs.Scopes.{with_variable}
use Rattle.dp_domain.specs.declared.term.Term.{Term}
use Rattle.dp_domain.specs.declared.term.Term.TheVariants.{Var, Const}
use Rattle.dp_rule_arith.specs.declared.scope.Scope.{Scope}
use Rattle.dp_rule_arith.specs.declared.scope.Scope.TheVariants.{Zero, One, Two, Three}

-- the variables in order
abbrev pub listed : Scope → List ℕ
listed Zero = []
listed (One x) = x ∷ []
listed (Two x y) = x ∷ y ∷ []
listed (Three x y z) = x ∷ y ∷ z ∷ []

-- the variables with the term's, if it is one, in its place
abbrev pub with_term : Term → List ℕ → List ℕ
with_term (Var x) xs = with_variable x xs
with_term (Const v) xs = xs
