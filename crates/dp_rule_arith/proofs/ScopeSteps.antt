-- The scope of three terms, one term after another.
use Rattle.std.proofs.Common.{◌≡◌, List, [], ◌∷◌, refl, sym, ◌∙◌, ap}
use Rattle.dp_domain.specs.Terms.{term_scope}
use Rattle.dp_domain.specs.declared.term.Term.{Term}
use Rattle.dp_domain.specs.declared.term.Term.TheVariants.{Var, Const}
use Rattle.dp_rule_arith.specs.Scopes.{with_term}

scope_step : (t : Term) (ts : List Term) → term_scope (t ∷ ts) ≡ with_term t (term_scope ts)
scope_step (Var x) ts = refl
scope_step (Const v) ts = refl

-- the variable of each in its place, from the last on
pub scope_of_three : (a b c : Term) → with_term a (with_term b (with_term c [])) ≡ term_scope (a ∷ b ∷ c ∷ [])
scope_of_three a b c =
    sym (scope_step a (b ∷ c ∷ []) ∙ ap (with_term a) (scope_step b (c ∷ []) ∙ ap (with_term b) (scope_step c [])))
