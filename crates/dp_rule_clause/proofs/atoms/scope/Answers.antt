-- The variables are sorted, and doubles are taken out.
use Rattle.std.proofs.Common.{ap, length, ◌∙◌}
use Rattle.std.specs.List.{dedup}
use Rattle.std.specs.Prelude.{nat_eq}
use Rattle.dp_base.specs.Scopes.{in_order}
use Rattle.smallvec.proofs.SmallVecLemmas.{items-with_items}
use Rattle.dp_base.proofs.ScopeSteps.{sorted_scope}
use Rattle.dp_rule_clause.proofs.atoms.scope.Goals as goal

pub returns-clause-scope : goal.returns-clause-scope
returns-clause-scope c =
    c.dedup.ensures.items
    ∙ ap (dedup nat_eq) (items-with_items c.in_ok-scope.scope c.sort_unstable.new.self (c.sort_unstable.ensures.len ∙ ap length c.deref_mut.ensures.value))
    ∙ sorted_scope c.deref_mut.result.now c.sort_unstable.new.self c.sort_unstable.ensures.permutation c.sort_unstable.ensures.sorted
    ∙ ap in_order (c.deref_mut.ensures.value ∙ c.in_ok-scope.ensures.variables)
