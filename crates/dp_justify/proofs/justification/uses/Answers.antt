-- The places are sorted, and doubles are taken out.
use Rattle.std.proofs.Common.{◌∙◌, ap}
use Rattle.std.specs.Prelude.{nat_eq}
use Rattle.std.proofs.lemmas.List.Filters.{dedup_is}
use Rattle.dp_base.specs.Scopes.{in_order}
use Rattle.dp_base.proofs.ScopeSteps.{sorted_scope}
use Rattle.dp_justify.proofs.justification.uses.Goals as goal

pub returns : goal.returns
returns c =
    dedup_is nat_eq c.sort_unstable.new.self.items c.dedup.new.self.items c.dedup.ensures.filtered
    ∙ sorted_scope c.in_ok-uses.uses.items c.sort_unstable.new.self.items c.sort_unstable.ensures.permutation c.sort_unstable.ensures.sorted
    ∙ ap in_order c.in_ok-uses.ensures
