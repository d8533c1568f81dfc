-- What was cut so far is by the items so far.
use Rattle.std.proofs.Common.{take}
use Rattle.std.specs.List.{list_all}
use Rattle.dp_lower.specs.Cuts.{IsCutBy, own_sets}
use Rattle.dp_lower.specs.Problem.{allows}
use Rattle.dp_lower.proofs.domains.domains_of.Given as goal

abbrev pub invariant-loop-item : goal.invariant-loop-item
invariant-loop-item l = IsCutBy (λ x v. list_all (allows l.items x v) (take l.item-index l.items)) (own_sets l.items l.items) l.sets.items
