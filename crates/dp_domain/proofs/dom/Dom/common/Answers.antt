-- What the intervals have in common.
use Rattle.std.proofs.Common.{List, ℤ, ◌∙◌, ap}
use Rattle.std.specs.List.{filter}
use Rattle.dp_domain.specs.Sets.{expand, is_among}
use Rattle.dp_domain.proofs.ExpandLaws.{expand-domain}
use Rattle.dp_domain.proofs.OutsideLaws.{common_found}
use Rattle.dp_domain.proofs.dom.Dom.common.Goals as goal

pub invariant_of-result : goal.invariant_of-result
invariant_of-result c =
    (common_found c.self.inside.intervals.items c.other.inside.intervals.items c.as_slice.result.now c.as_slice-2.result.now _ c.self.invariant c.other.invariant c.as_slice.ensures c.as_slice-2.ensures c.in_ok-intervals.ensures).maximal

pub returns-clause-numbers : goal.returns-clause-numbers
returns-clause-numbers c =
    (common_found c.self.inside.intervals.items c.other.inside.intervals.items c.as_slice.result.now c.as_slice-2.result.now _ c.self.invariant c.other.invariant c.as_slice.ensures c.as_slice-2.ensures c.in_ok-intervals.ensures).numbers
    ∙ ap (λ (ys : List ℤ). filter (λ (v : ℤ). is_among v ys) (expand c.self.inside.intervals.items)) c.other.view_is
    ∙ ap (filter (λ (v : ℤ). is_among v c.args.other.now)) c.self.view_is

pub returns-clause-domain : goal.returns-clause-domain
returns-clause-domain c =
    expand-domain _ (common_found c.self.inside.intervals.items c.other.inside.intervals.items c.as_slice.result.now c.as_slice-2.result.now _ c.self.invariant c.other.invariant c.as_slice.ensures c.as_slice-2.ensures c.in_ok-intervals.ensures).maximal
