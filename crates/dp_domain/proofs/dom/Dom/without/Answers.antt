-- What the intervals have in common with what lies outside of the others.
use Rattle.std.proofs.Common.{List, ℤ, not, ◌∙◌, ap}
use Rattle.std.specs.List.{filter}
use Rattle.dp_domain.specs.Sets.{expand, is_among}
use Rattle.dp_domain.proofs.ExpandLaws.{expand-domain}
use Rattle.dp_domain.proofs.OutsideLaws.{outside_found, without_found}
use Rattle.dp_domain.proofs.dom.Dom.without.Goals as goal

pub common-requires : goal.common-requires
common-requires c = outside_found c.other.inside.intervals.items c.as_slice.result.now c.in_ok-outside.outside.items c.as_slice-3.result.now c.other.invariant c.as_slice.ensures c.in_ok-outside.ensures c.as_slice-3.ensures

pub invariant_of-result : goal.invariant_of-result
invariant_of-result c = (without_found c.self.inside.intervals.items c.other.inside.intervals.items c.as_slice-2.result.now c.as_slice.result.now c.in_ok-outside.outside.items c.as_slice-3.result.now _ c.self.invariant c.other.invariant c.as_slice-2.ensures c.as_slice.ensures c.in_ok-outside.ensures c.as_slice-3.ensures c.in_ok-intervals.ensures).maximal

pub returns-clause-numbers : goal.returns-clause-numbers
returns-clause-numbers c =
    (without_found c.self.inside.intervals.items c.other.inside.intervals.items c.as_slice-2.result.now c.as_slice.result.now c.in_ok-outside.outside.items c.as_slice-3.result.now _ c.self.invariant c.other.invariant c.as_slice-2.ensures c.as_slice.ensures c.in_ok-outside.ensures c.as_slice-3.ensures c.in_ok-intervals.ensures).numbers
    ∙ ap (λ (ys : List ℤ). filter (λ (v : ℤ). not (is_among v ys)) (expand c.self.inside.intervals.items)) c.other.view_is
    ∙ ap (filter (λ (v : ℤ). not (is_among v c.args.other.now))) c.self.view_is

pub returns-clause-domain : goal.returns-clause-domain
returns-clause-domain c = expand-domain _ (without_found c.self.inside.intervals.items c.other.inside.intervals.items c.as_slice-2.result.now c.as_slice.result.now c.in_ok-outside.outside.items c.as_slice-3.result.now _ c.self.invariant c.other.invariant c.as_slice-2.ensures c.as_slice.ensures c.in_ok-outside.ensures c.as_slice-3.ensures c.in_ok-intervals.ensures).maximal
