-- What the other set has in common with the gaps.
use mir.Syntax.{w64}
use mir.Val.{SFits, of_z, to_z}
use Rattle.std.proofs.Common.{List, ℤ, rules, ◌∙◌, ap, subst, sym}
use Rattle.std.specs.List.{filter}
use Rattle.std.proofs.lemmas.Int.{to_z-of_z}
use Rattle.dp_base.specs.Lists.{Each}
use Rattle.dp_domain.specs.Explanations.{is_hole}
use Rattle.dp_domain.specs.Intervals.{common, gaps_from}
use Rattle.dp_domain.specs.Sets.{HasSmallEnds, expand, least}
use Rattle.dp_domain.proofs.GapLaws.{gaps-apart, holes_hold}
use Rattle.dp_domain.proofs.dom.Dom.holes.Goals as goal

pub gaps_from-requires : goal.gaps_from-requires
gaps_from-requires c = subst (Each HasSmallEnds) (sym c.as_slice.ensures) c.self.invariant.small

pub common-requires : goal.common-requires
common-requires c =
    gaps-apart (to_z w64 (of_z w64 c.unwrap_or-start.result)) c.self.inside.intervals.items c.as_slice-3.result.now c.self.invariant.apart
    (c.as_slice-3.ensures ∙ c.in_ok-gaps.ensures ∙ ap (gaps_from (to_z w64 (of_z w64 c.unwrap_or-start.result))) c.as_slice.ensures)

pub invariant_of-result : goal.invariant_of-result
invariant_of-result c =
    let start = to_z w64 (of_z w64 c.unwrap_or-start.result) in
    let fits : SFits w64 c.unwrap_or-start.result = search rules in
    let hold = holes_hold c.self.inside.intervals.items c.initial.inside.intervals.items c.in_ok-intervals.intervals.items c.as_slice-3.result.now c.lower.result start
    c.initial.invariant c.self.invariant.apart (c.lower.ensures.least ∙ ap least (sym c.self.view_is)) (to_z-of_z w64 c.unwrap_or-start.result fits ∙ c.unwrap_or-start.ensures)
    (c.as_slice-3.ensures ∙ c.in_ok-gaps.ensures ∙ ap (gaps_from start) c.as_slice.ensures)
    (c.in_ok-intervals.ensures ∙ ap (λ (is : List (ℤ × ℤ)). common is c.as_slice-3.result.now) c.as_slice-2.ensures)
    in
    hold.maximal

pub returns : goal.returns
returns c =
    let start = to_z w64 (of_z w64 c.unwrap_or-start.result) in
    let fits : SFits w64 c.unwrap_or-start.result = search rules in
    let hold = holes_hold c.self.inside.intervals.items c.initial.inside.intervals.items c.in_ok-intervals.intervals.items c.as_slice-3.result.now c.lower.result start
    c.initial.invariant c.self.invariant.apart (c.lower.ensures.least ∙ ap least (sym c.self.view_is)) (to_z-of_z w64 c.unwrap_or-start.result fits ∙ c.unwrap_or-start.ensures)
    (c.as_slice-3.ensures ∙ c.in_ok-gaps.ensures ∙ ap (gaps_from start) c.as_slice.ensures)
    (c.in_ok-intervals.ensures ∙ ap (λ (is : List (ℤ × ℤ)). common is c.as_slice-3.result.now) c.as_slice-2.ensures)
    in
    hold.numbers ∙ ap (λ (xs : List ℤ). filter (is_hole xs) (expand c.initial.inside.intervals.items)) c.self.view_is ∙ ap (filter (is_hole c.args.self.now)) c.initial.view_is
