-- The union of what fails the atoms.
use Rattle.std.proofs.Common.{ℤ, List, ◌∙◌, ap, filter, subst, sym}
use Rattle.std.specs.List.{flat_map}
use Rattle.dp_base.specs.Lists.{Each}
use Rattle.dp_domain.specs.Intervals.{failing_on}
use Rattle.dp_domain.specs.Sets.{HasSmallEnds}
use Rattle.dp_domain.specs.States.{fails_one}
use Rattle.dp_domain.proofs.IntervalSteps.{fails-expand, fails-small}
use Rattle.dp_domain.proofs.dom.Dom.failing_one.Goals as goal

pub merged-requires : goal.merged-requires
merged-requires c =
    subst (Each HasSmallEnds) (sym (c.in_ok-kept.ensures ∙ ap (λ (is : List (ℤ × ℤ)). flat_map (failing_on c.args.var is) c.args.atoms.now) c.as_slice.ensures))
    (fails-small c.args.var c.self.inside.intervals.items c.args.atoms.now c.self.invariant)

pub invariant_of-result : goal.invariant_of-result
invariant_of-result c = c.in_ok-intervals.ensures.maximal

pub returns : goal.returns
returns c =
    fails-expand c.args.var c.self.inside.intervals.items c.in_ok-kept.kept.items c.in_ok-intervals.intervals.items c.args.atoms.now c.self.invariant
    (c.in_ok-kept.ensures ∙ ap (λ (is : List (ℤ × ℤ)). flat_map (failing_on c.args.var is) c.args.atoms.now) c.as_slice.ensures) c.in_ok-intervals.ensures.maximal c.in_ok-intervals.ensures.same
    ∙ ap (filter (fails_one c.args.var c.args.atoms.now)) c.self.view_is
