-- What of the intervals meets the atom.
use Rattle.std.proofs.Common.{◌∙◌, ap, filter, subst, sym}
use Rattle.dp_domain.specs.Atoms.{meets}
use Rattle.dp_domain.specs.Intervals.{met}
use Rattle.dp_domain.specs.Sets.{AreMaximal, expand}
use Rattle.dp_domain.proofs.IntervalSteps.{met-expand, met-maximal}
use Rattle.dp_domain.proofs.dom.Dom.meeting.Goals as goal

pub invariant_of-result : goal.invariant_of-result
invariant_of-result c = subst AreMaximal (sym (c.in_ok-intervals.ensures ∙ ap (met c.args.atom) c.as_slice.ensures)) (met-maximal c.args.atom c.self.inside.intervals.items c.self.invariant)

pub returns : goal.returns
returns c =
    ap expand (c.in_ok-intervals.ensures ∙ ap (met c.args.atom) c.as_slice.ensures)
    ∙ met-expand c.args.atom c.self.inside.intervals.items c.self.invariant.apart ∙ ap (filter (meets c.args.atom)) c.self.view_is
