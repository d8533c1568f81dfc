-- The intervals are kept as they are.
use Rattle.std.proofs.Common.{List, ℤ, ◌∙◌, ap, subst, sym}
use Rattle.dp_domain.specs.Sets.{AreApart, Collects, LiesInOne, expand, intervals_of}
use Rattle.dp_domain.proofs.ExpandLaws.{expand-numbers, intervals_of-expand}
use Rattle.dp_domain.proofs.dom.Dom.intervals.Goals as goal

pub returns-clause-intervals : goal.returns-clause-intervals
returns-clause-intervals c =
    c.in_ok-from_slice.ensures.items ∙ c.as_slice.ensures ∙ sym (intervals_of-expand c.self.inside.intervals.items c.self.invariant.apart) ∙ ap intervals_of c.self.view_is

pub returns-clause-numbers : goal.returns-clause-numbers
returns-clause-numbers c =
    subst (λ (xs : List ℤ). Collects xs (LiesInOne c.in_ok-from_slice.field-0.items)) c.self.view_is
    (subst (λ (js : List (ℤ × ℤ)). Collects (expand c.self.inside.intervals.items) (LiesInOne js)) (sym (c.in_ok-from_slice.ensures.items ∙ c.as_slice.ensures)) (expand-numbers c.self.inside.intervals.items))

pub returns-clause-apart : goal.returns-clause-apart
returns-clause-apart c = subst AreApart (sym (c.in_ok-from_slice.ensures.items ∙ c.as_slice.ensures)) c.self.invariant.apart
