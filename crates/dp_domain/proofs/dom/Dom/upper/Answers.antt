-- The greatest number ends the last interval.
use Rattle.std.proofs.Common.{◌∙◌, arith, subst}
use Rattle.std.proofs.lemmas.Int.{ints}
use Rattle.dp_domain.specs.Sets.{IsDomain}
use Rattle.dp_domain.proofs.ExpandLaws.{expand-domain, greatest_none, greatest_some}
use Rattle.dp_domain.proofs.dom.Dom.upper.Goals as goal

pub returns-in_err-last-clause-greatest : goal.returns-in_err-last-clause-greatest
returns-in_err-last-clause-greatest c = c.from_residual.ensures ∙ greatest_none c.self.inside.intervals.items c.deref.result.now c.args.self.now c.self.invariant.apart c.self.view_is c.deref.ensures c.in_err-last.ensures.value

pub returns-in_err-last-clause-domain : goal.returns-in_err-last-clause-domain
returns-in_err-last-clause-domain c = subst IsDomain c.self.view_is (expand-domain c.self.inside.intervals.items c.self.invariant)

pub returns-clause-greatest : goal.returns-clause-greatest
returns-clause-greatest c = greatest_some c.self.inside.intervals.items c.deref.result.now c.args.self.now c.in_ok-last.field-0.now _ c.self.invariant.apart c.self.view_is c.deref.ensures c.in_ok-last.ensures.value (omega (arith, ints))

pub returns-clause-domain : goal.returns-clause-domain
returns-clause-domain c = subst IsDomain c.self.view_is (expand-domain c.self.inside.intervals.items c.self.invariant)
