-- The least number begins the first interval.
use Rattle.std.proofs.Common.{◌∙◌, arith, subst}
use Rattle.std.proofs.lemmas.Int.{ints}
use Rattle.dp_domain.specs.Sets.{IsDomain}
use Rattle.dp_domain.proofs.ExpandLaws.{expand-domain, least_none, least_some}
use Rattle.dp_domain.proofs.dom.Dom.lower.Goals as goal

pub returns-in_err-first-clause-least : goal.returns-in_err-first-clause-least
returns-in_err-first-clause-least c = c.from_residual.ensures ∙ least_none c.self.inside.intervals.items c.deref.result.now c.args.self.now c.self.invariant.apart c.self.view_is c.deref.ensures c.in_err-first.ensures.value

pub returns-in_err-first-clause-domain : goal.returns-in_err-first-clause-domain
returns-in_err-first-clause-domain c = subst IsDomain c.self.view_is (expand-domain c.self.inside.intervals.items c.self.invariant)

pub returns-clause-least : goal.returns-clause-least
returns-clause-least c = least_some c.self.inside.intervals.items c.deref.result.now c.args.self.now c.in_ok-first.field-0.now _ c.self.invariant.apart c.self.view_is c.deref.ensures c.in_ok-first.ensures.value (omega (arith, ints))

pub returns-clause-domain : goal.returns-clause-domain
returns-clause-domain c = subst IsDomain c.self.view_is (expand-domain c.self.inside.intervals.items c.self.invariant)
