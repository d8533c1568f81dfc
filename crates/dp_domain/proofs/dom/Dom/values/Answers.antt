use Rattle.std.proofs.Common.{◌≡◌, ◌∙◌, ap, subst, sym}
use Rattle.std.proofs.lemmas.Result.{IfOk-weaker}
use Rattle.dp_base.specs.Lists.{Each}
use Rattle.dp_domain.specs.Sets.{HasSmallEnds, IsDomain, expand}
use Rattle.dp_domain.proofs.ExpandLaws.{expand-domain}
use Rattle.dp_domain.proofs.dom.Dom.values.Goals as goal

pub numbers-requires : goal.numbers-requires
numbers-requires c = subst (Each HasSmallEnds) (sym c.as_slice.ensures) c.self.invariant.small

pub returns-clause-values : goal.returns-clause-values
returns-clause-values c =
    IfOk-weaker c.numbers.result (λ v. v.items ≡ expand c.as_slice.result.now) (λ v. v.items ≡ c.args.self.now)
    (λ v e. e ∙ ap expand c.as_slice.ensures ∙ c.self.view_is) c.numbers.ensures

pub returns-clause-domain : goal.returns-clause-domain
returns-clause-domain c =
    IfOk-weaker c.numbers.result (λ v. v.items ≡ expand c.as_slice.result.now) (λ v. IsDomain v.items)
    (λ v e. subst IsDomain (sym (e ∙ ap expand c.as_slice.ensures)) (expand-domain c.self.inside.intervals.items c.self.invariant)) c.numbers.ensures
