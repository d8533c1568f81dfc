-- Where there is no bound, the least value that is not supported is taken out.
use Rattle.std.proofs.Common.{refl, sym, ◌∙◌}
use Rattle.dp_rule_element.proofs.HoleSteps.{hole_found}
use Rattle.dp_rule_element.proofs.turn.bound_or_hole.Goals as goal

pub returns-in-Some : goal.returns-in-Some
returns-in-Some c =
    hole_found c.args.set.now c.args.good.now _ c.args.var c.in-Some.value _ c.new.result _ c.supported_bound-bound.ensures (sym c.is_some.ensures ∙ c.if-is_some.false)
    c.in_ok-others.ensures.numbers c.in-Some.ensures.domain c.in-Some.ensures.least refl c.new.ensures.nameable c.new.ensures.atom
