-- The points are values of the index, and what is taken out is a value.
use Rattle.std.proofs.Common.{◌≡◌, ◌∙◌, ap, sym, subst}
use Rattle.std.proofs.lemmas.Bool.{both_ways}
use Rattle.std.proofs.lemmas.Result.{IfOk-weaker}
use Rattle.dp_base.specs.Lists.{Among}
use Rattle.dp_domain.specs.Sets.{IsDomain}
use Rattle.dp_domain.specs.Turns.{HoldsHoles}
use Rattle.dp_domain.proofs.TurnLaws.{hole-lands}
use Rattle.dp_rule_element.specs.Selections.{Selection, face_element, is_variable}
use Rattle.dp_rule_element.proofs.element.ElementTest.candidates.Goals as goal

pub returns-then-is_variable : goal.returns-then-is_variable
returns-then-is_variable c =
    IfOk-weaker c.copy.result (λ d. d ≡ c.set.result.now) (HoldsHoles (face_element c.args.self.now) c.args.state.now c.args.var)
    (λ d e v p t. subst (λ ys. Among v ys) (sym (e ∙ c.set.ensures)) (hole-lands (face_element c.args.self.now) c.args.state.now c.args.var v t))
    c.copy.ensures

pub returns-else-is_variable : goal.returns-else-is_variable
returns-else-is_variable c =
    IfOk-weaker c.range.result IsDomain (HoldsHoles (face_element c.args.self.now) c.args.state.now c.args.var)
    (λ d e v p t. absurd (both_ways (is_variable c.args.self.now.index c.args.var) (ap (λ (q : Selection). is_variable q.index c.args.var) (sym c.self.view_is) ∙ sym c.is_variable.ensures ∙ c.if-is_variable.false) p))
    c.range.ensures.domain
