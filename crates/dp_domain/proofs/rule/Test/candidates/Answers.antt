-- What is taken out is a value.
use Rattle.std.proofs.Common.{◌≡◌, ◌∙◌, sym, subst}
use Rattle.std.proofs.lemmas.Result.{IfOk-weaker}
use Rattle.dp_base.specs.Lists.{Among}
use Rattle.dp_domain.specs.States.{values}
use Rattle.dp_domain.specs.Turns.{HoldsHoles}
use Rattle.dp_domain.proofs.TurnLaws.{hole-lands}
use Rattle.dp_domain.proofs.rule.Test.candidates.Goals as goal

pub returns : goal.returns
returns g c =
    IfOk-weaker c.copy.result (λ d. d ≡ c.set.result.now) (HoldsHoles (g.Self.Test.face c.args.self.now) c.args.state.now c.args.var)
    (λ d e v p t. subst (λ ys. Among v ys) (sym (e ∙ c.set.ensures)) (hole-lands (g.Self.Test.face c.args.self.now) c.args.state.now c.args.var v t))
    c.copy.ensures
