use Rattle.std.proofs.Common.{◌≡◌, sym, subst}
use Rattle.std.proofs.lemmas.Result.{IfOk-weaker}
use Rattle.dp_domain.specs.Turns.{IsTurn, turn_of}
use Rattle.dp_domain.proofs.TurnLaws.{turn_of-is}
use Rattle.dp_domain.proofs.turn.search_turn.Goals as goal

pub returns-clause-meaning : goal.returns-clause-meaning
returns-clause-meaning g c =
    IfOk-weaker c.found.result (λ t. t ≡ turn_of (g.R.Test.face c.args.rule.now) c.args.state.now) (IsTurn (g.R.Test.face c.args.rule.now) c.args.state.now)
    (λ t e. subst (IsTurn (g.R.Test.face c.args.rule.now) c.args.state.now) (sym e)
    (turn_of-is (g.R.Test.face c.args.rule.now) c.args.state.now (g.met.R.Test.lawful c.args.rule.now).ordered c.requires.alive))
    c.found.ensures
