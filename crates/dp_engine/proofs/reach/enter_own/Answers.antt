use Rattle.std.proofs.Common.{length, sym, ◌∙◌, ap}
use Rattle.dp_rule_clause.specs.Nogoods.{scope_of}
use Rattle.dp_engine.specs.Reaches.{own_lists}
use Rattle.dp_engine.proofs.ReachLaws.{entered-count}
use Rattle.dp_engine.proofs.reach.enter_own.Goals as goal

pub returns-clause-count : goal.returns-clause-count
returns-clause-count c =
    entered-count c.enter.result c.enter.new.self c.in-Some.own c.args.place (scope_of c.args.nogood.now) c.enter.ensures.entered c.enter.ensures.unchanged
    ∙ ap (λ o. length (own_lists o)) (sym c.in-Some.is)
