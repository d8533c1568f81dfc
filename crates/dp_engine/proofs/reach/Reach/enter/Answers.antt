use Rattle.std.proofs.Common.{◌<◌, List, ℕ, length, sym, ◌∙◌, ap, subst}
use Rattle.dp_base.specs.Lists.{Each}
use Rattle.dp_rule_clause.specs.Nogoods.{scope_of}
use Rattle.dp_engine.specs.Reaches.{joined, own_lists}
use Rattle.dp_engine.proofs.ReachLaws.{joined-made, joined-same, length-joined, on-err, on-ok, some-each}
use Rattle.dp_engine.proofs.reach.Reach.enter.Goals as goal

pub enter_own-requires : goal.enter_own-requires
enter_own-requires c =
    let count = c.len.ensures ∙ sym (length-joined c.self.inside.bound c.self.inside.index.now (own_lists c.self.inside.own)) ∙ ap (λ (ls : List (List ℕ)). length ls) c.self.view_is in
    some-each c.make_own.new.own c.len.result (scope_of c.args.nogood.now) c.in_ok-make_own.ensures.there
    (subst (λ n. Each (λ x. x < n) (scope_of c.args.nogood.now)) (sym count) c.requires)

pub returns-clause-entered : goal.returns-clause-entered
returns-clause-entered c =
    on-ok c.enter_own.result
    (joined-made c.self.inside.bound c.len.result c.self.inside.index.now c.self.inside.own c.make_own.new.own c.enter_own.new.own c.args.self.now c.args.place (scope_of c.args.nogood.now) c.self.view_is
    c.in_ok-make_own.ensures.there c.len.ensures c.in_ok-make_own.ensures.same c.requires)
    c.enter_own.ensures.entered

pub returns-clause-unchanged : goal.returns-clause-unchanged
returns-clause-unchanged c =
    on-err c.enter_own.result
    (λ h. ap (joined c.self.inside.bound c.self.inside.index.now) h
    ∙ joined-same c.self.inside.bound c.self.inside.index.now (own_lists c.make_own.new.own) (own_lists c.self.inside.own) c.in_ok-make_own.ensures.same ∙ c.self.view_is)
    c.enter_own.ensures.unchanged
