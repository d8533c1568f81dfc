use Rattle.std.proofs.Common.{◌<◌, [], ◌++◌, List, ℕ, Bool, length, get_or, sym, ◌∙◌, ap, subst}
use Rattle.dp_base.specs.Lists.{Climbs, Each}
use Rattle.dp_engine.specs.Debts.{History, touched_each}
use Rattle.dp_engine.specs.Reaches.{below, own_lists}
use Rattle.dp_engine.proofs.DebtLaws.{touched_each-append, touched_each-count}
use Rattle.dp_engine.proofs.ReachLaws.{each-both, joined-at, joined-count, on-ok}
use Rattle.dp_engine.proofs.reach.Reach.wake.Goals as goal

pub on-requires : goal.on-requires
on-requires c = subst (λ n. c.args.var < n) (joined-count c.self.inside.bound c.self.inside.index.now (own_lists c.self.inside.own) c.args.self.now c.self.view_is) c.requires.var

pub places_below-requires : goal.places_below-requires
places_below-requires c = subst Climbs (sym c.on.ensures) (c.self.invariant.climb c.args.var)

pub touch_each-requires : goal.touch_each-requires
touch_each-requires c =
    let at = joined-at c.self.inside.bound c.self.inside.index.now (own_lists c.self.inside.own) c.args.self.now c.args.var c.self.view_is c.requires.var in
    subst (Each (λ k. k < length c.args.debts.now.now)) (sym (c.places_below.ensures ∙ ap (below c.self.inside.bound) c.on.ensures))
    (each-both (length c.args.debts.now.now) (below c.self.inside.bound (get_or c.self.inside.index.now c.args.var [])) (get_or (own_lists c.self.inside.own) c.args.var [])
    (subst (Each (λ k. k < length c.args.debts.now.now)) at c.requires.places)).0

pub wake_own-requires-clause-var : goal.wake_own-requires-clause-var
wake_own-requires-clause-var c = λ lists e.
    subst (λ n. c.args.var < n) (joined-count c.self.inside.bound c.self.inside.index.now (own_lists c.self.inside.own) c.args.self.now c.self.view_is ∙ sym (c.self.invariant.own lists e)) c.requires.var

pub wake_own-requires-clause-places : goal.wake_own-requires-clause-places
wake_own-requires-clause-places c =
    let at = joined-at c.self.inside.bound c.self.inside.index.now (own_lists c.self.inside.own) c.args.self.now c.args.var c.self.view_is c.requires.var in
    let count = ap (λ (h : History). length h.now) c.in_ok-touch_each.ensures.1 ∙ touched_each-count c.args.debts.now c.in_ok-touch_each.ensures.0 in
    subst (λ n. Each (λ k. k < n) (get_or (own_lists c.self.inside.own) c.args.var [])) (sym count)
    (each-both (length c.args.debts.now.now) (below c.self.inside.bound (get_or c.self.inside.index.now c.args.var [])) (get_or (own_lists c.self.inside.own) c.args.var [])
    (subst (Each (λ k. k < length c.args.debts.now.now)) at c.requires.places)).1

pub returns : goal.returns
returns c =
    let at = joined-at c.self.inside.bound c.self.inside.index.now (own_lists c.self.inside.own) c.args.self.now c.args.var c.self.view_is c.requires.var in
    let seen : List ℕ = c.in_ok-touch_each.ensures.0 in
    let own : List ℕ = c.wake_own.ensures.0 in (
      seen ++ own,
      c.wake_own.ensures.1 ∙ ap (λ (h : History). touched_each h own) c.in_ok-touch_each.ensures.1 ∙ sym (touched_each-append c.args.debts.now seen own),
      on-ok c.wake_own.result
          (λ e. ap (λ ks. ks ++ own) (c.in_ok-touch_each.ensures.2 ∙ c.places_below.ensures ∙ ap (below c.self.inside.bound) c.on.ensures)
          ∙ ap (λ js. below c.self.inside.bound (get_or c.self.inside.index.now c.args.var []) ++ js) e ∙ sym at)
          c.wake_own.ensures.2,
    )
