use Rattle.std.proofs.Common.{◌≡◌, ◌+◌, ◌-◌, ◌<◌, [], List, ℕ, length, take, Some, sym, ◌∙◌, ap, subst, arith}
use Rattle.std.proofs.lemmas.List.{length-set}
use Rattle.dp_engine.specs.Woken.{entered}
use Rattle.dp_engine.proofs.SearchSteps.{Each-at}
use Rattle.dp_engine.proofs.StepLaws.{leave-step, read-at}
use Rattle.dp_engine.proofs.WokenLaws.{entered-length}
use Rattle.dp_engine.proofs.occurrences.leave.Goals as goal

pub loop-at-preserved : goal.loop-at-preserved
loop-at-preserved g c =
    let var = c.scope_at.ensures ∙ ap Some (sym c.var.view_is) in
    let below : c.var.inside.0 < length c.args.lists.now.items = Each-at (λ x. x < length c.args.lists.now.items) (g.R.Test.face c.args.rule.now).scope (c.loop-at.at - 1) c.var.inside.0 c.requires.variables var in
    let there : c.var.inside.0 < length c.loop-at.lists.items = subst (λ n. c.var.inside.0 < n) (sym c.loop-at.invariant.count) below in
    let at : c.loop-at.at ≡ (c.loop-at.at - 1) + 1 = omega arith in
    record {
      count = length-set c.loop-at.lists.items c.var.inside.0 c.pop.new.self ∙ c.loop-at.invariant.count;
      left = λ before place e.
          let known : length c.args.lists.now.items ≡ length before = ap (λ (ls : List (List ℕ)). length ls) e ∙ entered-length before place (take c.args.count (g.R.Test.face c.args.rule.now).scope) in
          leave-step before c.loop-at.lists.items place (c.loop-at.at - 1) c.var.inside.0 (g.R.Test.face c.args.rule.now).scope c.pop.new.self
          (subst (λ n. c.var.inside.0 < n) known below)
          (c.loop-at.invariant.left before place e ∙ ap (λ n. entered before place (take n (g.R.Test.face c.args.rule.now).scope)) at)
          var
          (λ ks j h. c.pop.ensures ks j (c.index_mut.ensures.value ∙ read-at c.loop-at.lists.items c.var.inside.0 c.index_mut.result.now [] there ∙ h));
    }
