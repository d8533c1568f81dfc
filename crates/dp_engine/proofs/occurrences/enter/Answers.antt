use Rattle.std.proofs.Common.{◌≡◌, ◌<◌, [], ◌∷◌, ◌++◌, List, ℕ, length, take, Some, sym, ◌∙◌, ap, subst, arith}
use Rattle.dp_engine.proofs.SearchSteps.{Each-at}
use Rattle.dp_engine.proofs.StepLaws.{enter-step, ok-part, read-at}
use Rattle.dp_engine.proofs.WokenLaws.{entered-length}
use Rattle.dp_engine.proofs.occurrences.enter.Goals as goal

pub loop-at-preserved : goal.loop-at-preserved
loop-at-preserved g c =
    let count : length c.loop-at.lists.items ≡ length c.args.lists.now.items = ap (λ (ls : List (List ℕ)). length ls) c.loop-at.invariant ∙ entered-length c.args.lists.now.items c.args.place (take c.loop-at.at (g.R.Test.face c.args.rule.now).scope) in
    let var = c.scope_at.ensures ∙ ap Some (sym c.var.view_is) in
    let there : c.var.inside.0 < length c.loop-at.lists.items = subst (λ n. c.var.inside.0 < n) (sym count) (Each-at (λ x. x < length c.args.lists.now.items) (g.R.Test.face c.args.rule.now).scope c.loop-at.at c.var.inside.0 c.requires var) in
    enter-step c.args.lists.now.items c.loop-at.lists.items c.args.place c.loop-at.at c.var.inside.0 (g.R.Test.face c.args.rule.now).scope c.push-pushed.new.self c.loop-at.invariant var
    (ok-part c.push-pushed.result (sym c.is_err.ensures.value ∙ c.if-is_err.false) c.push-pushed.ensures.pushed
    ∙ ap (λ (ks : List ℕ). ks ++ c.args.place ∷ []) (c.index_mut.ensures.value ∙ read-at c.loop-at.lists.items c.var.inside.0 c.index_mut.result.now [] there))
