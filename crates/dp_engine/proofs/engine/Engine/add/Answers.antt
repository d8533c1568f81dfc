use Rattle.std.proofs.Common.{ℕ, ◌^◌, ◌-◌, ◌<◌, length, sym, ◌∙◌, subst}
use Rattle.dp_base.specs.Lists.{Each}
use Rattle.dp_domain.specs.States.{AreOf}
use Rattle.dp_rule_clause.specs.Nogoods.{scope_of}
use Rattle.dp_engine.specs.Engines.{Propagation}
use Rattle.dp_engine.proofs.PlacedLaws.{scope-covered}
use Rattle.dp_engine.proofs.StepLaws.{ok-part}
use Rattle.dp_engine.proofs.TrackedLaws.{one-more, tracked-added}
use Rattle.dp_engine.proofs.engine.Engine.add.Goals as goal

pub add-added-requires-clause-variables : goal.add-added-requires-clause-variables
add-added-requires-clause-variables c =
    let on : AreOf c.self.inside.problem.now.initial c.args.nogood = subst (λ (p : Propagation). AreOf p.problem.initial c.args.nogood) (sym c.self.view_is) c.requires.variables in
    subst (λ (n : ℕ). Each (λ x. x < n) (scope_of c.args.nogood)) (sym c.self.invariant.index.count) (scope-covered (length c.self.inside.problem.now.initial) c.args.nogood on)

pub invariant_of-self-else-is_err : goal.invariant_of-self-else-is_err
invariant_of-self-else-is_err c =
    let few : length c.self.inside.roster.nogoods < 2 ^ 32 - 1 = subst (λ (p : Propagation). length p.nogoods < 2 ^ 32 - 1) (sym c.self.view_is) c.requires.few in
    let on : AreOf c.self.inside.problem.now.initial c.args.nogood = subst (λ (p : Propagation). AreOf p.problem.initial c.args.nogood) (sym c.self.view_is) c.requires.variables in
    let fine = sym c.is_err.ensures.value ∙ c.if-is_err.false in
    tracked-added c.self.inside.problem.now c.self.inside.roster c.add-added.new.self c.self.inside.occurrences c.add-added.new.occurrences c.self.inside.trail.past c.self.inside.trail.present c.self.inside.debts c.push.new.self c.self.inside.dead c.args.nogood
    c.self.invariant few on c.add-added.ensures.model (ok-part c.add-added.result fine c.add-added.ensures.nogoods) (ok-part c.add-added.result fine c.add-added.ensures.entered) (one-more c.self.inside.debts c.push.new.self c.in_ok-push.ensures.pushed c.push.ensures.notes c.push.ensures.lasting)
