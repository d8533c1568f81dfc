-- One decision: a conflict, or further down.
use Rattle.std.proofs.Common.{subst}
use Rattle.dp_domain.specs.States.{Domains}
use Rattle.dp_solver.specs.Descents.{IsOpenAt}
use Rattle.dp_solver.proofs.DescentSteps.{decide-failed, decide-less, decide-rests}
use Rattle.dp_solver.proofs.descent.decide.Goals as goal

pub returns-then-branch-clause-level : goal.returns-then-branch-clause-level
returns-then-branch-clause-level c = λ p way.
    decide-failed p c.args.engine.now c.assume.new.self c.run_to_rest.new.engine c.args.atoms.now.items c.push.new.self.items c.in-Some.atom _ way
    (subst (λ (d : Domains). IsOpenAt d c.in-Some.atom) c.state.ensures.state c.in-Some.ensures.decision) c.in_ok-push-in-Some.ensures.items
    c.assume.ensures.parts c.in_ok-assume-in-Some.ensures.present c.run_to_rest.ensures.parts c.in_ok-run_to_rest-in-Some.ensures.failed c.if-branch.true

pub returns-else-branch-clause-level : goal.returns-else-branch-clause-level
returns-else-branch-clause-level c = λ p way.
    decide-rests p c.args.engine.now c.assume.new.self c.run_to_rest.new.engine c.args.atoms.now.items c.push.new.self.items c.in-Some.atom _ way
    (subst (λ (d : Domains). IsOpenAt d c.in-Some.atom) c.state.ensures.state c.in-Some.ensures.decision) c.in_ok-push-in-Some.ensures.items
    c.assume.ensures.parts c.in_ok-assume-in-Some.ensures.present c.run_to_rest.ensures.parts c.in_ok-run_to_rest-in-Some.ensures.present c.in_ok-run_to_rest-in-Some.ensures.failed c.if-branch.false

pub returns-else-branch-clause-less : goal.returns-else-branch-clause-less
returns-else-branch-clause-less c =
    decide-less c.args.engine.now c.assume.new.self c.run_to_rest.new.engine c.in-Some.atom c.state.ensures.engine
    (subst (λ (d : Domains). IsOpenAt d c.in-Some.atom) c.state.ensures.state c.in-Some.ensures.decision)
    c.assume.ensures.parts c.in_ok-assume-in-Some.ensures.present c.in_ok-run_to_rest-in-Some.ensures.present
