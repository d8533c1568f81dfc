-- Each turn leads on in the run, or is its end.
use Rattle.dp_engine.specs.declared.turn.Turn.TheVariants.{Clash, Quiet, Empty}
use Rattle.dp_solver.proofs.RunSteps.{extends-trans, keeps-trans, step-ends, step-goes}
use Rattle.dp_solver.proofs.rest.counted_run.Goals as goal

pub loop-steps-smaller : goal.loop-steps-smaller
loop-steps-smaller g c =
    (step-goes c.args.engine.now c.loop-steps.engine c.step.new.self c.in_ok-turn.turn c.in-Atom.field-0 c.in-Atom.field-1 c.state-state.ensures.engine c.loop-steps.invariant.parts c.loop-steps.invariant.run
    c.in_ok-turn.ensures.turn c.in-Atom.is c.in_ok-turn.ensures.present).1

pub loop-steps-preserved : goal.loop-steps-preserved
loop-steps-preserved g c = record {
  parts = keeps-trans c.args.engine.now c.loop-steps.engine c.step.new.self c.loop-steps.invariant.parts c.in_ok-turn.ensures.parts;
  states = extends-trans c.args.engine.now c.loop-steps.engine c.step.new.self c.loop-steps.invariant.states c.in_ok-turn.ensures.states;
  run = (step-goes c.args.engine.now c.loop-steps.engine c.step.new.self c.in_ok-turn.turn c.in-Atom.field-0 c.in-Atom.field-1 c.state-state.ensures.engine c.loop-steps.invariant.parts c.loop-steps.invariant.run
      c.in_ok-turn.ensures.turn c.in-Atom.is c.in_ok-turn.ensures.present).0;
}

pub returns-in-Clash-clause-failed : goal.returns-in-Clash-clause-failed
returns-in-Clash-clause-failed g c =
    (step-ends c.args.engine.now c.loop-steps.engine c.step.new.self c.in_ok-turn.turn (Clash c.in-Clash.field-0) c.state-state.ensures.engine c.loop-steps.invariant.parts c.loop-steps.invariant.run
    c.in_ok-turn.ensures.turn c.in-Clash.is tt c.in_ok-turn.ensures.present).0

pub returns-in-Clash-clause-present : goal.returns-in-Clash-clause-present
returns-in-Clash-clause-present g c =
    (step-ends c.args.engine.now c.loop-steps.engine c.step.new.self c.in_ok-turn.turn (Clash c.in-Clash.field-0) c.state-state.ensures.engine c.loop-steps.invariant.parts c.loop-steps.invariant.run
    c.in_ok-turn.ensures.turn c.in-Clash.is tt c.in_ok-turn.ensures.present).1

pub returns-in-Empty-clause-failed : goal.returns-in-Empty-clause-failed
returns-in-Empty-clause-failed g c =
    (step-ends c.args.engine.now c.loop-steps.engine c.step.new.self c.in_ok-turn.turn Empty c.state-state.ensures.engine c.loop-steps.invariant.parts c.loop-steps.invariant.run
    c.in_ok-turn.ensures.turn c.in-Empty.is tt c.in_ok-turn.ensures.present).0

pub returns-in-Empty-clause-present : goal.returns-in-Empty-clause-present
returns-in-Empty-clause-present g c =
    (step-ends c.args.engine.now c.loop-steps.engine c.step.new.self c.in_ok-turn.turn Empty c.state-state.ensures.engine c.loop-steps.invariant.parts c.loop-steps.invariant.run
    c.in_ok-turn.ensures.turn c.in-Empty.is tt c.in_ok-turn.ensures.present).1

pub returns-in-Quiet-clause-failed : goal.returns-in-Quiet-clause-failed
returns-in-Quiet-clause-failed g c =
    (step-ends c.args.engine.now c.loop-steps.engine c.step.new.self c.in_ok-turn.turn Quiet c.state-state.ensures.engine c.loop-steps.invariant.parts c.loop-steps.invariant.run
    c.in_ok-turn.ensures.turn c.in-Quiet.is tt c.in_ok-turn.ensures.present).0

pub returns-in-Quiet-clause-present : goal.returns-in-Quiet-clause-present
returns-in-Quiet-clause-present g c =
    (step-ends c.args.engine.now c.loop-steps.engine c.step.new.self c.in_ok-turn.turn Quiet c.state-state.ensures.engine c.loop-steps.invariant.parts c.loop-steps.invariant.run
    c.in_ok-turn.ensures.turn c.in-Quiet.is tt c.in_ok-turn.ensures.present).1
