-- The turn at the engine's state heads the run from there.
use Rattle.dp_engine.specs.Engines.{Propagation}
use Rattle.dp_engine.proofs.PlacedLaws.{problem-sound}
use Rattle.dp_justify.proofs.TrailSteps.{IsStep, keeps-more, step-end, step-on, step-trail}
use Rattle.dp_justify.proofs.turns.counted_turns.Goals as goal

pub loop-turns-preserved : goal.loop-turns-preserved
loop-turns-preserved g c =
    let first : Propagation = c.args.engine.now in
    let step : IsStep first c.loop-turns.engine c.take_turn.new.engine c.loop-turns.turns.items c.take_turn.new.turns.items c.in_ok-end.end = record {
      sound = problem-sound first.problem first.nogoods c.requires.problem c.state.ensures.engine.nogoods;
      keeps = c.loop-turns.invariant.parts;
      along = c.loop-turns.invariant.along;
      trail = c.loop-turns.invariant.trail;
      goes = c.in_ok-end.ensures.states;
      more = c.in_ok-end.ensures.turns;
      told = c.in_ok-end.ensures.end;
    } in
    record {
      parts = keeps-more first c.loop-turns.engine c.take_turn.new.engine c.loop-turns.invariant.parts c.in_ok-end.ensures.parts;
      along = (step-on first c.loop-turns.engine c.take_turn.new.engine c.loop-turns.turns.items c.take_turn.new.turns.items c.in_ok-end.end step c.in-None.is c.in_ok-end.ensures.present).0;
      trail = step-trail first c.loop-turns.engine c.take_turn.new.engine c.loop-turns.turns.items c.take_turn.new.turns.items c.in_ok-end.end step;
    }

pub loop-turns-smaller : goal.loop-turns-smaller
loop-turns-smaller g c =
    let first : Propagation = c.args.engine.now in
    let step : IsStep first c.loop-turns.engine c.take_turn.new.engine c.loop-turns.turns.items c.take_turn.new.turns.items c.in_ok-end.end = record {
      sound = problem-sound first.problem first.nogoods c.requires.problem c.state.ensures.engine.nogoods;
      keeps = c.loop-turns.invariant.parts;
      along = c.loop-turns.invariant.along;
      trail = c.loop-turns.invariant.trail;
      goes = c.in_ok-end.ensures.states;
      more = c.in_ok-end.ensures.turns;
      told = c.in_ok-end.ensures.end;
    } in
    (step-on first c.loop-turns.engine c.take_turn.new.engine c.loop-turns.turns.items c.take_turn.new.turns.items c.in_ok-end.end step c.in-None.is c.in_ok-end.ensures.present).1

pub returns-in-Some-clause-turns : goal.returns-in-Some-clause-turns
returns-in-Some-clause-turns g c =
    let first : Propagation = c.args.engine.now in
    let step : IsStep first c.loop-turns.engine c.take_turn.new.engine c.loop-turns.turns.items c.take_turn.new.turns.items c.in_ok-end.end = record {
      sound = problem-sound first.problem first.nogoods c.requires.problem c.state.ensures.engine.nogoods;
      keeps = c.loop-turns.invariant.parts;
      along = c.loop-turns.invariant.along;
      trail = c.loop-turns.invariant.trail;
      goes = c.in_ok-end.ensures.states;
      more = c.in_ok-end.ensures.turns;
      told = c.in_ok-end.ensures.end;
    } in
    (step-end first c.loop-turns.engine c.take_turn.new.engine c.loop-turns.turns.items c.take_turn.new.turns.items c.in_ok-end.end step c.in-Some.end c.in-Some.is).0

pub returns-in-Some-clause-trail : goal.returns-in-Some-clause-trail
returns-in-Some-clause-trail g c =
    let first : Propagation = c.args.engine.now in
    let step : IsStep first c.loop-turns.engine c.take_turn.new.engine c.loop-turns.turns.items c.take_turn.new.turns.items c.in_ok-end.end = record {
      sound = problem-sound first.problem first.nogoods c.requires.problem c.state.ensures.engine.nogoods;
      keeps = c.loop-turns.invariant.parts;
      along = c.loop-turns.invariant.along;
      trail = c.loop-turns.invariant.trail;
      goes = c.in_ok-end.ensures.states;
      more = c.in_ok-end.ensures.turns;
      told = c.in_ok-end.ensures.end;
    } in
    step-trail first c.loop-turns.engine c.take_turn.new.engine c.loop-turns.turns.items c.take_turn.new.turns.items c.in_ok-end.end step

pub returns-in-Some-clause-end : goal.returns-in-Some-clause-end
returns-in-Some-clause-end g c =
    let first : Propagation = c.args.engine.now in
    let step : IsStep first c.loop-turns.engine c.take_turn.new.engine c.loop-turns.turns.items c.take_turn.new.turns.items c.in_ok-end.end = record {
      sound = problem-sound first.problem first.nogoods c.requires.problem c.state.ensures.engine.nogoods;
      keeps = c.loop-turns.invariant.parts;
      along = c.loop-turns.invariant.along;
      trail = c.loop-turns.invariant.trail;
      goes = c.in_ok-end.ensures.states;
      more = c.in_ok-end.ensures.turns;
      told = c.in_ok-end.ensures.end;
    } in
    (step-end first c.loop-turns.engine c.take_turn.new.engine c.loop-turns.turns.items c.take_turn.new.turns.items c.in_ok-end.end step c.in-Some.end c.in-Some.is).1
