-- The way down goes on, or ends.
use Rattle.std.proofs.Common.{subst}
use Rattle.dp_domain.proofs.StateLaws.{IsWithin-trans}
use Rattle.dp_solver.specs.Descents.{IsLevel}
use Rattle.dp_solver.proofs.DescentSteps.{go-conflict, go-reached}
use Rattle.dp_solver.proofs.RunSteps.{extends-trans, keeps-trans}
use Rattle.dp_solver.proofs.descent.go_down.Goals as goal

pub returns-in-Fixed-clause-descent : goal.returns-in-Fixed-clause-descent
returns-in-Fixed-clause-descent c = λ p way.
    let down = c.loop-atoms.invariant.way p way in
    let level = subst (IsLevel p c.loop-atoms.engine c.decide.new.atoms.items c.decide.new.engine) c.in-Fixed.is (c.in_ok-level.ensures.level p down.0) in
    go-reached p c.args.atoms.items c.loop-atoms.atoms.items c.args.engine.now c.loop-atoms.engine c.decide.new.engine way down.0 down.1 c.loop-atoms.invariant.parts.nogoods level.0 level.1

pub returns-in-Failed-clause-descent : goal.returns-in-Failed-clause-descent
returns-in-Failed-clause-descent c = λ p way.
    let down = c.loop-atoms.invariant.way p way in
    let level = subst (IsLevel p c.loop-atoms.engine c.decide.new.atoms.items c.decide.new.engine) c.in-Failed.is (c.in_ok-level.ensures.level p down.0) in
    go-conflict p c.args.atoms.items c.decide.new.atoms.items c.args.engine.now c.decide.new.engine way
    (keeps-trans c.args.engine.now c.loop-atoms.engine c.decide.new.engine c.loop-atoms.invariant.parts c.in_ok-level.ensures.parts).nogoods level

pub loop-atoms-preserved : goal.loop-atoms-preserved
loop-atoms-preserved c = record {
  parts = keeps-trans c.args.engine.now c.loop-atoms.engine c.decide.new.engine c.loop-atoms.invariant.parts c.in_ok-level.ensures.parts;
  states = extends-trans c.args.engine.now c.loop-atoms.engine c.decide.new.engine c.loop-atoms.invariant.states c.in_ok-level.ensures.states;
  way = λ p way.
      let down = c.loop-atoms.invariant.way p way in
      let level = subst (IsLevel p c.loop-atoms.engine c.decide.new.atoms.items c.decide.new.engine) c.in-Rests.is (c.in_ok-level.ensures.level p down.0) in
      (level.0, IsWithin-trans c.args.engine.now.present c.loop-atoms.engine.present c.decide.new.engine.present level.1 down.1);
}
