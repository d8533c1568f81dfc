use Rattle.std.proofs.Common.{◌<◌, length, ◌∙◌, arith}
use Rattle.dp_checker.proofs.Loops.{each_below, prove_step}
use Rattle.dp_checker.proofs.nogood.prove.Goals as goal

pub loop-hint-preserved : goal.loop-hint-preserved
loop-hint-preserved c =
    let within : c.loop-hint.hint-index < length c.args.hints.now = omega arith in
    record {
      base = c.take_step.ensures.base ∙ c.loop-hint.invariant.base;
      below = each_below _ (length c.loop-hint.scratch.present) c.args.steps.now c.take_step.ensures.count c.loop-hint.invariant.below;
      proved = prove_step c.args.steps.now c.args.hints.now c.loop-hint.hint-index c.loop-hint.scratch.present c.take_step.new.scratch.present _ c.in_ok-take_step.field-0 within
          c.in_ok-take_step.ensures.turn c.if-branch.false c.loop-hint.invariant.proved;
    }
