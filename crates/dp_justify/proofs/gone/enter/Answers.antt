-- The pairs that one more atom excludes.
use Rattle.std.proofs.Common.{◌∙◌}
use Rattle.dp_justify.proofs.GoneLaws.{enter_step}
use Rattle.dp_justify.proofs.gone.enter.Goals as goal

pub loop-atom-preserved : goal.loop-atom-preserved
loop-atom-preserved c = record {
  count = c.in_ok-enter_one.ensures.count ∙ c.loop-atom.invariant.count;
  pairs = enter_step c.args.initial.now c.args.premises.now c.loop-atom.atom-index c.args.gone.now.items c.loop-atom.gone.items c.enter_one.new.gone.items c.atom-item.result
      c.loop-atom-test.true c.atom-item.is c.loop-atom.invariant.pairs c.in_ok-enter_one.ensures.pairs;
}
