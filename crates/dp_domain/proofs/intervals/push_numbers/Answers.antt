use Rattle.std.proofs.Common.{refl, arith}
use Rattle.std.proofs.lemmas.Int.{ints}
use Rattle.dp_domain.proofs.RunSteps.{Runs-all, Runs-more, Runs-none}
use Rattle.dp_domain.proofs.intervals.push_numbers.Goals as goal

pub loop-number-init : goal.loop-number-init
loop-number-init c = Runs-none _ _ _ _ refl

pub loop-number-preserved : goal.loop-number-preserved
loop-number-preserved c = Runs-more _ _ _ _ _ _ _ (omega (arith, ints)) (omega (arith, ints)) c.in_ok-push.ensures.items c.loop-number.invariant

pub returns : goal.returns
returns c = Runs-all _ _ _ _ _ c.args.interval (omega (arith, ints)) (omega (arith, ints)) (omega (arith, ints)) c.loop-number.invariant
