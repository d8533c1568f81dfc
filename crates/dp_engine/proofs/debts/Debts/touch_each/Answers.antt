use Rattle.std.proofs.Common.{◌<◌, true, length, refl, ◌∙◌, ap, arith}
use Rattle.std.proofs.lemmas.List.{length-set}
use Rattle.dp_engine.specs.Debts.{History}
use Rattle.dp_engine.proofs.DebtLaws.{touch-next}
use Rattle.dp_engine.proofs.debts.Debts.touch_each.Goals as goal

pub loop-place-preserved : goal.loop-place-preserved
loop-place-preserved c =
    let there : c.loop-place.place-index < length c.args.places.now = omega (arith, c.loop-place-test.true) in
    record {
      touched = touch-next c.args.self.now c.loop-place.self c.touch.new.self c.args.places.now c.loop-place.place-index _ _ there refl c.loop-place.invariant.touched c.in_ok-touch.ensures.touched;
      count = ap (λ (h : History). length h.now) c.in_ok-touch.ensures.touched ∙ length-set c.loop-place.self.now _ true ∙ c.loop-place.invariant.count;
    }
