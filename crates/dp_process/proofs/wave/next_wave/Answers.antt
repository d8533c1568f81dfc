-- One place more.
use Rattle.std.proofs.Common.{◌++◌, ◌∙◌, ap, sym, add-one}
use Rattle.dp_process.specs.Waves.{pending_at, wave}
use Rattle.dp_process.proofs.wave.next_wave.Goals as goal

pub loop-place-preserved : goal.loop-place-preserved
loop-place-preserved c =
    c.in_ok-push_pending.ensures ∙ ap (λ xs. xs ++ pending_at c.args.found.now c.loop-place.place) c.loop-place.invariant ∙ ap (wave c.args.found.now) (sym (add-one c.loop-place.place))
