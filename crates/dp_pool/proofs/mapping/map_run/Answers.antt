-- One call more.
use Rattle.std.proofs.Common.{rules}
use Rattle.dp_pool.specs.Calls.{Gives}
use Rattle.dp_pool.proofs.RunLaws.{run-next}
use Rattle.dp_pool.proofs.mapping.map_run.Goals as goal

pub loop-place-preserved : goal.loop-place-preserved
loop-place-preserved g c =
    run-next (Gives g.F.Fn c.args.f.now) c.args.items.now c.loop-place.results.items c.push.new.self.items c.loop-place.place _ _ c.loop-place-test.true
    c.loop-place.invariant c.in_ok-result.ensures (search rules) c.in_ok-push.ensures.items
