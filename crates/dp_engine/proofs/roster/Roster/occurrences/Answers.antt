use Rattle.std.proofs.Common.{◌<◌, length, arith}
use Rattle.dp_engine.specs.Rosters.{all_placed}
use Rattle.dp_engine.proofs.StepLaws.{index-next, part-there}
use Rattle.dp_engine.proofs.roster.Roster.occurrences.Goals as goal

pub loop-place-preserved : goal.loop-place-preserved
loop-place-preserved c =
    let there : c.loop-place.place < length (all_placed c.args.self.now) = omega (arith, c.len-place-end.ensures) in
    let w = part-there (all_placed c.args.self.now) c.loop-place.place there in
    index-next c.args.variables (all_placed c.args.self.now) c.loop-place.occurrences c.enter.new.occurrences c.loop-place.place w.0 c.loop-place.invariant c.requires w.1 (c.in_ok-enter.ensures.entered w.0 w.1)
