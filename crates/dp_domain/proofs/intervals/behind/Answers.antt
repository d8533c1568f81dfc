-- The number after the end of the last interval.
use Rattle.std.proofs.Common.{arith}
use Rattle.std.proofs.lemmas.Int.{ints}
use Rattle.dp_domain.specs.Intervals.{lowest}
use Rattle.dp_domain.proofs.OutsideLaws.{behind_last, last_small}
use Rattle.dp_domain.proofs.intervals.behind.Goals as goal

pub returns-in-Some : goal.returns-in-Some
returns-in-Some c =
    let s = last_small c.args.intervals.now c.in-Some.field-0.now c.requires c.in-Some.ensures.value in
    let low = s.1.0 in
    let high = s.1.1 in
    behind_last lowest _ c.args.intervals.now c.in-Some.field-0.now c.in-Some.ensures.value (omega (arith, ints))
