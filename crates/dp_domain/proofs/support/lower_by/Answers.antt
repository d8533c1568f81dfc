use Rattle.std.proofs.Common.{arith}
use Rattle.std.proofs.lemmas.Int.{ints}
use Rattle.dp_domain.proofs.ExplanationSteps.{small_least}
use Rattle.dp_domain.proofs.support.lower_by.Goals as goal

pub small-requires : goal.small-requires
small-requires c =
    let s = small_least _ _ c.lower-2.ensures.domain c.lower-2.ensures.least c.in-Some-Some.first c.in-Some-Some.is-1 in
    let low = s.0 in
    let high = s.1 in
    (omega (arith, ints), omega (arith, ints))
