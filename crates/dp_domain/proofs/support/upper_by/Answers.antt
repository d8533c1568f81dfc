use Rattle.std.proofs.Common.{arith}
use Rattle.std.proofs.lemmas.Int.{ints}
use Rattle.dp_domain.proofs.ExplanationSteps.{small_greatest}
use Rattle.dp_domain.proofs.support.upper_by.Goals as goal

pub small-requires : goal.small-requires
small-requires c =
    let s = small_greatest _ _ c.upper-2.ensures.domain c.upper-2.ensures.greatest c.in-Some-Some.last c.in-Some-Some.is-1 in
    let low = s.0 in
    let high = s.1 in
    (omega (arith, ints), omega (arith, ints))
