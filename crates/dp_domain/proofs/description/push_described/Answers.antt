use Rattle.dp_domain.proofs.ExplanationSteps.{small_least, small_greatest}
use Rattle.dp_domain.proofs.description.push_described.Goals as goal

pub push_lower-requires : goal.push_lower-requires
push_lower-requires c = λ x e. small_least _ _ c.lower-2.ensures.domain c.lower-2.ensures.least x e

pub push_upper-requires : goal.push_upper-requires
push_upper-requires c = λ x e. small_greatest _ _ c.upper-2.ensures.domain c.upper-2.ensures.greatest x e
