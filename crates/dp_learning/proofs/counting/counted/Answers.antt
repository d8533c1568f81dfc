use Rattle.dp_learning.proofs.CountingLaws.{fewer-learned}
use Rattle.dp_learning.proofs.SortLaws.{kept-counted}
use Rattle.dp_learning.proofs.counting.counted.Goals as goal

pub returns-clause-counted : goal.returns-clause-counted
returns-clause-counted c = λ p a. kept-counted p.initial a

pub returns-clause-fewer : goal.returns-clause-fewer
returns-clause-fewer c = λ p nogoods posed learned. fewer-learned p nogoods posed learned
