-- The laws of learned nogoods.
use Rattle.dp_learning.proofs.LearnedLaws.{learned-more, open-is-new}
use Rattle.dp_learning.proofs.RestLaws.{none-fails}
use Rattle.dp_learning.proofs.SolutionLaws.{rest-solves}
use Rattle.dp_learning.proofs.laws.learned.Goals as goal

pub returns-clause-new : goal.returns-clause-new
returns-clause-new c = λ p before others last d posed sound rest w t f. open-is-new p before others last d posed sound rest w t f

pub returns-clause-fails : goal.returns-clause-fails
returns-clause-fails c = λ n parts d sound l none. none-fails n parts d sound l none

pub returns-clause-more : goal.returns-clause-more
returns-clause-more c = λ p nogoods nogood all more. learned-more p nogoods nogood all more

pub returns-clause-solves : goal.returns-clause-solves
returns-clause-solves c = λ p ns d s kept on rest w fixed. rest-solves p ns d s kept on rest w fixed
