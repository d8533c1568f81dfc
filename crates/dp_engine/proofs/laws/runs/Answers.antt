use Rattle.dp_engine.proofs.FailureLaws.{failure-stays, order-more}
use Rattle.dp_engine.proofs.RunLaws.{end-empty, end-is, run-is, run-only, run-taken}
use Rattle.dp_engine.proofs.laws.runs.Goals as goal

pub returns-clause-run : goal.returns-clause-run
returns-clause-run c = λ n parts d sound. run-is n parts d sound

pub returns-clause-only : goal.returns-clause-only
returns-clause-only c = λ n parts d ts sound h. run-only n parts d ts sound h

pub returns-clause-taken : goal.returns-clause-taken
returns-clause-taken c = λ n parts d sound. run-taken n parts d sound

pub returns-clause-end : goal.returns-clause-end
returns-clause-end c = λ n parts d sound. end-is n parts d sound

pub returns-clause-empty : goal.returns-clause-empty
returns-clause-empty c = λ n parts d sound alive e. end-empty n parts d sound alive e

pub returns-clause-failing : goal.returns-clause-failing
returns-clause-failing c = λ n parts more d e sound sounds all l w f. failure-stays n parts more d e sound sounds all l w f

pub returns-clause-longer : goal.returns-clause-longer
returns-clause-longer c = λ p ns ms q h. order-more p ns ms q h
