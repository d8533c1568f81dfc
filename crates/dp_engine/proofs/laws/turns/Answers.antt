use Rattle.dp_engine.proofs.PlacedLaws.{placed-face, problem-sound}
use Rattle.dp_engine.proofs.TurnLaws.{turn-alive, turn-less, turn_at-is}
use Rattle.dp_engine.proofs.laws.turns.Goals as goal

pub returns-clause-sound : goal.returns-clause-sound
returns-clause-sound c = λ p nogoods kept e. problem-sound p nogoods kept e

pub returns-clause-place : goal.returns-clause-place
returns-clause-place c = λ p nogoods q h. placed-face p nogoods q h

pub returns-clause-meaning : goal.returns-clause-meaning
returns-clause-meaning c = λ n parts d sound. turn_at-is n parts d sound

pub returns-clause-less : goal.returns-clause-less
returns-clause-less c = λ n parts d id a sound e. turn-less n parts d id a sound e

pub returns-clause-alive : goal.returns-clause-alive
returns-clause-alive c = λ n parts d id a sound e. turn-alive n parts d id a sound e
