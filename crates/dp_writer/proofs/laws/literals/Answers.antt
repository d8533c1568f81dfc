use Rattle.dp_writer.proofs.ReadingLemmas.{are_read, stay}
use Rattle.dp_writer.proofs.laws.literals.Goals as goal

pub returns-clause-read : goal.returns-clause-read
returns-clause-read c = are_read

pub returns-clause-stay : goal.returns-clause-stay
returns-clause-stay c = stay
