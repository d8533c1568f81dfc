use Rattle.dp_grammar.proofs.Wholes.{whole_says}
use Rattle.dp_grammar.proofs.Only.{only_says}
use Rattle.dp_grammar.proofs.laws.exactness.Goals as goal

pub returns-clause-says : goal.returns-clause-says
returns-clause-says g c = λ p lawful text. whole_says p lawful text

pub returns-clause-only : goal.returns-clause-only
returns-clause-only g c = λ p lawful text answer says. only_says p lawful text answer says
