use Rattle.dp_grammar.proofs.Only.{only_says}
use Rattle.dp_grammar.proofs.Wholes.{whole_says}
use Rattle.fz_model.specs.ModelText.{model}
use Rattle.fz_model.proofs.ModelLaws.{model_lawful}
use Rattle.fz_model.proofs.laws.exactness.Goals as goal

pub returns-clause-says : goal.returns-clause-says
returns-clause-says c = λ words. whole_says model model_lawful words

pub returns-clause-only : goal.returns-clause-only
returns-clause-only c = λ words answer says. only_says model model_lawful words answer says
