-- The variables are as many as the scope has where none stands again.
use Rattle.dp_domain.specs.Terms.{term_variables}
use Rattle.dp_rule_alldiff.proofs.OnceLaws.{once_decided}
use Rattle.dp_rule_alldiff.proofs.once.stand_once.Goals as goal

pub returns : goal.returns
returns c = once_decided (term_variables c.args.terms.now) c.args.scope.now c.variables.result c.variables.ensures c.requires
