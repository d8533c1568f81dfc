-- The variables of the terms, from the last on.
use Rattle.std.proofs.Common.{◌∙◌, ap}
use Rattle.dp_rule_arith.specs.Scopes.{with_term}
use Rattle.dp_rule_arith.proofs.ScopeSteps.{scope_of_three}
use Rattle.dp_rule_arith.proofs.scope.Scope.new.Goals as goal

pub returns : goal.returns
returns c =
    c.with-3.ensures.listed ∙ ap (with_term c.args.a) (c.with-2.ensures.listed ∙ ap (with_term c.args.b) c.with.ensures.listed)
    ∙ scope_of_three c.args.a c.args.b c.args.c
