-- What is needed of the variables so far, whose values are domains.
use Rattle.std.proofs.Common.{◌≡◌, take}
use Rattle.std.specs.List.{flat_map}
use Rattle.dp_domain.specs.States.{fails_one}
use Rattle.dp_rule_clause.specs.Clauses.{AreDomains, reasons_on}
use Rattle.dp_rule_clause.proofs.reasons.nogood_reasons.Given as goal

abbrev pub invariant-loop-var : goal.invariant-loop-var
invariant-loop-var l = record {
  reasons : l.why.items ≡ flat_map (reasons_on (λ x. fails_one x l.atoms) l.target l.fn.initial l.now) (take l.var-index l.scope);
  domains : AreDomains l.fn.initial (take l.var-index l.scope);
}
