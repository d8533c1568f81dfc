-- What is needed of the description is the explanation.
use Rattle.std.proofs.Common.{◌≡◌, ap, ◌∙◌}
use Rattle.std.specs.List.{flat_map}
use Rattle.dp_domain.specs.Explanations.{explanation}
use Rattle.dp_domain.specs.States.{fails_one}
use Rattle.dp_rule_clause.specs.Clauses.{AreDomains, reasons_on}
use Rattle.dp_rule_clause.specs.Nogoods.{face_nogood, scope_of}
use Rattle.dp_rule_clause.proofs.ClauseLaws.{ok_both}
use Rattle.dp_rule_clause.proofs.NogoodSteps.{nogood_explained}
use Rattle.dp_rule_clause.proofs.nogood.NogoodRule.explain.Goals as goal

pub returns : goal.returns
returns c = record {
  base = c.requires.base;
  explanation = ok_both c.nogood_reasons.result
      (λ why. why.items ≡ flat_map (reasons_on (λ x. fails_one x c.as_slice-atoms.result.now) c.args.target c.args.initial.now c.args.now.now) c.as_slice-scope.result.now)
      (λ why. AreDomains c.args.initial.now c.as_slice-scope.result.now)
      (λ why. why.items ≡ explanation (face_nogood c.args.self.now) c.args.initial.now c.args.now.now c.args.target)
      (λ why e o.
      e ∙ nogood_explained c.args.self.now c.args.initial.now c.args.now.now c.args.target c.as_slice-atoms.result.now c.as_slice-scope.result.now (c.as_slice-atoms.ensures ∙ c.self.view_is) (c.as_slice-scope.ensures ∙ c.self.invariant ∙ ap scope_of c.self.view_is)
      c.requires.covers c.requires.alive c.requires.within c.requires.open c.requires.clash o)
      c.nogood_reasons.ensures.reasons c.nogood_reasons.ensures.domains;
}
