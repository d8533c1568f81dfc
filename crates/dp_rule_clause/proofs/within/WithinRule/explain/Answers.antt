-- What is needed of the description is the explanation.
use Rattle.std.proofs.Common.{◌≡◌, ◌∙◌}
use Rattle.std.specs.List.{flat_map}
use Rattle.dp_domain.specs.Explanations.{explanation}
use Rattle.dp_rule_clause.specs.Clauses.{AreDomains, reasons_on}
use Rattle.dp_rule_clause.specs.Restrictions.{Restriction, escapes, face_within, scope_of}
use Rattle.dp_rule_clause.proofs.ClauseLaws.{ok_both}
use Rattle.dp_rule_clause.proofs.RestrictionSteps.{within_explained}
use Rattle.dp_rule_clause.proofs.within.WithinRule.explain.Goals as goal

pub returns : goal.returns
returns c =
    let p : Restriction = record { condition = c.self.inside.cond; var = c.self.inside.var; set = c.self.inside.set } in
    record {
      base = c.requires.base;
      explanation = ok_both c.restriction_reasons.result
          (λ why. why.items ≡ flat_map (reasons_on (escapes p) c.args.target c.args.initial.now c.args.now.now) (scope_of p))
          (λ why. AreDomains c.args.initial.now (scope_of p))
          (λ why. why.items ≡ explanation (face_within c.args.self.now) c.args.initial.now c.args.now.now c.args.target)
          (λ why e o. e ∙ within_explained c.args.self.now p c.args.initial.now c.args.now.now c.args.target c.self.view_is c.self.invariant c.requires.covers c.requires.alive c.requires.within c.requires.open c.requires.clash o)
          c.restriction_reasons.ensures.reasons c.restriction_reasons.ensures.domains;
    }
