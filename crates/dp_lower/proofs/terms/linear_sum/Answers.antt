-- The sum of the weighted terms is over their variables.
use Rattle.std.proofs.Common.{◌≡◌, ◌≤◌, false, List, length, ℤ, sym, ◌∙◌, ap, subst}
use Rattle.dp_base.specs.Lists.{Each}
use Rattle.dp_domain.specs.Sets.{IsSmall}
use Rattle.dp_domain.specs.declared.term.Term.{Term}
use Rattle.dp_rule_linear.specs.Forms.{variables}
use Rattle.fz_sat.specs.Args.{arg_terms}
use Rattle.dp_lower.specs.Sums.{Sum, sum_of, weighted}
use Rattle.fz_facts.specs.Declared.{is_boolean}
use Rattle.dp_lower.proofs.WeightLaws.{few_pairs, linear_integers, ok_map, weighted_small}
use Rattle.dp_lower.proofs.terms.linear_sum.Goals as goal

pub of-requires-clause-few : goal.of-requires-clause-few
of-requires-clause-few c =
    let cs = arg_terms c.args.items.now c.args.args.now 0 in
    let ts = arg_terms c.args.items.now c.args.args.now 1 in
    let e : c.deref-3.result.now ≡ weighted cs ts =
    c.deref-3.ensures.value ∙ c.in_ok-pairs.ensures ∙ ap (λ us. weighted us c.deref-2.result.now) (c.deref.ensures.value ∙ c.in_ok-coefficients.ensures)
    ∙ ap (λ us. weighted cs us) (c.deref-2.ensures.value ∙ c.in_ok-terms.ensures) in
    subst (λ (ps : List (ℤ × Term)). length ps ≤ 2000000) (sym e) (few_pairs cs ts c.requires.coefficients.few)

pub of-requires-clause-small : goal.of-requires-clause-small
of-requires-clause-small c =
    let cs = arg_terms c.args.items.now c.args.args.now 0 in
    let ts = arg_terms c.args.items.now c.args.args.now 1 in
    let e : c.deref-3.result.now ≡ weighted cs ts =
    c.deref-3.ensures.value ∙ c.in_ok-pairs.ensures ∙ ap (λ us. weighted us c.deref-2.result.now) (c.deref.ensures.value ∙ c.in_ok-coefficients.ensures)
    ∙ ap (λ us. weighted cs us) (c.deref-2.ensures.value ∙ c.in_ok-terms.ensures) in
    subst (λ (ps : List (ℤ × Term)). Each (λ (t : ℤ × Term). IsSmall t.0) ps) (sym e) (weighted_small cs ts c.requires.coefficients.each)

pub returns-clause-integers : goal.returns-clause-integers
returns-clause-integers c =
    let cs = arg_terms c.args.items.now c.args.args.now 0 in
    let ts = arg_terms c.args.items.now c.args.args.now 1 in
    let e : c.deref-3.result.now ≡ weighted cs ts =
    c.deref-3.ensures.value ∙ c.in_ok-pairs.ensures ∙ ap (λ us. weighted us c.deref-2.result.now) (c.deref.ensures.value ∙ c.in_ok-coefficients.ensures)
    ∙ ap (λ us. weighted cs us) (c.deref-2.ensures.value ∙ c.in_ok-terms.ensures) in
    ok_map c.of.result (λ (q : Sum). q ≡ sum_of c.deref-3.result.now) (λ (q : Sum). Each (λ x. is_boolean c.args.items.now x ≡ false) (variables q.terms))
    (λ q is. subst (λ (p : Sum). Each (λ x. is_boolean c.args.items.now x ≡ false) (variables p.terms)) (sym (is ∙ ap sum_of e)) (linear_integers c.args.items.now cs ts c.requires.terms.each)) c.of.ensures.sum
