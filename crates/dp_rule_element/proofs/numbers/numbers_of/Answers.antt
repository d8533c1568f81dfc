-- The numbers that were added are the term's.
use Rattle.std.proofs.lemmas.Result.{IfOk-weaker}
use Rattle.dp_base.specs.Lists.{Among}
use Rattle.dp_domain.specs.Sets.{Collects, IsSmall, LiesInOne}
use Rattle.dp_domain.specs.Terms.{term_values}
use Rattle.dp_rule_element.proofs.NumberSteps.{term_collected, term_small}
use Rattle.dp_rule_element.proofs.numbers.numbers_of.Goals as goal

pub of-requires : goal.of-requires
of-requires c = term_small (λ v. Among v (term_values c.args.state.now c.args.term.now)) _ _ _ c.new-numbers.ensures.items c.as_slice.ensures.value c.in_ok-push_numbers.ensures

pub returns-clause-numbers : goal.returns-clause-numbers
returns-clause-numbers c =
    IfOk-weaker c.of.result (λ s. Collects s (LiesInOne c.as_slice.result.now)) (λ s. Collects s (λ v. IsSmall v × Among v (term_values c.args.state.now c.args.term.now)))
    (λ s k. term_collected c.args.state.now c.args.term.now _ _ c.as_slice.result.now s c.new-numbers.ensures.items c.as_slice.ensures.value c.in_ok-push_numbers.ensures k)
    c.of.ensures.numbers
