-- The number is one of the set, so it can be named.
use Rattle.std.proofs.Common.{◌≡◌, Some, ◌∙◌, sym, ap, arith, int_le, FitsSigned, rules}
use Rattle.std.specs.List.{filter}
use Rattle.std.proofs.lemmas.Int.{ints, to_z-of_z}
use mir.Syntax.{w64}
use Rattle.dp_domain.specs.Sets.{greatest}
use Rattle.dp_rule_cumulative.proofs.BoundSteps.{greatest_made, greatest_small}
use Rattle.dp_rule_cumulative.proofs.bound.at_most.Goals as goal

pub returns : goal.returns
returns c =
    let xs = c.args.set.now in
    let fits : FitsSigned w64 c.args.value = search rules in
    let found : greatest (filter (λ v. int_le v c.args.value) xs) ≡ Some c.in_ok-number.number =
    sym (c.greatest_to.ensures ∙ ap (λ u. greatest (filter (λ v. int_le v u) xs)) (to_z-of_z w64 _ fits)) ∙ c.in_ok-number.was in
    let small = greatest_small xs c.args.value c.in_ok-number.number c.requires found in
    greatest_made c.args.var xs c.args.value _ c.in_ok-number.number c.new.result found small (omega (arith, ints, small.0, small.1)) c.new.ensures.nameable c.new.ensures.atom
