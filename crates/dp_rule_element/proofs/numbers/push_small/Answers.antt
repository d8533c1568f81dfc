-- The number is added where it is small.
use Rattle.std.proofs.Common.{◌≡◌, ◌++◌, [], ◌∷◌, ℤ, refl, subst, sym}
use Rattle.std.proofs.lemmas.Bool.{both_ways}
use Rattle.std.proofs.lemmas.Int.{to_z-of_z}
use Rattle.std.proofs.lemmas.Result.{on_ok_weaker}
use mir.Syntax.{w64}
use Rattle.dp_domain.specs.Sets.{IsSmall}
use Rattle.dp_rule_element.proofs.NumberSteps.{large_gained, one_gained}
use Rattle.dp_rule_element.proofs.numbers.push_small.Goals as goal

pub returns-then-is_small : goal.returns-then-is_small
returns-then-is_small c =
    on_ok_weaker c.push_one.result (λ e. one_gained c.args.value _ _ (subst IsSmall (to_z-of_z w64 c.args.value c.ranges.value) (c.is_small.ensures.0 c.if-is_small.true)) (subst (λ (v : ℤ). c.push_one.new.numbers.items ≡ c.args.numbers.now.items ++ (v, v) ∷ []) (to_z-of_z w64 c.args.value c.ranges.value) e)) c.push_one.ensures

pub returns-else-is_small : goal.returns-else-is_small
returns-else-is_small c =
    large_gained c.args.value _ _ (λ s. both_ways c.is_small.result c.if-is_small.false (c.is_small.ensures.1 (subst IsSmall (sym (to_z-of_z w64 c.args.value c.ranges.value)) s))) refl
