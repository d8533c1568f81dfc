use Rattle.std.proofs.Common.{◌≡◌, ◌^◌, true, List, filter, ℤ, pos, neg_ℤ, refl, ◌∙◌}
use Rattle.std.specs.Prelude.{◌&&◌, int_le}
use Rattle.fz_sat.specs.Satisfies.{is_of_type}
use Rattle.dp_lower.specs.Small.{small_numbers}
use Rattle.dp_lower.proofs.WeightLaws.{ok_map}
use Rattle.dp_lower.proofs.TypeLaws.{all_small, filter_same}
use Rattle.dp_lower.proofs.types.type_domain.Goals as goal

pub returns-in-Int : goal.returns-in-Int
returns-in-Int c =
    ok_map c.range_domain-in-Int.result (λ (d : List ℤ). d ≡ filter (λ v. int_le (neg_ℤ (pos (10 ^ 9))) v && int_le v (pos (10 ^ 9))) small_numbers) (λ (d : List ℤ). d ≡ filter (is_of_type c.args.kind.now) small_numbers)
    (λ d is. is ∙ all_small ∙ filter_same (λ v. true) (is_of_type c.args.kind.now) small_numbers (λ v. rw c.in-Int.is refl)) c.range_domain-in-Int.ensures
