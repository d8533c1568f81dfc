use Rattle.std.proofs.Common.{◌≡◌, List, ℤ, filter, sym, ◌∙◌, subst}
use Rattle.dp_base.specs.Lists.{Each}
use Rattle.dp_domain.specs.Sets.{Collects, IsDomain, IsSmall, LiesInOne, is_among}
use Rattle.dp_lower.specs.Small.{small_numbers}
use Rattle.dp_lower.proofs.TypeLaws.{each_single, list_made, ok_both}
use Rattle.dp_lower.proofs.types.list_domain.Goals as goal

pub of-requires : goal.of-requires
of-requires c = subst (λ (is : List (ℤ × ℤ)). Each (λ (ends : ℤ × ℤ). IsSmall ends.0 × IsSmall ends.1) is) (sym (c.deref.ensures.value ∙ c.in_ok-singles.ensures)) (each_single c.args.numbers.now c.requires)

pub returns : goal.returns
returns c = ok_both c.of.result IsDomain (λ d. Collects d (LiesInOne c.deref.result.now)) (λ d. d ≡ filter (λ v. is_among v c.args.numbers.now) small_numbers) c.of.ensures.domain c.of.ensures.numbers
    (λ d domain collects. list_made d c.args.numbers.now c.deref.result.now c.requires domain (c.deref.ensures.value ∙ c.in_ok-singles.ensures) collects)
