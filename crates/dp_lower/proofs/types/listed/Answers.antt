use Rattle.std.proofs.Common.{◌≡◌, List, ℤ, filter, map, refl, sym, ◌∙◌, ap, subst}
use Rattle.dp_base.specs.Lists.{Each}
use Rattle.dp_domain.specs.Sets.{Collects, IsDomain, IsSmall, LiesInOne, is_among}
use Rattle.dp_lower.proofs.TypeLaws.{each_single, kept_made, kept_small, ok_both}
use Rattle.dp_lower.proofs.types.listed.Goals as goal

pub of-requires : goal.of-requires
of-requires c =
    let e : c.deref-2.result.now ≡ map (λ w. (w, w)) (filter (λ v. is_among v c.args.set.now) c.args.numbers.now) =
    c.deref-2.ensures.value ∙ c.in_ok-singles.ensures ∙ ap (map (λ w. (w, w))) (c.deref.ensures.value ∙ c.in_ok-kept.ensures) in
    subst (λ (is : List (ℤ × ℤ)). Each (λ (ends : ℤ × ℤ). IsSmall ends.0 × IsSmall ends.1) is) (sym e) (each_single (filter (λ v. is_among v c.args.set.now) c.args.numbers.now) (kept_small c.args.set.now c.args.numbers.now c.lower.ensures.domain))

pub returns : goal.returns
returns c =
    let e : c.deref-2.result.now ≡ map (λ w. (w, w)) (filter (λ v. is_among v c.args.set.now) c.args.numbers.now) =
    c.deref-2.ensures.value ∙ c.in_ok-singles.ensures ∙ ap (map (λ w. (w, w))) (c.deref.ensures.value ∙ c.in_ok-kept.ensures) in
    ok_both c.of.result IsDomain (λ d. Collects d (LiesInOne c.deref-2.result.now)) (λ d. d ≡ filter (λ v. is_among v c.args.numbers.now) c.args.set.now) c.of.ensures.domain c.of.ensures.numbers
    (λ d domain collects. kept_made d c.args.set.now c.args.numbers.now (filter (λ v. is_among v c.args.set.now) c.args.numbers.now) c.deref-2.result.now domain c.lower.ensures.domain refl e collects)
