use mir.Syntax.{w64}
use Rattle.std.proofs.Common.{◌≡◌, filter}
use Rattle.std.specs.Prelude.{◌&&◌, int_le}
use Rattle.std.proofs.lemmas.Int.{to_z-of_z}
use Rattle.dp_domain.specs.Sets.{Collects, IsDomain, LiesBetween}
use Rattle.dp_lower.specs.Small.{small_numbers}
use Rattle.dp_lower.proofs.TypeLaws.{ok_both, range_made}
use Rattle.dp_lower.proofs.types.range_domain.Goals as goal

pub returns : goal.returns
returns c =
    let numbers = rw (to_z-of_z w64 c.args.first c.ranges.first, to_z-of_z w64 c.args.last c.ranges.last) at c.range.ensures.numbers in
    ok_both c.range.result IsDomain (λ d. Collects d (LiesBetween (c.args.first, c.args.last))) (λ d. d ≡ filter (λ v. int_le c.args.first v && int_le v c.args.last) small_numbers) c.range.ensures.domain numbers
    (λ d domain collects. range_made d c.args.first c.args.last c.requires.first c.requires.last domain collects)
