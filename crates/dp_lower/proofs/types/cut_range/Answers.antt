use mir.Syntax.{w64}
use Rattle.std.proofs.lemmas.Int.{to_z-of_z}
use Rattle.dp_lower.proofs.TypeLaws.{cut_made}
use Rattle.dp_lower.proofs.types.cut_range.Goals as goal

pub returns : goal.returns
returns c =
    let first = rw (to_z-of_z w64 c.args.first c.ranges.first) at c.bound.ensures in
    let last = rw (to_z-of_z w64 c.args.last c.ranges.last) at c.bound-2.ensures in
    cut_made c.args.set.now c.exclude.new.self c.exclude-2.new.self _ _ c.args.first c.args.last first last c.in_ok-exclude.ensures.kept c.in_ok-exclude-2.ensures.kept
