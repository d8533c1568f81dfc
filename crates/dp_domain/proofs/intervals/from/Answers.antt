-- What comes after the intervals that end before the number.
use Rattle.std.proofs.Common.{◌∙◌, rules}
use Rattle.std.specs.Prelude.{int_lt}
use Rattle.std.proofs.lemmas.List.{take_rest}
use Rattle.std.proofs.lemmas.List.Sorted.{IsPartitionPoint-from_clause}
use Rattle.dp_domain.proofs.ReachSteps.{ends_before, from_place}
use Rattle.dp_domain.proofs.intervals.from.Goals as goal

pub returns : goal.returns
returns c =
    let p = IsPartitionPoint-from_clause (λ y. int_lt y.1 c.args.first) c.args.intervals.now c.partition_point-start.result c.partition_point-start.ensures.partitioned (ends_before c.args.intervals.now c.args.first c.requires) (λ a r q k. search rules) in
    take_rest c.args.intervals.now c.partition_point-start.result ∙ from_place c.args.intervals.now c.args.first c.partition_point-start.result c.partition_point-start.ensures.bound p
