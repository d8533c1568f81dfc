-- What comes before the intervals that begin after the number.
use Rattle.std.proofs.Common.{rules}
use Rattle.std.specs.Prelude.{int_le}
use Rattle.std.proofs.lemmas.List.Sorted.{IsPartitionPoint-from_clause}
use Rattle.dp_domain.proofs.ReachSteps.{begins_up_to, up_to_place}
use Rattle.dp_domain.proofs.intervals.up_to.Goals as goal

pub returns : goal.returns
returns c =
    let p = IsPartitionPoint-from_clause (λ y. int_le y.0 c.args.last) c.args.intervals.now c.partition_point-count.result c.partition_point-count.ensures.partitioned (begins_up_to c.args.intervals.now c.args.last c.requires) (λ a r q k. search rules) in
    up_to_place c.args.intervals.now c.args.last c.partition_point-count.result c.partition_point-count.ensures.bound p
