-- The places below the bound come first.
use Rattle.std.proofs.Common.{rules, nat_lt}
use Rattle.std.proofs.lemmas.List.Sorted.{IsPartitionPoint-from_clause}
use Rattle.dp_engine.proofs.ReachLaws.{below-first, below-parted}
use Rattle.dp_engine.proofs.reach.places_below.Goals as goal

pub returns : goal.returns
returns c =
    let p = IsPartitionPoint-from_clause (λ k. nat_lt k c.args.bound) c.args.places.now c.partition_point-count.result c.partition_point-count.ensures.partitioned (below-parted c.args.bound c.args.places.now c.requires) (λ a r q k. search rules) in
    below-first c.args.bound c.args.places.now c.partition_point-count.result c.partition_point-count.ensures.bound p
