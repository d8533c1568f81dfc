-- The start that ends by a late conflict can be a value.
use Rattle.std.proofs.Common.{Some, arith}
use Rattle.std.proofs.lemmas.Int.{ints}
use Rattle.dp_rule_cumulative.proofs.BoundSteps.{before_is, late_found}
use Rattle.dp_rule_cumulative.proofs.bound.new_upper.Goals as goal

pub overflow_sub-time : goal.overflow_sub-time
overflow_sub-time c =
    let r = late_found c.args.set.now c.args.capacity c.args.task.now c.args.profile.now _ _ c.in-Some.time c.late_demand-demand.ensures.domain c.late_demand-demand.ensures.demand c.first_conflict.ensures c.in-Some.is in
    omega (arith, ints, r.small.0, r.small.1, c.from.ensures)

pub overflow_cast-time : goal.overflow_cast-time
overflow_cast-time c =
    let r = late_found c.args.set.now c.args.capacity c.args.task.now c.args.profile.now _ _ c.in-Some.time c.late_demand-demand.ensures.domain c.late_demand-demand.ensures.demand c.first_conflict.ensures c.in-Some.is in
    omega (arith, ints, r.small.0, r.small.1, c.from.ensures)

pub returns-in-Some : goal.returns-in-Some
returns-in-Some c =
    let r = late_found c.args.set.now c.args.capacity c.args.task.now c.args.profile.now _ _ c.in-Some.time c.late_demand-demand.ensures.domain c.late_demand-demand.ensures.demand c.first_conflict.ensures c.in-Some.is in
    (Some c.in-Some.time, r.first, before_is c.args.var c.args.set.now c.args.task.now.duration c.in-Some.time _ c.at_most.result c.at_most.ensures (omega (arith, ints, r.small.0, r.small.1, c.from.ensures)))
