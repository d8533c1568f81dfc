-- The time after an early conflict can be a value.
use Rattle.std.proofs.Common.{Some, arith}
use Rattle.std.proofs.lemmas.Int.{ints}
use Rattle.dp_rule_cumulative.proofs.BoundSteps.{after_is, early_found}
use Rattle.dp_rule_cumulative.proofs.bound.new_lower.Goals as goal

pub overflow_add-time : goal.overflow_add-time
overflow_add-time c =
    let r = early_found c.args.set.now c.args.capacity c.args.task.now c.args.profile.now _ _ c.in-Some.time c.early_demand-demand.ensures.domain c.early_demand-demand.ensures.demand c.last_conflict.ensures c.in-Some.is in
    omega (arith, ints, r.small.0, r.small.1)

pub overflow_cast-time : goal.overflow_cast-time
overflow_cast-time c =
    let r = early_found c.args.set.now c.args.capacity c.args.task.now c.args.profile.now _ _ c.in-Some.time c.early_demand-demand.ensures.domain c.early_demand-demand.ensures.demand c.last_conflict.ensures c.in-Some.is in
    omega (arith, ints, r.small.0, r.small.1)

pub returns-in-Some : goal.returns-in-Some
returns-in-Some c =
    let r = early_found c.args.set.now c.args.capacity c.args.task.now c.args.profile.now _ _ c.in-Some.time c.early_demand-demand.ensures.domain c.early_demand-demand.ensures.demand c.last_conflict.ensures c.in-Some.is in
    (Some c.in-Some.time, r.last, after_is c.args.var c.args.set.now c.in-Some.time _ c.at_least.result c.at_least.ensures (omega (arith, ints, r.small.0, r.small.1)))
