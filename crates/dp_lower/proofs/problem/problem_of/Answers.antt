-- What the code makes keeps what every problem keeps.
use Rattle.std.proofs.Common.{◌∙◌}
use Rattle.fz_model.specs.Models.{Plan}
use Rattle.dp_lower.proofs.LowerLaws.{few_sets, problem_kept}
use Rattle.dp_lower.proofs.problem.problem_of.Goals as goal

pub new-requires : goal.new-requires
new-requires c =
    let m : Plan = record { items = c.args.items.now; constraints = c.args.constraints.now; goal = c.args.goal } in
    few_sets m c.in_ok-sets.sets.items c.requires c.in_ok-sets.ensures

pub new-requires-2 : goal.new-requires-2
new-requires-2 c =
    let m : Plan = record { items = c.args.items.now; constraints = c.args.constraints.now; goal = c.args.goal } in
    problem_kept m c.in_ok-names.field-0.names.entries c.in_ok-names.field-0.own.items c.new.result c.in_ok-parts.parts.items c.goal_of-goal.result c.requires
    c.in_ok-names.ensures.names c.in_ok-names.ensures.own (c.new.ensures ∙ c.in_ok-sets.ensures) c.in_ok-parts.ensures c.goal_of-goal.ensures
