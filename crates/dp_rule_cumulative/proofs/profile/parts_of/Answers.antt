-- The start of each task is of the state, and each task adds its part.
use Rattle.dp_rule_cumulative.proofs.UsageSteps.{term_at_place}
use Rattle.dp_rule_cumulative.proofs.profile.parts_of.Goals as goal

pub push_part-requires : goal.push_part-requires
push_part-requires c = term_at_place _ c.args.tasks.now c.loop-task.task-index c.task-item.result c.requires c.loop-task-test.true c.task-item.is
