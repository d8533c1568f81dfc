-- The parts of the tasks so far.
use Rattle.std.proofs.Common.{◌≡◌, take}
use Rattle.dp_rule_cumulative.specs.Profiles.{parts_of}
use Rattle.dp_rule_cumulative.proofs.profile.parts_of.Given as goal

abbrev pub invariant-loop-task : goal.invariant-loop-task
invariant-loop-task l = l.parts.items ≡ parts_of l.state (take l.task-index l.tasks)
