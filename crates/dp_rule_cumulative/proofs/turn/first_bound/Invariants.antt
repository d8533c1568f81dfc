-- The first bound of the tasks so far.
use Rattle.std.proofs.Common.{take}
use Rattle.dp_rule_cumulative.specs.Schedules.{schedule}
use Rattle.dp_rule_cumulative.specs.TimeTable.{face_cumulative}
use Rattle.dp_rule_cumulative.proofs.FirstLaws.{IsFirstOf}
use Rattle.dp_rule_cumulative.proofs.turn.first_bound.Given as goal

abbrev pub invariant-loop-task : goal.invariant-loop-task
invariant-loop-task l = IsFirstOf (face_cumulative (schedule l.tasks l.capacity)) l.state (take l.task-index l.tasks) l.first
