-- The count, with the variables that are left, is of all.
use Rattle.std.proofs.Common.{◌≡◌, ◌+◌, ◌≤◌, length, drop}
use Rattle.dp_domain.specs.Terms.{term_variables}
use Rattle.dp_rule_cumulative.specs.Schedules.{starts}
use Rattle.dp_rule_cumulative.proofs.turn.variable_count.Given as goal

abbrev pub invariant-loop-task : goal.invariant-loop-task
invariant-loop-task l = record {
  counted : l.count + length (term_variables (starts (drop l.task-index l.tasks))) ≡ length (term_variables (starts l.tasks));
  few : l.count ≤ l.task-index;
}
