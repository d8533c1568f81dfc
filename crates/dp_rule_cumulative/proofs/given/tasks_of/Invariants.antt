-- The tasks so far are the first of those to make.
use Rattle.std.proofs.Common.{◌≡◌, map, take}
use Rattle.std.specs.List.{zip}
use Rattle.dp_rule_cumulative.specs.Schedules.{task_of}
use Rattle.dp_rule_cumulative.proofs.given.tasks_of.Given as goal

abbrev pub invariant-loop-place : goal.invariant-loop-place
invariant-loop-place l = l.tasks.items ≡ take l.place (map task_of (zip l.starts (zip l.durations l.uses)))
