-- All keep the capacity where those that are left do.
use Rattle.std.proofs.Common.{◌≡◌}
use Rattle.std.specs.List.{list_all}
use Rattle.fz_sat.specs.Globals.{keeps_around}
use Rattle.fz_sat.specs.Satisfies.{valuation}
use Rattle.fz_sat.specs.Schedules.{element_tasks}
use Rattle.fz_sat.proofs.Usages.{tasks_from}
use Rattle.fz_sat.proofs.schedule.Schedule.keeps.Given as goal

abbrev pub invariant-loop-place : goal.invariant-loop-place
invariant-loop-place l =
    let s = valuation l.self.values.now in
    let tasks = element_tasks l.self.items.now s l.self.starts.now l.self.durations.now l.self.uses.now in
    list_all (keeps_around tasks l.self.capacity) (tasks_from l.self.items.now s l.self.starts.now l.self.durations.now l.self.uses.now l.place) ≡ list_all (keeps_around tasks l.self.capacity) tasks
