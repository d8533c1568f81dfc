-- What is used so far, with what is left, is the whole.
use Rattle.fz_sat.specs.Satisfies.{valuation}
use Rattle.fz_sat.proofs.Usages.{IsUsedSoFar}
use Rattle.fz_sat.proofs.schedule.Schedule.usage_at.Given as goal

abbrev pub invariant-loop-place : goal.invariant-loop-place
invariant-loop-place l = IsUsedSoFar l.self.items.now (valuation l.self.values.now) l.self.starts.now l.self.durations.now l.self.uses.now l.time l.place l.usage
