use Rattle.std.proofs.Common.{take}
use Rattle.dp_engine.specs.Rosters.{all_placed}
use Rattle.dp_engine.specs.Woken.{IsIndex}
use Rattle.dp_engine.proofs.roster.Roster.occurrences.Given as goal

-- the parts so far are entered
abbrev pub invariant-loop-place : goal.invariant-loop-place
invariant-loop-place l = IsIndex l.variables (take l.place (all_placed l.self)) l.occurrences
