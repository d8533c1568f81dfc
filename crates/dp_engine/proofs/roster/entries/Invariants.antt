use Rattle.std.proofs.Common.{◌≡◌, ◌++◌, map, drop}
use Rattle.dp_parts.specs.Problems.{labelled}
use Rattle.dp_engine.specs.Placed.{of_constraints}
use Rattle.dp_engine.specs.Rosters.{placed_at}
use Rattle.dp_engine.proofs.roster.entries.Given as goal

-- the parts so far and those that are left are all
abbrev pub invariant-loop-constraint : goal.invariant-loop-constraint
invariant-loop-constraint l =
    map placed_at (map (λ e. (e.id, e.part.now)) l.model.items) ++ of_constraints l.constraint (map (map labelled) (drop l.constraint l.problem.parts))
    ≡ of_constraints 0 (map (map labelled) l.problem.parts)
