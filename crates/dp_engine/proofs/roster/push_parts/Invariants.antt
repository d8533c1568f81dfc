use Rattle.std.proofs.Common.{◌≡◌, ◌++◌, map, drop}
use Rattle.dp_parts.specs.Problems.{labelled}
use Rattle.dp_engine.specs.Placed.{of_constraint}
use Rattle.dp_engine.specs.Rosters.{placed_at}
use Rattle.dp_engine.proofs.roster.push_parts.Given as goal

-- the parts so far and those that are left are those before and all
abbrev pub invariant-loop-place : goal.invariant-loop-place
invariant-loop-place l =
    map placed_at (map (λ e. (e.id, e.part.now)) l.model.items) ++ of_constraint l.constraint l.place (map labelled (drop l.place l.parts))
    ≡ map placed_at (map (λ e. (e.id, e.part.now)) l.initial.model.items) ++ of_constraint l.constraint 0 (map labelled l.parts)
