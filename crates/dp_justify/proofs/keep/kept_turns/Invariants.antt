use Rattle.std.proofs.Common.{◌≡◌, length, map}
use Rattle.dp_base.specs.Lists.{Each}
use Rattle.dp_engine.specs.Engines.{KeepsParts, states}
use Rattle.dp_parts.specs.Problems.{posed}
use Rattle.dp_justify.specs.Taking.{IsRunTurn, IsTrail, explained_of, seen_among}
use Rattle.dp_justify.proofs.KeepLaws.{IsBack}
use Rattle.dp_justify.proofs.keep.kept_turns.Given as goal

abbrev pub invariant-loop-turn : goal.invariant-loop-turn
invariant-loop-turn l = record {
  parts : KeepsParts l.initial.engine l.engine;
  count : length l.gone.items ≡ length l.problem.initial;
  base : l.work.base ≡ l.problem.initial;
  trail : IsTrail (states l.engine) l.turns.items;
  turns : Each (IsRunTurn (posed l.problem) l.nogoods) (map (seen_among (states l.engine)) l.turns.items);
  back : IsBack l.problem.initial (map (explained_of (posed l.problem) l.nogoods) (map (seen_among (states l.initial.engine)) l.initial.turns.items))
      (map (explained_of (posed l.problem) l.nogoods) (map (seen_among (states l.engine)) l.turns.items)) l.gone.items l.steps.items;
}

abbrev pub decreases-loop-turn : goal.decreases-loop-turn
decreases-loop-turn l = length l.turns.items
