use Rattle.std.proofs.Common.{◌≡◌, ◌+◌, ◌≤◌, List, length, take}
use Rattle.dp_engine.specs.Debts.{IsKept}
use Rattle.dp_engine.specs.Placed.{Placed}
use Rattle.dp_engine.specs.Trails.{all_of}
use Rattle.dp_engine.proofs.engine.go_back.Given as goal

-- the states up to the mark are those at first
abbrev pub invariant-loop-trail : goal.invariant-loop-trail
invariant-loop-trail l = record {
  mark : l.mark ≤ length l.trail.past;
  kept : (parts : List Placed) → IsKept parts l.fn.debts l.fn.trail → IsKept parts l.debts l.trail;
  bits : length l.debts.now ≡ length l.fn.debts.now;
  lasting : l.debts.lasting ≡ l.fn.debts.lasting;
  states : take (l.mark + 1) (all_of l.trail) ≡ take (l.mark + 1) (all_of l.fn.trail);
}

abbrev pub decreases-loop-trail : goal.decreases-loop-trail
decreases-loop-trail l = length l.trail.past
