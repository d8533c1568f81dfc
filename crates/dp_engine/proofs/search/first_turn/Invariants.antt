use Rattle.std.proofs.Common.{◌≡◌, ◌+◌, ◌≤◌, List, [], length}
use Rattle.dp_domain.specs.States.{Domains}
use Rattle.dp_engine.specs.Debts.{AreKept}
use Rattle.dp_engine.specs.Rests.{Rest}
use Rattle.dp_engine.specs.Rosters.{all_placed}
use Rattle.dp_engine.specs.Woken.{owed_of}
use Rattle.dp_engine.proofs.search.first_turn.Given as goal

-- parts were put to rest, each after a search
abbrev pub invariant-loop-place : goal.invariant-loop-place
invariant-loop-place g l = record {
  count : length l.debts.now ≡ length l.initial.debts.now;
  lasting : l.debts.lasting ≡ l.initial.debts.lasting;
  rest : Rest (all_placed l.roster) l.debts.now l.state;
  earlier : (past : List Domains) → AreKept (all_placed l.roster) l.initial.debts.lasting l.initial.debts.notes [] l.initial.debts.now l.state past
      → AreKept (all_placed l.roster) l.debts.lasting l.debts.notes [] l.debts.now l.state past;
  more : l.initial.steps ≤ l.steps;
  sum : l.steps + owed_of l.debts.now ≡ l.initial.steps + owed_of l.initial.debts.now;
}

abbrev pub decreases-loop-place : goal.decreases-loop-place
decreases-loop-place g l = owed_of l.debts.now
