-- The search goes on with less to do.
use Rattle.std.proofs.Common.{◌≡◌}
use Rattle.std.specs.Prelude.{IfSome}
use Rattle.dp_desk.specs.Sight.{output, with_output}
use Rattle.dp_solver.specs.Marks.{asked}
use Rattle.dp_solver.specs.Rounds.{IsBest, IsSearching, work}
use Rattle.dp_solver.proofs.solving.search_on.Given as goal

abbrev pub ghost-one_round : goal.ghost-one_round
ghost-one_round g a = g.was

abbrev pub invariant-loop-end : goal.invariant-loop-end
invariant-loop-end g l = record {
  search : IsSearching (asked l.task) l.task.most g.was (output l.out (g.D.Desk.sight l.desk)) l.search;
  best : IfSome l.best (IsBest (asked l.task));
  rest : g.D.Desk.sight l.desk ≡ with_output l.out (output l.out (g.D.Desk.sight l.desk)) (g.D.Desk.sight l.initial.desk);
  faults : g.D.Desk.faults_out l.desk ≡ g.D.Desk.faults_out l.initial.desk;
  other : g.D.Desk.faults_in l.desk ≡ g.D.Desk.faults_in l.initial.desk;
}

abbrev pub decreases-loop-end : goal.decreases-loop-end
decreases-loop-end g l = work (asked l.task) l.task.most l.search l.best
