use Rattle.std.proofs.Common.{◌≡◌, ◌<◌, ℕ, List, length, ◌+◌}
use Rattle.dp_desk.specs.Channel.{Takes}
use Rattle.dp_desk.specs.Sight.{input, with_input}
use Rattle.dp_command.specs.Pieces.{StaysDue}
use Rattle.dp_command.proofs.judging.judge_to_bound.Given as goal

abbrev pub invariant-loop-left : goal.invariant-loop-left
invariant-loop-left g l = record {
  read : (front : List ℕ) × Takes (input l.which (g.D.Desk.sight l.initial.desk)) (input l.which (g.D.Desk.sight l.desk)) front × g.J.LineJudge.behind l.judge front × (length front + l.left ≡ l.bound);
  due : StaysDue (g.J.LineJudge.due l.judge) (g.J.LineJudge.due l.initial.judge);
  passed : (front : List ℕ) → g.J.LineJudge.unrefused l.judge front → g.J.LineJudge.unrefused l.initial.judge front;
  room : 0 < length l.piece;
  others : g.D.Desk.sight l.desk ≡ with_input l.which (input l.which (g.D.Desk.sight l.desk)) (g.D.Desk.sight l.initial.desk);
  faults_in : g.D.Desk.faults_in l.desk ≡ g.D.Desk.faults_in l.initial.desk;
  faults_out : g.D.Desk.faults_out l.desk ≡ g.D.Desk.faults_out l.initial.desk;
}

abbrev pub decreases-loop-left : goal.decreases-loop-left
decreases-loop-left g l = l.left
