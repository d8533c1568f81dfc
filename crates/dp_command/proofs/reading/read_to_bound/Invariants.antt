use Rattle.std.proofs.Common.{◌≡◌, ◌<◌, ◌≤◌, ◌-◌, length}
use Rattle.dp_desk.specs.Channel.{Takes}
use Rattle.dp_desk.specs.Sight.{input, with_input}
use Rattle.dp_command.proofs.reading.read_to_bound.Given as goal

abbrev pub invariant-loop-piece : goal.invariant-loop-piece
invariant-loop-piece g l = record {
  took : Takes (input l.which (g.D.Desk.sight l.initial.desk)) (input l.which (g.D.Desk.sight l.desk)) l.bytes.items;
  within : length l.bytes.items ≤ l.bound;
  room : 0 < length l.piece;
  others : g.D.Desk.sight l.desk ≡ with_input l.which (input l.which (g.D.Desk.sight l.desk)) (g.D.Desk.sight l.initial.desk);
  faults_in : g.D.Desk.faults_in l.desk ≡ g.D.Desk.faults_in l.initial.desk;
  faults_out : g.D.Desk.faults_out l.desk ≡ g.D.Desk.faults_out l.initial.desk;
}

abbrev pub decreases-loop-piece : goal.decreases-loop-piece
decreases-loop-piece g l = l.bound - length l.bytes.items
