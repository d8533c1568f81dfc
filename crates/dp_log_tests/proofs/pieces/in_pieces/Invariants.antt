-- Some bytes came before, no more than are counted.
use Rattle.std.specs.Prelude.{ℕ, ◌-◌, ◌≤◌, List, length}
use Rattle.dp_log_tests.proofs.pieces.in_pieces.Given as goal

abbrev pub invariant-loop-came : goal.invariant-loop-came
invariant-loop-came g l = record {
  within : l.came ≤ length l.text;
  behind : (front : List ℕ) × g.J.LineJudge.behind l.judge front × (length front ≤ l.came);
}

abbrev pub decreases-loop-came : goal.decreases-loop-came
decreases-loop-came g l = length l.text - l.came
