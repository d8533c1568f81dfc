use Rattle.std.proofs.Common.{◌≡◌, ◌+◌, ◌-◌, ◌≤◌, true, drop, length, take}
use Rattle.dp_lines.specs.Kept.{has_no_feed}
use Rattle.dp_lines.specs.RawLines.{raw_lines}
use Rattle.dp_lines.specs.Readers.{step_from}
use Rattle.dp_lines.proofs.step.first_step.Given as goal

abbrev pub invariant-loop-bytes : goal.invariant-loop-bytes
invariant-loop-bytes l = record {
  step : step_from l.limits l.ended l.passed l.count l.used (raw_lines (drop l.used l.held)) ≡ step_from l.limits l.ended l.passed l.fn.count 0 (raw_lines l.held);
  within : l.used ≤ length l.held;
  lines : l.count ≤ l.passed + l.used;
  cleared : l.clear ≤ length (drop l.used l.held);
  no_feed : has_no_feed (take l.clear (drop l.used l.held)) ≡ true;
}

abbrev pub decreases-loop-bytes : goal.decreases-loop-bytes
decreases-loop-bytes l = length l.held - l.used
