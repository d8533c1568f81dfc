use Rattle.std.proofs.Common.{◌≡◌}
use Rattle.dp_lines.specs.Readers.{total}
use Rattle.dp_log_tests.proofs.readers.take.Given as goal

abbrev pub invariant-loop-place : goal.invariant-loop-place
invariant-loop-place l = (total l.reader ≡ total l.fn.reader) × (l.reader.ended ≡ l.fn.reader.ended)
