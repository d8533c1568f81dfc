use Rattle.std.proofs.Common.{◌≡◌, false}
use Rattle.dp_lines.specs.Readers.{total}
use Rattle.dp_log_tests.proofs.readers.bytewise.Given as goal

abbrev pub invariant-loop-byte : goal.invariant-loop-byte
invariant-loop-byte l = (total l.reader ≡ l.byte-index) × (l.reader.ended ≡ false)
