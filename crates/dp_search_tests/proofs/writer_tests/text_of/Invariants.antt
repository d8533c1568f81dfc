use Rattle.std.proofs.Common.{◌≡◌}
use Rattle.dp_search_tests.proofs.writer_tests.text_of.Given as goal

abbrev pub invariant-loop-row : goal.invariant-loop-row
invariant-loop-row l = l.writer.count ≡ l.count
