use Rattle.std.proofs.Common.{◌≡◌, ℕ, [], get_or, length}
use Rattle.dp_engine.proofs.occurrences.Occurrences.new.Given as goal

-- all lists so far are empty
abbrev pub invariant-loop : goal.invariant-loop
invariant-loop l = record {
  count : length l.lists.items ≡ l.counter;
  each : (x : ℕ) → get_or l.lists.items x [] ≡ [];
}
