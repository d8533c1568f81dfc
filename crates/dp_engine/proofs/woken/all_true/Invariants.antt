use Rattle.std.proofs.Common.{◌≡◌, ℕ, true, get_or, length}
use Rattle.dp_engine.proofs.woken.all_true.Given as goal

-- all so far are true
abbrev pub invariant-loop : goal.invariant-loop
invariant-loop l = record {
  count : length l.bits.items ≡ l.counter;
  all : (k : ℕ) → get_or l.bits.items k true ≡ true;
}
